-- Induction along a list of records: what holds at the fresh board and is kept by each accepted event holds after every list.
use Rattle.std.specs.Prelude.{Err, Ok}
use Prim.Native.Nat.{◌+◌, suc, zero, ℕ}
use mathlib.Core.Path.{◌≡◌, refl, subst}
use mathlib.Core.Bool.{true}
use mathlib.Core.List.{List, [], ◌∷◌}
use native.Mathlib.Omega.{arith}
use Rattle.laws.specs.Words.{told_by, told_in, told_of}
use Rattle.rules.proofs.Sim.State.{Kept}
use Rattle.rules.proofs.Sim.All.{step_kept}
use Rattle.rules.proofs.Start.{initially}
use Rattle.rules.specs.Claim.{board_after, is_byte_memory}
use Rattle.rules.specs.History.{Account, accepted_from, accepted_in, account_of, noted}
use Rattle.rules.specs.Record.{read_record}
use Rattle.rules.specs.Refusal.{refusal}
use Rattle.rules.specs.Run.{run}
use Rattle.rules.specs.Step.{apply, step, step_by, step_event, step_read}
use Rattle.rules.specs.Tables.{Memory, fresh}
use Rattle.rules.specs.declared.Board.{Board}
use Rattle.rules.specs.declared.Event.{Event}
use Rattle.rules.specs.declared.Event.TheVariants.{Begin, Cut, DataAck, End, Fence, LogAck, Read, Setup, Write}
use Rattle.rules.specs.Record.{Reading}

-- a refusal tells no commit
told_nothing : (e : Event) → told_of e 0 ≡ 0
told_nothing (Setup n l s) = refl
told_nothing (Begin t) = refl
told_nothing (End t) = refl
told_nothing (Read t l w) = refl
told_nothing (Write t l w mask v) = refl
told_nothing (LogAck l) = refl
told_nothing (DataAck l) = refl
told_nothing (Fence t) = refl
told_nothing Cut = refl

-- P speaks of the board, the accepted events and the commits told so far
module _ (m : Memory) (P : Board → List Account → ℕ → Type 0)
    (kept : (b : Board) (es : List Account) (n : ℕ) (e : Event) → refusal b.tables e ≡ 0 → Kept m b es → P b es n
    → P (apply b e).board (account_of e ∷ es) (n + told_of e (apply b e).value)) where
  -- nothing more is told
  no_more : (b : Board) (es : List Account) (n k : ℕ) → k ≡ 0 → P b es n → P b es (n + k)
  no_more b es n k z p = subst (P b es) (let q : n ≡ n + k = omega arith in q) p

  one : (b : Board) (es : List Account) (n : ℕ) (x : Reading) → Kept m b es → P b es n
      → P (step_read b x).board (noted (step_read b x).answer.refusal x es) (n + told_by x (step_read b x).answer)
  unfolding step_event step_by
  one b es n (Err zero) k p = no_more b es n 0 refl p
  one b es n (Err (suc c)) k p = no_more b es n 0 refl p
  one b es n (Ok e) k p = go (refusal b.tables e) refl
    where
      go : (c : ℕ) → refusal b.tables e ≡ c
          → P (step_by c b e).board (noted (step_by c b e).answer.refusal (Ok e) es) (n + told_of e (step_by c b e).answer.value)
      go zero r = kept b es n e r k p
      go (suc c) r = no_more b es n (told_of e 0) (told_nothing e) p

  many : (rs : List (List ℕ)) (b : Board) (es : List Account) (n : ℕ) → Kept m b es → P b es n
      → P (run b rs).board (accepted_from b rs es) (n + told_in rs (run b rs).answers)
  unfolding run accepted_from step told_in
  many [] b es n k p = no_more b es n 0 refl p
  many (r ∷ rs) b es n k p =
      let p' : P (step b r).board (noted (step b r).answer.refusal (read_record r) es) (n + told_by (read_record r) (step b r).answer)
      = one b es n (read_record r) k p in
      let k' : Kept m (step b r).board (noted (step b r).answer.refusal (read_record r) es) = step_kept m b es (read_record r) k in
      subst (P (run (step b r).board rs).board (accepted_from (step b r).board rs (noted (step b r).answer.refusal (read_record r) es)))
      (let q : (n + told_by (read_record r) (step b r).answer) + told_in rs (run (step b r).board rs).answers
      ≡ n + (told_by (read_record r) (step b r).answer + told_in rs (run (step b r).board rs).answers) = omega arith in q)
      (many rs (step b r).board (noted (step b r).answer.refusal (read_record r) es) (n + told_by (read_record r) (step b r).answer) k' p')

  pub along : P (fresh m) [] 0 → (rs : List (List ℕ)) → is_byte_memory m ≡ true
      → P (board_after m rs) (accepted_in m rs) (told_in rs (run (fresh m) rs).answers)
  along p rs bm =
      subst (P (board_after m rs) (accepted_in m rs)) (let q : 0 + told_in rs (run (fresh m) rs).answers ≡ told_in rs (run (fresh m) rs).answers = omega arith in q)
      (many rs (fresh m) [] 0 (initially m bm) p)
