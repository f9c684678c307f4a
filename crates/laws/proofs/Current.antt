-- Current memory is the starting memory with the accepted writes, and a read gives its word.
use Rattle.std.specs.Prelude.{Ok}
use Prim.Native.Nat.{suc, zero, ℕ}
use mathlib.Core.Path.{◌∙◌, ◌≡◌, ap, refl}
use mathlib.Core.Bool.{true}
use mathlib.Core.List.{List, ◌∷◌}
use lib.Dec.{eqb}
use lib.ListN.{get_or}
use native.Mathlib.Omega.{arith}
use Rattle.laws.proofs.Along.{along}
use Rattle.laws.specs.Laws.{ReadGives}
use Rattle.laws.specs.Words.{all_applied}
use Rattle.rules.specs.Access.{change_line, logged, needs_log, stored, stored_in, write}
use Rattle.rules.specs.Acknowledge.{data_ack, log_ack}
use Rattle.rules.specs.Claim.{board_after, is_byte_memory}
use Rattle.rules.specs.End.{end_region}
use Rattle.rules.specs.Flight.{flown}
use Rattle.rules.specs.History.{Account, accepted_in, account_of, writes_in}
use Rattle.rules.specs.Record.{read_record}
use Rattle.rules.specs.Refusal.{depth_of, refusal}
use Rattle.rules.specs.Step.{apply, settled_board, step, step_by, step_event}
use Rattle.rules.specs.Tables.{Memory, current, fresh, line_of, start_lines}
use Rattle.rules.specs.declared.Board.{Board}
use Rattle.rules.specs.declared.Event.{Event}
use Rattle.rules.specs.declared.Event.TheVariants.{Begin, Cut, DataAck, End, Fence, LogAck, Read, Setup, Write}
use Rattle.undo.proofs.Laws.{test}

abbrev Told : List (List ℕ) → Board → List Account → Type 0
Told m b es = b.cur ≡ all_applied (writes_in es) m

told_after : (m : List (List ℕ)) (b : Board) (es : List Account) (e : Event) → Told m b es → Told m (apply b e).board (account_of e ∷ es)
unfolding apply settled_board end_region log_ack data_ack flown stored logged write writes_in all_applied
told_after m b es (Setup n l s) h = h
told_after m b es (Begin t) h = h
told_after m b es (End t) h = test (eqb (depth_of t b.tables) 1) (λ d. rw d h) (λ d. rw d h)
told_after m b es (Read t l w) h = h
told_after m b es (Write t l w mask v) h =
    let e = ap (change_line l (stored_in w mask v)) h in test (needs_log (current t b.tables) l b.tables) (λ d. rw d e) (λ d. rw d e)
told_after m b es (LogAck l) h = h
told_after m b es (DataAck l) h = h
told_after m b es (Fence t) h = h
told_after m b es Cut h = h

-- current memory after every list of records
pub current_memory : (m : Memory) (rs : List (List ℕ)) → is_byte_memory m ≡ true → (board_after m rs).cur ≡ all_applied (writes_in (accepted_in m rs)) (start_lines m)
unfolding fresh writes_in all_applied
current_memory m rs bm = along m (λ b es n. Told (start_lines m) b es) (λ b es n e r k h. told_after (start_lines m) b es e h) refl rs bm

-- the value of an accepted event, and the board behind it
pub value_is : (b : Board) (r : List ℕ) (e : Event) → read_record r ≡ Ok e → (step b r).answer.refusal ≡ 0
    → ((step b r).answer.value ≡ (apply b e).value) × (refusal b.tables e ≡ 0) × ((step b r).board ≡ (apply b e).board)
unfolding step step_event step_by
value_is b r e q z = rw q (go (refusal b.tables e) (rw q at z))
  where
    go : (c : ℕ) → (step_by c b e).answer.refusal ≡ 0 → ((step_by c b e).answer.value ≡ (apply b e).value) × (c ≡ 0) × ((step_by c b e).board ≡ (apply b e).board)
    go zero z = (refl, refl, refl)
    go (suc c) z = absurd (omega arith)

pub read_gives : ReadGives
unfolding apply
read_gives m rs bm br r t l w a = (value_is (board_after m rs) r (Read t l w) a.is a.unrefused).0 ∙ ap (λ c. get_or (line_of l c) w 0) (current_memory m rs bm)
