-- The board is cut exactly if a cut is among the accepted events; the commits of a step leave that, and the numbers of the setup.
use Rattle.std.specs.Prelude.{Err, Ok}
use Prim.Native.Nat.{suc, zero, ℕ}
use mathlib.Core.Path.{◌∙◌, ◌≡◌, refl}
use mathlib.Core.Bool.{Bool, false, true}
use mathlib.Core.List.{List, [], ◌∷◌, map}
use lib.Dec.{eqb}
use lib.ListN.{length}
use Rattle.rules.specs.Access.{logged, needs_log, note_read, read, stored, write}
use Rattle.rules.specs.Acknowledge.{data_ack, log_ack, unlocked}
use Rattle.rules.specs.Begin.{begin, opened}
use Rattle.rules.specs.Claim.{board_after}
use Rattle.rules.specs.Commit.{Settled, before, commit, commits, done_region, earliest, settle, settled}
use Rattle.rules.specs.End.{closed, end_region, outside}
use Rattle.rules.specs.Flight.{flown}
use Rattle.rules.specs.History.{Account, accepted_from, accepted_in, account_of, has_cut, noted}
use Rattle.rules.specs.Record.{read_record}
use Rattle.rules.specs.Refusal.{depth_of, refusal}
use Rattle.rules.specs.Run.{run}
use Rattle.rules.specs.Step.{apply, settled_board, setup, step, step_by, step_event, step_read}
use Rattle.rules.specs.Tables.{Memory, current, fresh, with_regions}
use Rattle.rules.specs.declared.Board.{Board}
use Rattle.rules.specs.declared.Event.{Event}
use Rattle.rules.specs.declared.Event.TheVariants.{Begin, Cut, DataAck, End, Fence, LogAck, Read, Setup, Write}
use Rattle.rules.specs.Record.{Reading}
use Rattle.rules.specs.declared.Tables.{Tables}
use Rattle.undo.proofs.Laws.{test}

-- what a commit keeps of the tables is kept by all commits of a step
settle_keeps : {A : Type 0} (f : Tables → A) → ((k : ℕ) (ts : Tables) → f (commit k ts) ≡ f ts) → (n : ℕ) (ts : Tables) → f (settle n ts).tables ≡ f ts
unfolding settle
settle_keeps f h zero ts = refl
settle_keeps f h (suc n) ts = go (commits (earliest ts.regions)) (settle_keeps f h n (commit (earliest ts.regions).key ts))
  where
    go : (x : Bool) → f (settle n (commit (earliest ts.regions).key ts)).tables ≡ f (commit (earliest ts.regions).key ts)
        → f (elim x as (λ y. Settled) [
          | false ↦ record { tables = ts; keys = [] }
          | true ↦ before (earliest ts.regions).key (settle n (commit (earliest ts.regions).key ts))
        ]).tables ≡ f ts
    go false e = refl
    go true e = e ∙ h (earliest ts.regions).key ts

settled_cut : (b : Board) → (settled_board b).board.tables.cut ≡ b.tables.cut
unfolding settled_board settled commit
settled_cut b = settle_keeps (λ ts. ts.cut) (λ k ts. refl) (length b.tables.regions) (with_regions (map done_region b.tables.regions) b.tables)

pub settled_size : (b : Board) → (settled_board b).board.tables.size ≡ b.tables.size
unfolding settled_board settled commit
settled_size b = settle_keeps (λ ts. ts.size) (λ k ts. refl) (length b.tables.regions) (with_regions (map done_region b.tables.regions) b.tables)

apply_cut : (b : Board) (e : Event) (es : List Account) → b.tables.cut ≡ has_cut es → (apply b e).board.tables.cut ≡ has_cut (account_of e ∷ es)
unfolding apply setup begin opened read note_read write stored logged flown log_ack unlocked data_ack end_region closed outside
apply_cut b (Setup n l s) es h = h
apply_cut b (Begin t) es h = test (eqb (depth_of t b.tables) 0) (λ d. rw d h) (λ d. rw d h)
apply_cut b (End t) es h = test (eqb (depth_of t b.tables) 1) (λ d. rw d (settled_cut (end_region t b) ∙ h)) (λ d. rw d h)
apply_cut b (Read t l w) es h = h
apply_cut b (Write t l w mask v) es h = test (needs_log (current t b.tables) l b.tables) (λ d. rw d h) (λ d. rw d h)
apply_cut b (LogAck l) es h = settled_cut (log_ack l b) ∙ h
apply_cut b (DataAck l) es h = settled_cut (data_ack l b) ∙ h
apply_cut b (Fence t) es h = h
apply_cut b Cut es h = refl

step_cut : (b : Board) (x : Reading) (es : List Account) → b.tables.cut ≡ has_cut es
    → (step_read b x).board.tables.cut ≡ has_cut (noted (step_read b x).answer.refusal x es)
unfolding step_event step_by
step_cut b (Err zero) es h = h
step_cut b (Err (suc n)) es h = h
step_cut b (Ok e) es h = go (refusal b.tables e)
  where
    go : (n : ℕ) → (step_by n b e).board.tables.cut ≡ has_cut (noted (step_by n b e).answer.refusal (Ok e) es)
    go zero = apply_cut b e es h
    go (suc n) = h

run_cut : (rs : List (List ℕ)) (b : Board) (es : List Account) → b.tables.cut ≡ has_cut es → (run b rs).board.tables.cut ≡ has_cut (accepted_from b rs es)
unfolding run accepted_from step
run_cut [] b es h = h
run_cut (r ∷ rs) b es h = run_cut rs (step b r).board (noted (step b r).answer.refusal (read_record r) es) (step_cut b (read_record r) es h)

pub cut_is : (m : Memory) (rs : List (List ℕ)) → (board_after m rs).tables.cut ≡ has_cut (accepted_in m rs)
unfolding fresh
cut_is m rs = run_cut rs (fresh m) [] refl
