-- Every list of event records: after it some reachable state of the undo log has the board's tables.
use Rattle.std.specs.Prelude.{Err, Ok}
use Prim.Native.Nat.{suc, zero, ℕ}
use mathlib.Core.Path.{◌≡◌, refl}
use mathlib.Core.Bool.{true}
use mathlib.Core.List.{List, [], ◌∷◌}
use lib.Dec.{eqb}
use borrow.Author.Tests.{leb-false}
use Rattle.rules.proofs.Sim.State.{Keeps, Kept}
use Rattle.rules.proofs.Sim.Access.{read_keeps}
use Rattle.rules.proofs.Sim.Ack.{log_ack_lem}
use Rattle.rules.proofs.Sim.Commit.{settles}
use Rattle.rules.proofs.Sim.Data.{keeps_data}
use Rattle.rules.proofs.Sim.End.{ends_region}
use Rattle.rules.proofs.Sim.Begin.{keeps_begin}
use Rattle.rules.proofs.Sim.Depth.{keeps_cut, keeps_fence, keeps_setup, keeps_shallower}
use Rattle.rules.proofs.Sim.Write.{write_keeps}
use Rattle.rules.proofs.Start.{initially}
use Rattle.rules.specs.Claim.{board_after, is_byte_memory}
use Rattle.rules.specs.History.{Account, accepted_from, accepted_in, noted}
use Rattle.rules.specs.Record.{read_record}
use Rattle.rules.specs.Refusal.{depth_of, refusal, tests_of}
use Rattle.rules.specs.Run.{run}
use Rattle.rules.specs.Step.{apply, step, step_by, step_event, step_read}
use Rattle.rules.specs.Tables.{Memory, fresh}
use Rattle.rules.specs.declared.Board.{Board}
use Rattle.rules.specs.declared.Event.{Event}
use Rattle.rules.specs.declared.Event.TheVariants.{Begin, Cut, DataAck, End, Fence, LogAck, Read, Setup, Write}
use Rattle.rules.specs.Record.{Reading}
use Rattle.undo.proofs.Laws.{test}
use Rattle.rules.proofs.Tests.{passed}

pub keeps_end : (t : ℕ) → Keeps (End t)
unfolding apply tests_of
keeps_end t m b es r k =
    test (eqb (depth_of t b.tables) 1)
    (λ d. let z = ends_region t m b es r d k in rw d (settles z.0 z.1))
    (λ d. rw d (keeps_shallower t m b es (leb-false b.tables.size.threads t (passed b.tables (End t) r 3)) (passed b.tables (End t) r 12) d k))

pub keeps_log : (l : ℕ) → Keeps (LogAck l)
unfolding apply
keeps_log l m b es r k = let z = log_ack_lem l m b es r k in settles z.0 z.1

-- ---- each event keeps the relation, and so does each list of records

pub keeps : (e : Event) → Keeps e
keeps (Setup n l s) = keeps_setup n l s
keeps (Begin t) = keeps_begin t
keeps (End t) = keeps_end t
keeps (Read t l w) = read_keeps t l w
keeps (Write t l w mask v) = write_keeps t l w mask v
keeps (LogAck l) = keeps_log l
keeps (DataAck l) = keeps_data l
keeps (Fence t) = keeps_fence t
keeps Cut = keeps_cut

pub step_kept : (m : Memory) (b : Board) (es : List Account) (x : Reading) → Kept m b es
    → Kept m (step_read b x).board (noted (step_read b x).answer.refusal x es)
unfolding step_event step_by
step_kept m b es (Err zero) k = k
step_kept m b es (Err (suc n)) k = k
step_kept m b es (Ok e) k = go (refusal b.tables e) refl
  where
    go : (n : ℕ) → refusal b.tables e ≡ n → Kept m (step_by n b e).board (noted (step_by n b e).answer.refusal (Ok e) es)
    go zero r = keeps e m b es r k
    go (suc n) r = k

run_kept : (m : Memory) (rs : List (List ℕ)) (b : Board) (es : List Account) → Kept m b es
    → Kept m (run b rs).board (accepted_from b rs es)
unfolding run accepted_from step
run_kept m [] b es k = k
run_kept m (r ∷ rs) b es k =
    run_kept m rs (step b r).board (noted (step b r).answer.refusal (read_record r) es) (step_kept m b es (read_record r) k)

-- after every list of records some reachable state of the undo log has the board's tables
pub every : (m : Memory) (rs : List (List ℕ)) → is_byte_memory m ≡ true → Kept m (board_after m rs) (accepted_in m rs)
every m rs e = run_kept m rs (fresh m) [] (initially m e)
