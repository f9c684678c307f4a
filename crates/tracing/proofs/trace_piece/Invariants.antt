use Prim.Native.Nat.{◌-◌}
use lib.ListN.{length}
use Rattle.tracing.proofs.Due.{Runs}
use Rattle.tracing.proofs.trace_piece.Given as goal

abbrev pub invariant-loop-board : goal.invariant-loop-board
invariant-loop-board l = Runs l.last l.piece l.initial.board l.initial.dst l.initial.at l.board l.dst l.at l.passed

abbrev pub decreases-loop-board : goal.decreases-loop-board
decreases-loop-board l = length l.piece - l.passed
