use Prim.Native.Nat.{◌-◌}
use lib.ListN.{length}
use Rattle.reading.proofs.Walk.{Reached}
use Rattle.reading.proofs.read_records.Given as goal

abbrev pub invariant-loop-item : goal.invariant-loop-item
invariant-loop-item l = Reached l.headed l.src l.tally l.regions l.at

abbrev pub decreases-loop-item : goal.decreases-loop-item
decreases-loop-item l = length l.src - l.at
