use Rattle.std.proofs.Common.{length, take}
use Rattle.rules.specs.Walk.{walk_from}
use Rattle.walking.proofs.Turns.{Walks}
use Rattle.walking.proofs.walk_order.Given as goal

abbrev pub invariant-loop-place : goal.invariant-loop-place
invariant-loop-place l = Walks (walk_from (length (take 32 l.regions)) (take 32 l.regions)) l.left l.remaining l.count l.keys

abbrev pub decreases-loop-place : goal.decreases-loop-place
decreases-loop-place l = l.left
