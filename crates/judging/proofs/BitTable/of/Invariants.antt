use Rattle.std.proofs.Common.{◌≡◌, map, length, take}
use Rattle.judging.specs.Reach.{links_of}
use Rattle.judging.proofs.BitTable.of.Given as goal

abbrev pub invariant-loop-place : goal.invariant-loop-place
invariant-loop-place l = (length l.links ≡ 32) × (take l.place l.links ≡ map (links_of l.regions) (take l.place l.regions))
