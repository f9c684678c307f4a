use Rattle.std.proofs.Common.{◌≡◌, ◌++◌, map, take, drop}
use Rattle.rules.specs.Commit.{after_commit}
use Rattle.commits.proofs.without_region.Given as goal

abbrev pub invariant-loop-region : goal.invariant-loop-region
invariant-loop-region l = l.region-items ≡ map (after_commit l.key) (take l.region-index l.initial.region-items) ++ drop l.region-index l.initial.region-items
