use Rattle.std.proofs.Common.{◌≡◌, ◌++◌, map, take, drop}
use Rattle.rules.specs.Commit.{done_region}
use Rattle.commits.proofs.done_all.Given as goal

abbrev pub invariant-loop-region : goal.invariant-loop-region
invariant-loop-region l = l.region-items ≡ map (done_region) (take l.region-index l.initial.region-items) ++ drop l.region-index l.initial.region-items
