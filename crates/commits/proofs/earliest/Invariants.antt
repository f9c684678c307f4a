use Rattle.std.proofs.Common.{◌≡◌, drop}
use Rattle.rules.specs.Commit.{earliest, earliest_from}
use Rattle.commits.proofs.earliest.Given as goal

abbrev pub invariant-loop-region : goal.invariant-loop-region
invariant-loop-region l = earliest_from l.best (drop l.region-index l.regions) ≡ earliest l.regions
