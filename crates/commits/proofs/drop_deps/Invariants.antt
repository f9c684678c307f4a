use Rattle.std.proofs.Common.{◌≡◌, ◌++◌, map, take, drop}
use Rattle.rules.specs.Commit.{without_dep}
use Rattle.commits.proofs.drop_deps.Given as goal

abbrev pub invariant-loop-dep : goal.invariant-loop-dep
invariant-loop-dep l = l.dep-items ≡ map (without_dep l.key) (take l.dep-index l.initial.dep-items) ++ drop l.dep-index l.initial.dep-items
