use Rattle.std.proofs.Common.{◌≡◌, ◌-◌, ◌≤◌}
use Rattle.rules.specs.Commit.{settle, settled}
use Rattle.commits.proofs.Turns.{counted}
use Rattle.commits.proofs.settle.Given as goal

abbrev pub invariant-loop-committed : goal.invariant-loop-committed
invariant-loop-committed l = record {
  within : l.committed ≤ 32;
  rest : counted l.committed (settle (32 - l.committed) l.tables) ≡ counted 0 (settled l.fn.tables);
}
