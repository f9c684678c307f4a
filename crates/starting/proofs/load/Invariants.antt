use Rattle.std.proofs.Common.{◌≡◌, ◌-◌, ◌++◌, length, take}
use Rattle.rules.specs.Tables.{Lent, lent_from, start_lines}
use Rattle.starting.proofs.load.Given as goal

abbrev pub invariant-loop-i : goal.invariant-loop-i
invariant-loop-i l = record {
  long : length l.m ≡ 256;
  filled : take l.i l.m ++ lent_from l.memory l.i (256 - l.i) ≡ start_lines (Lent l.memory);
}
