use Rattle.std.proofs.Common.{◌≡◌}
use Rattle.judging.specs.Reach.{rows_of, bits_below, is_apart}
use Rattle.judging.proofs.BitTable.apart_from.Given as goal

abbrev pub invariant-loop-q : goal.invariant-loop-q
invariant-loop-q l = l.bits ≡ bits_below (is_apart (rows_of l.self) l.p) l.q
