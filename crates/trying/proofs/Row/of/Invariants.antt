use Rattle.std.proofs.Common.{◌≡◌, drop}
use Rattle.trying.specs.Line.{row_from}
use Rattle.trying.proofs.Row.of.Given as goal

abbrev pub invariant-loop-byte : goal.invariant-loop-byte
invariant-loop-byte l = row_from l.row (drop l.byte-index l.line) ≡ row_from l.initial.row l.line
