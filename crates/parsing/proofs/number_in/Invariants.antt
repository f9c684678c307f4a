use Rattle.std.specs.Prelude.{◌≡◌, Some, drop}
use Rattle.parsing.specs.Read.{most_of, number_from}
use Rattle.parsing.proofs.number_in.Given as goal

abbrev pub invariant-loop-byte : goal.invariant-loop-byte
invariant-loop-byte l =
    (l.top ≡ most_of l.width)
    × (number_from (most_of l.width) (Some l.number) (drop l.byte-index l.word) ≡ number_from (most_of l.width) (Some 0) l.word)
