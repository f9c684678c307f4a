use Rattle.std.specs.Prelude.{◌≡◌, length}
use Rattle.parsing.specs.Read.{last_line}
use Rattle.parsing.proofs.whole_lines.Given as goal

abbrev pub invariant-loop-whole : goal.invariant-loop-whole
invariant-loop-whole l = last_line l.whole ≡ last_line l.text

abbrev pub decreases-loop-whole : goal.decreases-loop-whole
decreases-loop-whole l = length l.whole
