use Rattle.std.proofs.Common.{arith}
use Rattle.parsing.proofs.Lines.{last_in}
use Rattle.tobytes.specs.Results.{line_end}
use Rattle.tobytes.proofs.line_end.Goals as goal

pub returns-then-last : goal.returns-then-last
unfolding line_end
returns-then-last c = (rw c.if-last.true, omega arith)

pub returns-else-last : goal.returns-else-last
unfolding line_end
returns-else-last c = (rw c.if-last.false c.whole_lines.ensures, omega (arith, c.whole_lines.ensures, last_in c.args.piece.now))
