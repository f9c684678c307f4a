use Rattle.std.proofs.Common.{◌∙◌, arith}
use Rattle.reading.proofs.Tests.{board_all}
use Rattle.reading.proofs.is_on_board.Goals as goal

pub returns : goal.returns
returns c = c.all_below.ensures ∙ board_all c.args.lines c.args.entries _ c.args.body.now (omega arith) c.requires
