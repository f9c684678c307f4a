use Rattle.std.proofs.Common.{◌∙◌, arith}
use Rattle.lines.proofs.Room.{lent_in}
use Rattle.starting.proofs.Laws.{fill_more}
use lib.ListN.{length-set}
use Rattle.starting.proofs.load.Goals as goal

pub loop-i-preserved : goal.loop-i-preserved
loop-i-preserved c =
    let l = c.loop-i in record {
      long = simp length-set l.invariant.long;
      filled = fill_more c.args.memory.now l.m 256 l.i c.take_line.result (omega arith) l.invariant.long (c.take_line.ensures ∙ lent_in c.args.memory.now l.i) ∙ l.invariant.filled;
    }
