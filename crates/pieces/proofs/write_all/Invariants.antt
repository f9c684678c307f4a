use Rattle.std.proofs.Common.{length}
use Rattle.pieces.proofs.Flow.{Sending}
use Rattle.pieces.proofs.write_all.Given as goal

abbrev pub invariant-loop-rest : goal.invariant-loop-rest
invariant-loop-rest g l = Sending (g.W.Write.contents l.fn.to) (g.W.Write.contents l.to) l.fn.bytes l.rest

abbrev pub decreases-loop-rest : goal.decreases-loop-rest
decreases-loop-rest g l = length l.rest
