use Rattle.std.proofs.Common.{rules, subst, sym}
use Rattle.std.specs.Io.KnownBytes.{Consumes}
use Rattle.pieces.proofs.Flow.{read_behind}
use Rattle.pieces.proofs.refill.Goals as goal

pub returns-clause-comes : goal.returns-clause-comes
returns-clause-comes g c = subst (Consumes _ _) (sym (read_behind c.args.buf.now c.take_in.new.buf c.args.have _ c.take_in.result (search rules) c.take_in.ensures.fits)) c.take_in.ensures.comes
