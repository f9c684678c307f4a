use Rattle.slots.proofs.Laws.{renewed_is}
use borrow.Author.Rules.{rules}
use Rattle.slots.proofs.renewed.Goals as goal

pub returns : goal.returns
returns c = rw (c.either-3.ensures, c.either-2.ensures, c.either.ensures) (renewed_is _ _ (search rules))
