use Rattle.slots.proofs.Laws.{place_is}
use borrow.Author.Rules.{rules}
use Rattle.slots.proofs.place_in.Goals as goal

pub returns : goal.returns
returns c = rw (c.either.ensures, c.either-second.ensures, c.either-third.ensures, c.either-last.ensures) (place_is _ _ (search rules))
