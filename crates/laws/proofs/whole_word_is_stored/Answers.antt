-- `laws::whole_word_is_stored` meets its contract, which is the law.
use Rattle.laws.proofs.Masks.{whole_word_lem}
use Rattle.laws.proofs.whole_word_is_stored.Goals as goal

pub returns : goal.returns
returns c = whole_word_lem
