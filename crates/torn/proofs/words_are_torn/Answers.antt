-- `torn::words_are_torn` meets its contract, which is the promise.
use Rattle.torn.proofs.Choices.{torn_words}
use Rattle.torn.proofs.words_are_torn.Goals as goal

pub returns : goal.returns
returns c = torn_words
