use Rattle.wording.proofs.Expected.{words_expected}
use Rattle.wording.proofs.words_are_right.Goals as goal

pub returns : goal.returns
returns c = words_expected
