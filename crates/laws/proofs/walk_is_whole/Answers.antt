-- `laws::walk_is_whole` meets its contract, which is the law.
use Rattle.laws.proofs.Walked.{walk_is_whole}
use Rattle.laws.proofs.walk_is_whole.Goals as goal

pub returns : goal.returns
returns c = walk_is_whole
