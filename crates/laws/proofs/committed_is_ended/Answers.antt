-- `laws::committed_is_ended` meets its contract, which is the law.
use Rattle.laws.proofs.Values.{committed_is_ended}
use Rattle.laws.proofs.committed_is_ended.Goals as goal

pub returns : goal.returns
returns c = committed_is_ended
