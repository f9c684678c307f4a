-- `laws::commits_add_up` meets its contract, which is the law.
use Rattle.laws.proofs.Values.{commits_add_up}
use Rattle.laws.proofs.commits_add_up.Goals as goal

pub returns : goal.returns
returns c = commits_add_up
