-- `laws::shares_are_tested` meets its contract, which is the law.
use Rattle.laws.proofs.Shares.{shares_tested}
use Rattle.laws.proofs.shares_are_tested.Goals as goal

pub returns : goal.returns
returns c = shares_tested
