-- `laws::no_reserves_change_nothing` meets its contract, which is the law.
use Rattle.laws.proofs.Shares.{no_reserves}
use Rattle.laws.proofs.no_reserves_change_nothing.Goals as goal

pub returns : goal.returns
returns c = no_reserves
