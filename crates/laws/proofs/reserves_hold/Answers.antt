-- `laws::reserves_hold` meets its contract, which is the law.
use Rattle.laws.proofs.Reserves.{reserved}
use Rattle.laws.proofs.reserves_hold.Goals as goal

pub returns : goal.returns
returns c = reserved
