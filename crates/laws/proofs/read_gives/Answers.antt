-- `laws::read_gives` meets its contract, which is the law.
use Rattle.laws.proofs.Current.{read_gives}
use Rattle.laws.proofs.read_gives.Goals as goal

pub returns : goal.returns
returns c = read_gives
