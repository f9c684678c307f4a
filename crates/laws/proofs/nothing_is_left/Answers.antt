-- `laws::nothing_is_left` meets its contract, which is the law.
use Rattle.laws.proofs.Rest.{nothing_left}
use Rattle.laws.proofs.nothing_is_left.Goals as goal

pub returns : goal.returns
returns c = nothing_left
