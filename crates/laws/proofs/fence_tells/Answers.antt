-- `laws::fence_tells` meets its contract, which is the law.
use Rattle.laws.proofs.Values.{fence_tells}
use Rattle.laws.proofs.fence_tells.Goals as goal

pub returns : goal.returns
returns c = fence_tells
