-- `laws::fence_outside` meets its contract, which is the law.
use Rattle.laws.proofs.Values.{fence_outside}
use Rattle.laws.proofs.fence_outside.Goals as goal

pub returns : goal.returns
returns c = fence_outside
