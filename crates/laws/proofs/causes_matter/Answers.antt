-- `laws::causes_matter` meets its contract, which is the law.
use Rattle.laws.proofs.Causes.{causes_matter}
use Rattle.laws.proofs.causes_matter.Goals as goal

pub returns : goal.returns
returns c = causes_matter
