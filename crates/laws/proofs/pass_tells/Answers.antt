-- `laws::pass_tells` meets its contract, which is the law.
use Rattle.laws.proofs.Pass.{pass_tells}
use Rattle.laws.proofs.pass_tells.Goals as goal

pub returns : goal.returns
returns c = pass_tells
