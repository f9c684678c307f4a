-- `laws::writes_are_read` meets its contract, which is the law.
use Rattle.laws.proofs.Masks.{writes_read}
use Rattle.laws.proofs.writes_are_read.Goals as goal

pub returns : goal.returns
returns c = writes_read
