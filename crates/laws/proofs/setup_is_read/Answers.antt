-- `laws::setup_is_read` meets its contract, which is the law.
use Rattle.laws.proofs.Shares.{setup_read}
use Rattle.laws.proofs.setup_is_read.Goals as goal

pub returns : goal.returns
returns c = setup_read
