-- `laws::bytes_are_stored` meets its contract, which is the law.
use Rattle.laws.proofs.Stored.{stores_bytes}
use Rattle.laws.proofs.bytes_are_stored.Goals as goal

pub returns : goal.returns
returns c = stores_bytes
