-- `torn::torn_recovery_is_right` meets its contract, which is the promise.
use Rattle.torn.proofs.Torn.{torn_recovery}
use Rattle.torn.proofs.torn_recovery_is_right.Goals as goal

pub returns : goal.returns
returns c = torn_recovery
