-- `alike::headed_recovery_is_right` meets its contract, which is the theorem.
use Rattle.alike.proofs.Alike.{headed_recovery}
use Rattle.alike.proofs.headed_recovery_is_right.Goals as goal

pub returns : goal.returns
returns c = headed_recovery
