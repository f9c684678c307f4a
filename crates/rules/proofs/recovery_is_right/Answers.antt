-- `rules::recovery_is_right` meets its contract, which is the theorem.
use Rattle.rules.proofs.Main.{recovery_is_right}
use Rattle.rules.proofs.recovery_is_right.Goals as goal

pub returns : goal.returns
returns c = recovery_is_right
