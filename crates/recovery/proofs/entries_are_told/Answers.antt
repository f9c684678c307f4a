-- `recovery::entries_are_told` meets its contract, which is the law.
use Rattle.recovery.proofs.Tells.{entries_told}
use Rattle.recovery.proofs.entries_are_told.Goals as goal

pub returns : goal.returns
returns c = entries_told
