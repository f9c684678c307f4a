use mathlib.Core.Path.{◌∙◌}
use Rattle.headed.proofs.Old.{old_call}
use Rattle.board.proofs.board_recovery_step.Goals as goal

pub returns : goal.returns
returns c = c.recovery_call.ensures ∙ old_call _ _
