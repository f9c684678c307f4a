-- The acts, then a step.
use mathlib.Core.Path.{◌∙◌, ap}
use Rattle.drill.proofs.Laws.{recovered_right}
use Rattle.drill.specs.Drilled.{step_of}
use Rattle.headed.proofs.Old.{old_step}
use Rattle.rules.specs.Recovery.{Recovering, restore}
use Rattle.drill.proofs.recover.Goals as goal

pub returns : goal.returns
returns c = recovered_right _ _ _ _ (ap step_of (c.step_at.ensures ∙ old_step _) ∙ ap (λ (x : Recovering). step_of (restore x)) c.act_all-at.ensures)
