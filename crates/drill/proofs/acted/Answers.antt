use mathlib.Core.Path.{◌∙◌, ap}
use Rattle.headed.proofs.Old.{old_step}
use Rattle.rules.specs.Recovery.{Restored}
use Rattle.drill.proofs.Laws.{act_between, act_inside, act_step}
use Rattle.drill.specs.Drilled.{choice_of}
use Rattle.drill.proofs.acted.Goals as goal

pub returns-in-Step : goal.returns-in-Step
returns-in-Step c =
    let a = c.args in
    rw c.in-Step.is (ap (λ (x : Restored). x.after) (c.step_at.ensures ∙ old_step _) ∙ act_step (record { bytes = a.image.now; at = a.at }))

pub returns-in-CutBetween : goal.returns-in-CutBetween
returns-in-CutBetween c = let a = c.args in rw c.in-CutBetween.is (act_between (record { bytes = a.image.now; at = a.at }))

pub returns-in-CutInside : goal.returns-in-CutInside
returns-in-CutInside c =
    let a = c.args in
    rw (c.in-CutInside.is, c.cut_inside.ensures) (act_inside (record { bytes = a.image.now; at = a.at }) (choice_of c.in-CutInside.words))
