use mathlib.Core.Path.{◌∙◌}
use Rattle.wording.proofs.Finish.{finish_more, finish_stop}
use Rattle.wording.proofs.recover.Goals as goal

pub loop-preserved : goal.loop-preserved
loop-preserved c =
    let l = c.loop in
    let w = c.step_at-step in
    finish_more (record { bytes = l.image; at = l.at }) _ w.result w.ensures _ l.counter c.loop-test.true c.if-step-ne1.false ∙ l.invariant

pub returns-then-step-ne1 : goal.returns-then-step-ne1
returns-then-step-ne1 c =
    let l = c.loop in
    let w = c.step_at-step in
    finish_stop (record { bytes = l.image; at = l.at }) _ w.result w.ensures _ l.counter c.loop-test.true c.if-step-ne1.true ∙ l.invariant
