use mathlib.Core.Path.{◌∙◌, ap, sym}
use native.Mathlib.Omega.{arith}
use Rattle.drill.proofs.Laws.{acts_more, acts_none}
use Rattle.rules.specs.Recovery.{Recovering}
use Rattle.torn.specs.Torn.{torn_act}
use Rattle.drill.proofs.act_all.Goals as goal

pub loop-byte-preserved : goal.loop-byte-preserved
loop-byte-preserved c =
    let l = c.loop-byte in
    let r : Recovering = record { bytes = l.image; at = l.at } in
    acts_more r c.args.acts.now l.byte-index (omega arith) _ (c.acted-at.ensures ∙ ap (torn_act r) c.from.ensures) ∙ l.invariant

pub returns : goal.returns
returns c = let l = c.loop-byte in sym (acts_none (record { bytes = l.image; at = l.at }) c.args.acts.now l.byte-index (omega arith)) ∙ l.invariant
