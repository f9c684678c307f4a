use Rattle.std.proofs.Common.{◌∙◌, ◌+◌, sym, arith, ap, drop}
use Rattle.rules.specs.Commit.{earliest_from}
use Rattle.commits.proofs.Next.{walk_end, walk_more}
use Rattle.commits.proofs.earliest.Goals.{then-is_earlier, else-is_earlier}
use Rattle.commits.proofs.earliest.Goals as goal

pub loop-region-preserved : goal.loop-region-preserved
loop-region-preserved c =
    let b = c.loop-region.best in
    let i = c.loop-region.region-index in
    let rs = c.args.regions.now in
    let more = walk_more b i rs _ (omega arith) ∙ c.loop-region.invariant in
    elim c.if-is_earlier.branch [
      | then-is_earlier w ↦ let e = rw w.if-is_earlier.true at c.is_earlier.ensures in ap (λ x. earliest_from x (drop (i + 1) rs)) (w.best-is ∙ sym e) ∙ more
      | else-is_earlier w ↦ let e = rw w.if-is_earlier.false at c.is_earlier.ensures in ap (λ x. earliest_from x (drop (i + 1) rs)) (w.best-is ∙ sym e) ∙ more
    ]

pub returns : goal.returns
returns c = sym (walk_end c.loop-region.best c.loop-region.region-index c.args.regions.now (omega arith)) ∙ c.loop-region.invariant
