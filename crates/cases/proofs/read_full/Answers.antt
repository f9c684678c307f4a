use Rattle.std.proofs.Common.{rules}
use Rattle.cases.proofs.Reading.{read_more}
use Rattle.cases.proofs.read_full.Goals as goal

pub loop-n-preserved : goal.loop-n-preserved
loop-n-preserved g c =
    let l = c.loop-n in
    let r = c.read_once-more in
    (search rules, read_more _ _ _ l.text r.new.text l.n _ r.result l.invariant.0 r.ensures.fits l.invariant.1 r.ensures.comes)
