use Rattle.std.proofs.Common.{◌≡◌, true, arith, rules}
use mathlib.Core.Logic.{inl, inr}
use Rattle.pieces.proofs.Chain.{gone_all, gone_more, gone_none}
use Rattle.pieces.proofs.run.Goals as goal

pub loop-turn-init : goal.loop-turn-init
loop-turn-init g c = (omega arith, gone_none _ _ _)

pub returns-then-not-goes_on : goal.returns-then-not-goes_on
returns-then-not-goes_on g c = gone_all c.loop-turn.invariant.1 (inl (search rules))

pub loop-turn-preserved : goal.loop-turn-preserved
loop-turn-preserved g c =
    let s = c.loop-turn.stage in
    let e : g.S.Stage.follows s ≡ true = search rules in
    (search rules, gone_more c.loop-turn.invariant.1 e (g.met.S.Stage.follows_sent s e) c.turn.ensures)

pub returns : goal.returns
returns g c = gone_all c.loop-turn.invariant.1 (inr (search rules))
