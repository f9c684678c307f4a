use Rattle.reading.specs.Spots.{spot_at}
use Rattle.reading.proofs.Spots.{filling_all, filling_inside, filling_next, filling_none}
use Rattle.reading.proofs.log_marks.Goals as goal

pub loop-i-init : goal.loop-i-init
loop-i-init c = let a = c.args in filling_none a.src.now a.logged _ (spot_at a.first) c.requires.0

pub mark_at-requires : goal.mark_at-requires
mark_at-requires c = filling_inside c.loop-i.invariant c.loop-i-test.true

pub next_spot-spot-requires : goal.next_spot-spot-requires
next_spot-spot-requires c = filling_inside c.loop-i.invariant c.loop-i-test.true

pub loop-i-preserved : goal.loop-i-preserved
loop-i-preserved c = rw (c.next_spot-spot.ensures, c.mark_at.ensures) (filling_next c.loop-i.invariant c.loop-i-test.true)

pub returns : goal.returns
returns c = filling_all c.loop-i.invariant c.loop-i-test.false
