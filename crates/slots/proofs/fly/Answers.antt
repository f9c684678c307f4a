use Rattle.std.proofs.Common.{arith, sym, ◌∙◌, ◌<◌, length}
use Rattle.rules.specs.Slots.{flown_slot, flown_slots}
use Rattle.slots.proofs.Laws.{carried_end, carried_more}
use Rattle.lookup.proofs.Lists.{same_length, turn, turned}
use Rattle.slots.proofs.fly.Goals as goal

pub loop-slot-preserved : goal.loop-slot-preserved
loop-slot-preserved c =
    let s = c.args in
    let l = c.loop-slot in
    let long = same_length (flown_slot s.lock.now s.ended) s.slots.now l.slot-items l.slot-index l.invariant.slots in
    let h : l.slot-index < length l.slot-items = omega arith in record {
      slots = turn _ _ _ _ _ _ (omega arith) l.invariant.slots c.fly_slot.ensures.slot;
      carried = rw c.fly_slot.ensures.carried (sym (carried_more s.lock.now s.ended l.slot-index l.slot-items s.cur.now l.car _ _ h) ∙ l.invariant.carried);
    }

pub returns-clause-slots : goal.returns-clause-slots
unfolding flown_slots
returns-clause-slots c = turned (flown_slot c.args.lock.now c.args.ended) c.args.slots.now _ _ (omega arith) c.loop-slot.invariant.slots

pub returns-clause-carried : goal.returns-clause-carried
returns-clause-carried c =
    let s = c.args in
    let l = c.loop-slot in
    let long = same_length (flown_slot s.lock.now s.ended) s.slots.now l.slot-items l.slot-index l.invariant.slots in
    sym (carried_end s.lock.now s.ended l.slot-index l.slot-items s.cur.now l.car (omega arith)) ∙ l.invariant.carried
