use Rattle.std.proofs.Common.{arith, sym, ◌∙◌, ◌<◌, length}
use Rattle.rules.specs.Slots.{counted_slot}
use Rattle.slots.proofs.Laws.{found_end, found_more}
use Rattle.lookup.proofs.Lists.{same_length, turn, turned}
use Rattle.slots.proofs.one_pass.Goals as goal

pub loop-i-preserved : goal.loop-i-preserved
loop-i-preserved c =
    let s = c.args in
    let l = c.loop-i in
    let long = same_length (counted_slot s.recent.now) s.slots.now l.slots l.i l.invariant.counts in
    let h : l.i < length l.slots = omega arith in record {
      within = omega arith;
      counts = turn _ _ _ _ _ _ (omega arith) l.invariant.counts c.count_slot.ensures;
      slot = rw (c.or_at-free.ensures.first, c.is_empty.ensures, c.or_at-named.ensures.first, c.names.ensures) (sym (found_more s.line l.named l.free l.i l.slots _ _ h) ∙ l.invariant.slot);
      named = c.or_at-named.ensures.within l.invariant.named (omega arith);
      free = c.or_at-free.ensures.within l.invariant.free (omega arith);
    }

pub returns-clause-pass : goal.returns-clause-pass
returns-clause-pass c =
    let s = c.args in
    let l = c.loop-i in
    let long = same_length (counted_slot s.recent.now) s.slots.now l.slots l.i l.invariant.counts in
    record {
      slot = c.or_else.ensures.first ∙ sym (found_end s.line l.named l.free l.i l.slots (omega arith)) ∙ l.invariant.slot;
      counts = turned (counted_slot s.recent.now) s.slots.now _ _ (omega arith) l.invariant.counts;
    }
