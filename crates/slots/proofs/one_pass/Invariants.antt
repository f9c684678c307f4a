use Rattle.std.proofs.Common.{◌-◌, ◌≡◌, ◌≤◌, ◌<◌, ◌++◌, IfSome, map, take, drop}
use Rattle.rules.specs.Slots.{counted_slot, slot_for, slot_from}
use Rattle.slots.specs.Pass.{or_else}
use Rattle.slots.proofs.one_pass.Given as goal

abbrev pub invariant-loop-i : goal.invariant-loop-i
invariant-loop-i l = record {
  within : l.i ≤ 8;
  counts : l.slots ≡ map (counted_slot l.recent) (take l.i l.initial.slots) ++ drop l.i l.initial.slots;
  slot : or_else l.named (slot_from l.line l.free l.i (drop l.i l.slots)) ≡ slot_for l.line l.initial.slots;
  named : IfSome l.named (λ at. at < 8);
  free : IfSome l.free (λ at. at < 8);
}

abbrev pub decreases-loop-i : goal.decreases-loop-i
decreases-loop-i l = 8 - l.i
