use Rattle.std.proofs.Common.{◌≡◌, ◌++◌, map, take, drop}
use Rattle.rules.specs.Acknowledge.{dropped_slot}
use Rattle.slots.proofs.drop_slots.Given as goal

abbrev pub invariant-loop-slot : goal.invariant-loop-slot
invariant-loop-slot l = l.slot-items ≡ map (dropped_slot l.line) (take l.slot-index l.initial.slot-items) ++ drop l.slot-index l.initial.slot-items
