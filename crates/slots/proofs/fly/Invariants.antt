use Rattle.std.proofs.Common.{◌≡◌, ◌++◌, map, take, drop}
use Rattle.rules.specs.Slots.{carried, flown_slot}
use Rattle.slots.proofs.fly.Given as goal

abbrev pub invariant-loop-slot : goal.invariant-loop-slot
invariant-loop-slot l = record {
  slots : l.slot-items ≡ map (flown_slot l.lock l.ended) (take l.slot-index l.initial.slot-items) ++ drop l.slot-index l.initial.slot-items;
  carried : carried l.lock l.ended (drop l.slot-index l.slot-items) l.cur l.car ≡ carried l.lock l.ended l.initial.slot-items l.cur l.initial.car;
}
