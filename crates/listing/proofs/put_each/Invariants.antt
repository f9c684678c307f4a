use Rattle.std.proofs.Common.{◌≡◌, drop}
use Rattle.output.specs.Room.{puts}
use Rattle.output.specs.Writer.{room_of}
use Rattle.rules.specs.Lists.{flat}
use Rattle.listing.proofs.put_each.Given as goal

abbrev pub invariant-loop-item : goal.invariant-loop-item
invariant-loop-item g l = record {
  same : l.out.out.ghost_name ≡ l.initial.out.out.ghost_name;
  rest : puts (room_of l.out) (flat g.T.Put.bytes (drop l.item-index l.items)) ≡ puts (room_of l.initial.out) (flat g.T.Put.bytes l.items);
}
