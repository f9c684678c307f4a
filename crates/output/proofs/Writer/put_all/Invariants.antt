use Rattle.std.specs.Prelude.{◌≡◌, drop}
use Rattle.output.specs.Room.{puts}
use Rattle.output.specs.Writer.{room_of}
use Rattle.output.proofs.Writer.put_all.Given as goal

abbrev pub invariant-loop-byte : goal.invariant-loop-byte
invariant-loop-byte l =
    (l.self.out.ghost_name ≡ l.initial.self.out.ghost_name)
    × (puts (room_of l.self) (drop l.byte-index l.bytes) ≡ puts (room_of l.initial.self) l.bytes)
