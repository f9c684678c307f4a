use Rattle.std.specs.Prelude.{◌≡◌, ◌-◌}
use Rattle.output.specs.Room.{puts}
use Rattle.output.specs.Writer.{room_of}
use Rattle.rules.specs.Bytes.{bytes_of}
use Rattle.output.proofs.Writer.put_le.Given as goal

abbrev pub invariant-loop : goal.invariant-loop
invariant-loop l =
    (l.self.out.ghost_name ≡ l.initial.self.out.ghost_name)
    × (puts (room_of l.self) (bytes_of (l.width - l.counter) l.rest) ≡ puts (room_of l.initial.self) (bytes_of l.width l.n))
