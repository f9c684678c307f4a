use Rattle.std.specs.Prelude.{◌≡◌, drop}
use Rattle.output.specs.Room.{puts}
use Rattle.output.specs.Writer.{room_of}
use Rattle.printing.specs.Text.{number_text}
use Rattle.rules.specs.Lists.{flat}
use Rattle.printing.proofs.put_numbers.Given as goal

abbrev pub invariant-loop-byte : goal.invariant-loop-byte
invariant-loop-byte l =
    (l.out.out.ghost_name ≡ l.initial.out.out.ghost_name)
    × (puts (room_of l.out) (flat number_text (drop l.byte-index l.bytes)) ≡ puts (room_of l.initial.out) (flat number_text l.bytes))
