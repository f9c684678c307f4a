use Rattle.std.specs.Prelude.{◌≡◌, ◌≤◌, ◌+◌, ◌-◌, length}
use Rattle.events.specs.Whole.{whole_length}
use Rattle.output.specs.Room.{puts}
use Rattle.output.specs.Writer.{room_of}
use Rattle.printing.specs.Text.{whole_text}
use Rattle.printing.proofs.put_whole.Given as goal

abbrev pub invariant-loop-rest : goal.invariant-loop-rest
invariant-loop-rest l =
    (l.out.out.ghost_name ≡ l.initial.out.out.ghost_name)
    × (length l.rest ≤ length l.file)
    × (puts (room_of l.out) (whole_text l.rest) ≡ puts (room_of l.initial.out) (whole_text l.file))
    × (length l.file - length l.rest + whole_length l.rest ≡ whole_length l.file)

abbrev pub decreases-loop-rest : goal.decreases-loop-rest
decreases-loop-rest l = length l.rest
