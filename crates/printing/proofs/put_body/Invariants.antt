use Rattle.std.specs.Prelude.{◌≡◌, ◌≤◌, drop, length}
use Rattle.output.specs.Room.{puts}
use Rattle.output.specs.Writer.{room_of}
use Rattle.printing.specs.Text.{number_text, numbers_of}
use Rattle.rules.specs.Kinds.{total, widths_of}
use Rattle.rules.specs.Lists.{flat}
use Rattle.printing.proofs.put_body.Given as goal

abbrev pub invariant-loop-width : goal.invariant-loop-width
invariant-loop-width l =
    (l.out.out.ghost_name ≡ l.initial.out.out.ghost_name)
    × (l.width-items ≡ widths_of l.kind)
    × (total (drop l.width-index l.width-items) ≤ length l.rest)
    × (puts (room_of l.out) (flat number_text (numbers_of (drop l.width-index l.width-items) l.rest))
    ≡ puts (room_of l.initial.out) (flat number_text (numbers_of (widths_of l.kind) l.body)))
