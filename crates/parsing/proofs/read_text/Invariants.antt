use Rattle.std.specs.Prelude.{◌+◌, ◌-◌, ◌≡◌, ◌≤◌, drop, length}
use Rattle.output.specs.Room.{puts}
use Rattle.output.specs.Writer.{room_of}
use Rattle.parsing.proofs.Reading.{LeftText}
use Rattle.parsing.specs.Read.{bytes_of_text, good_bytes}
use Rattle.parsing.proofs.read_text.Given as goal

abbrev pub invariant-loop-at : goal.invariant-loop-at
invariant-loop-at l =
    (l.at ≤ length l.text + 1)
    × (l.lines ≤ l.at)
    × (l.writer.out.ghost_name ≡ l.initial.writer.out.ghost_name)
    × LeftText (bytes_of_text (drop l.at l.text)) (bytes_of_text l.text) (room_of l.writer) (room_of l.initial.writer) l.lines
    × (puts (room_of l.writer) (good_bytes (drop l.at l.text)) ≡ puts (room_of l.initial.writer) (good_bytes l.text))

abbrev pub decreases-loop-at : goal.decreases-loop-at
decreases-loop-at l = length l.text + 1 - l.at
