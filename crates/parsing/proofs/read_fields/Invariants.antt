use Rattle.std.specs.Prelude.{◌-◌, ◌≡◌, ◌≤◌, drop, length}
use Rattle.output.specs.Writer.{room_of}
use Rattle.parsing.specs.Numbers.{line_number}
use Rattle.parsing.proofs.Reading.{Left}
use Rattle.parsing.specs.Read.{fields_from, words_in}
use Rattle.parsing.proofs.read_fields.Given as goal

abbrev pub invariant-loop-word : goal.invariant-loop-word
invariant-loop-word l =
    (l.at ≤ length l.line)
    × (l.field ≤ l.at)
    × (l.out.out.ghost_name ≡ l.initial.out.out.ghost_name)
    × Left (fields_from (line_number l.kind) l.field (words_in (drop l.at l.line))) (fields_from (line_number l.kind) 0 (words_in (drop l.«from» l.line))) (room_of l.out) (room_of l.initial.out)

abbrev pub decreases-loop-word : goal.decreases-loop-word
decreases-loop-word l = length l.line - l.at
