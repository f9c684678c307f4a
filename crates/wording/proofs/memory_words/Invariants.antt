use Rattle.std.proofs.Common.{◌≡◌}
use Rattle.output.specs.Room.{puts}
use Rattle.output.specs.Writer.{room_of}
use Rattle.wording.specs.Text.{flat_to, image_line, line_text}
use Rattle.wording.proofs.memory_words.Given as goal

abbrev pub invariant-loop-line : goal.invariant-loop-line
invariant-loop-line l =
    (l.out.out.ghost_name ≡ l.initial.out.out.ghost_name)
    × (room_of l.out ≡ puts (room_of l.initial.out) (flat_to (λ k. line_text k (image_line l.image k)) 0 l.line))
