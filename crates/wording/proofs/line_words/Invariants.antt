use Rattle.std.proofs.Common.{◌≡◌, get_or}
use Rattle.output.specs.Room.{puts}
use Rattle.output.specs.Writer.{room_of}
use Rattle.wording.specs.Text.{flat_to, word_text}
use Rattle.wording.proofs.line_words.Given as goal

abbrev pub invariant-loop-word : goal.invariant-loop-word
invariant-loop-word l =
    (l.out.out.ghost_name ≡ l.initial.out.out.ghost_name)
    × (room_of l.out ≡ puts (room_of l.initial.out) (flat_to (λ w. word_text l.line w (get_or l.words w 0)) 0 l.word))
