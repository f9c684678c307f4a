use Rattle.std.specs.Prelude.{◌≡◌, ◌<◌, ◌+◌, ◌*◌, ℕ, get_or, length}
use Rattle.lines.specs.Room.{word_in}
use Rattle.lines.proofs.take_line.Given as goal

abbrev pub invariant-loop-w : goal.invariant-loop-w
invariant-loop-w l =
    (length l.line ≡ 8)
    × ((i : ℕ) → i < l.w → get_or l.line i 0 ≡ word_in l.src (l.at + 8 * i))
