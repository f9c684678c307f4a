use Rattle.std.specs.Prelude.{◌≡◌, ◌<◌, ℕ, get_or, length}
use Rattle.rules.specs.Access.{byte_after}
use Rattle.lines.proofs.word_after.Given as goal

abbrev pub invariant-loop-place : goal.invariant-loop-place
invariant-loop-place l =
    (length l.bytes ≡ 8)
    × ((i : ℕ) → i < l.place → get_or l.bytes i 0 ≡ byte_after l.mask l.v l.x i)
