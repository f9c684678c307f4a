use Rattle.std.specs.Prelude.{◌≡◌, ◌*◌, ◌-◌, drop, length}
use Rattle.std.proofs.lemmas.List.Edits.{sets}
use Rattle.rules.specs.Bytes.{line_bytes, words_bytes}
use Rattle.lines.proofs.put_line.Given as goal

abbrev pub invariant-loop-w : goal.invariant-loop-w
invariant-loop-w l =
    (length l.dst ≡ length l.initial.dst)
    × (sets l.dst (8 * l.w) (words_bytes (8 - l.w) (drop l.w l.fn.line)) ≡ sets l.initial.dst 0 (line_bytes l.fn.line))
