-- Bytes of a slice by their place, for every place: what does not lie wholly in the slice is read as 0, and is not written.
use Rattle.std.specs.Prelude.{◌+◌, ℕ, cond, List, leb, drop, length, take}
use Rattle.std.proofs.lemmas.List.Edits.{sets}
use Rattle.rules.specs.Bytes.{line_at, num_of}
use Rattle.rules.specs.Tables.{no_line}

-- the slice with the n bytes of bs from `at` on
unfoldable pub put_at : ℕ → List ℕ → ℕ → List ℕ → List ℕ
put_at n dst at bs = cond (leb (at + n) (length dst)) (sets dst at bs) dst

unfoldable pub word_in : List ℕ → ℕ → ℕ
word_in src at = cond (leb (at + 8) (length src)) (num_of (take 8 (drop at src))) 0

unfoldable pub line_in : List ℕ → ℕ → List ℕ
line_in src at = cond (leb (at + 64) (length src)) (line_at src at) no_line
