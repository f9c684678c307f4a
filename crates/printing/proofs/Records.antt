-- The lines of the whole records of a file, one behind the other.
use Prim.Native.Nat.{◌<◌, ℕ}
use mathlib.Core.Path.{◌≡◌, refl}
use mathlib.Core.Bool.{false, true}
use mathlib.Core.List.{List, [], ◌++◌, ◌∷◌}
use lib.ListN.{drop, get_or}
use native.Mathlib.Omega.{arith}
use Rattle.events.proofs.Records.{length_empty, not_whole, records_skip, stands}
use Rattle.events.specs.Whole.{record_length}
use Rattle.output.proofs.Rooms.{puts_join, puts_none}
use Rattle.output.specs.Room.{Room, puts}
use Rattle.printing.specs.Text.{line_text, number_text, numbers_of, record_text, whole_text}
use Rattle.rules.specs.Kinds.{bytes_word, widths_of, word_of}
use Rattle.rules.specs.Lists.{flat}
use Rattle.rules.specs.Record.{body_length, is_whole, read_record, records_from}

-- a whole record, and what stands behind it
on_text : (k : ℕ) (body : List ℕ) → is_whole (read_record (k ∷ body)) ≡ true → whole_text (k ∷ body) ≡ record_text (k ∷ body) ++ whole_text (drop (body_length k) body)
unfolding whole_text records_from flat
on_text k body w = rw (w, ← records_skip (body_length k) body)

pub text_on : (r : List ℕ) → 0 < record_length r → whole_text r ≡ record_text r ++ whole_text (drop (record_length r) r)
text_on [] h = absurd (omega (arith, length_empty [] refl))
text_on (k ∷ body) h = let s = stands (k ∷ body) h in rw s.is_long (on_text k body s.is_whole_lem)

-- no whole record
pub text_off : (r : List ℕ) → record_length r ≡ 0 → whole_text r ≡ []
unfolding whole_text records_from flat
text_off [] e = refl
text_off (k ∷ body) e = rw (not_whole (k ∷ body) e)

-- the line of a whole record
pub whole_line : (r : List ℕ) → 0 < record_length r → record_text r ≡ line_text (word_of (get_or r 0 0)) (numbers_of (widths_of (get_or r 0 0)) (drop 1 r))
unfolding record_text
whole_line r h = rw (stands r h).is_whole_lem

pub bytes_line : (r : List ℕ) → is_whole (read_record r) ≡ false → record_text r ≡ line_text bytes_word r
unfolding record_text
bytes_line r w = rw w

-- one whole record more, and none
pub text_next : (q : Room) (r : List ℕ) → 0 < record_length r → puts q (whole_text r) ≡ puts (puts q (record_text r)) (whole_text (drop (record_length r) r))
text_next q r h = rw (text_on r h, puts_join)

pub text_end : (q : Room) (r : List ℕ) → record_length r ≡ 0 → puts q (whole_text r) ≡ q
text_end q r e = rw (text_off r e) (puts_none q)

-- a line: its word, its numbers, its end
pub line_puts : (r : Room) (word ns : List ℕ) → puts r (line_text word ns) ≡ puts (puts (puts r word) (flat number_text ns)) (10 ∷ [])
unfolding line_text
line_puts r word ns = rw (puts_join r word (flat number_text ns ++ (10 ∷ [])), puts_join (puts r word) (flat number_text ns) (10 ∷ []))
