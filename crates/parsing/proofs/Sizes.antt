-- A text makes at most four bytes for each of its own: a field has at most eight, and takes at least a space and a digit. So a buffer four times as long has room.
use Prim.Native.Nat.{◌*◌, ◌+◌, ◌-◌, ◌≤◌, suc, zero, ℕ}
use mathlib.Core.Path.{◌∙◌, ◌≡◌, ap, refl}
use mathlib.Core.Bool.{false, true, true≢false}
use mathlib.Core.List.{List, [], ◌∷◌}
use lib.Dec.{eqb}
use lib.ListN.{get_or, length, length-append, take}
use native.Mathlib.Omega.{arith}
use borrow.Author.Tests.{eqb-true, le-leb}
use Rattle.std.specs.Prelude.{None, Option, Some}
use Rattle.events.proofs.Table.{fitting}
use Rattle.events.specs.Row.{is_width}
use Rattle.rules.proofs.Codec.Bytes.{length_bytes}
use Rattle.output.specs.Room.{Room, filled, room}
use Rattle.parsing.proofs.Lines.{good_front}
use Rattle.parsing.specs.Read.{Got, Text, behind, bytes_line, bytes_of_text, field, fields_from, glued, good_bytes, got, in_word, is_space, kind_bytes, kind_of, kind_then, line_then, lines_of, lines_read, no_word, number_in, read_as, width_at, words_in, words_read}
use Rattle.parsing.specs.Results.{TextReadAs}
use Rattle.parsing.specs.declared.TextRead.{TextRead}
use Rattle.rules.specs.Bytes.{bytes_of}
use Rattle.rules.specs.Kinds.{widths_of}
use Rattle.rules.specs.Lists.{all}
use Rattle.undo.proofs.Laws.{and_true, test}

-- ---- the words of a line: two bytes for each but the last

glued_few : (c : ℕ) (ls : List (List ℕ)) (n : ℕ) → 2 * length ls ≤ n + 1 → 2 * length (glued c ls) ≤ suc n + 1
glued_few c [] n h = omega arith
glued_few c (l ∷ ls) n h = omega arith

few : (l : List ℕ) → (2 * length (words_in l) ≤ length l + 1) × (in_word l ≡ false → 2 * length (words_in l) ≤ length l)
unfolding words_in
few [] = (omega arith, λ e. omega arith)
few (c ∷ cs) =
    let ih = few cs in
    test (eqb c 35) (λ a. rw a (omega arith, λ e. omega arith))
    (λ a. test (is_space c) (λ b. rw (a, b) (omega (arith, ih.0), λ e. omega (arith, ih.0)))
    (λ b. test (in_word cs) (λ w. rw (a, b, w) (glued_few c (words_in cs) (length cs) ih.0, λ e. absurd (true≢false e)))
    (λ w. rw (a, b, w) (omega (arith, ih.1 w), λ e. absurd (true≢false e)))))

-- ---- the fields of a line: at most eight bytes each

width_small : (w : ℕ) → is_width w ≡ true → w ≤ 8
width_small w e =
    test (eqb w 1) (λ a. omega (arith, eqb-true w 1 a)) (λ a. test (eqb w 2) (λ b. omega (arith, eqb-true w 2 b)) (λ b. omega (arith, eqb-true w 8 (rw (a, b) at e))))

all_small : (ws : List ℕ) (f : ℕ) → all is_width ws ≡ true → get_or ws f 0 ≤ 8
all_small [] zero e = omega arith
all_small [] (suc f) e = omega arith
all_small (w ∷ ws) zero e = width_small w (and_true (is_width w) (all is_width ws) e).0
all_small (w ∷ ws) (suc f) e = all_small ws f (and_true (is_width w) (all is_width ws) e).1

field_small : (k f : ℕ) → width_at k f ≤ 8
unfolding width_at
field_small k f = test (eqb k bytes_line) (λ e. rw e (omega arith)) (λ e. rw e (all_small (widths_of k) f (fitting k).wide))

field_short : (w n : ℕ) (v : Option ℕ) (g : Got) → w ≤ 8 → length g.bytes ≤ 8 * n → length (field w v g).bytes ≤ 8 * suc n
unfolding field behind got
field_short w n None g h k = omega arith
field_short w n (Some v) g h k = omega (arith, length-append (bytes_of w v) g.bytes, length_bytes w v)

fields_short : (k f : ℕ) (ws : List (List ℕ)) → length (fields_from k f ws).bytes ≤ 8 * length ws
unfolding fields_from got
fields_short k f [] = omega arith
fields_short k f (w ∷ ws) = field_short (width_at k f) (length ws) (number_in (width_at k f) w) (fields_from k (suc f) ws) (field_small k f) (fields_short k (suc f) ws)

kind_short : (k : ℕ) → length (kind_bytes k) ≤ 1
unfolding kind_bytes
kind_short k = test (eqb k bytes_line) (λ e. rw e (omega arith)) (λ e. rw e (omega arith))

kind_then_lem : (k : ℕ) (ws : List (List ℕ)) → length (kind_then k ws).bytes ≤ 8 * length ws + 1
unfolding kind_then behind got
kind_then_lem k ws =
    test (eqb k no_word) (λ e. rw e (omega arith))
    (λ e. rw e (omega (arith, length-append (kind_bytes k) (fields_from k 0 ws).bytes, kind_short k, fields_short k 0 ws)))

words_short : (ws : List (List ℕ)) → length (words_read ws).bytes ≤ 8 * length ws - 7
unfolding words_read got
words_short [] = omega arith
words_short (w ∷ ws) = omega (arith, kind_then_lem (kind_of w) ws)

line_short : (l : List ℕ) → length (words_read (words_in l)).bytes ≤ 4 * length l
line_short l = omega (arith, words_short (words_in l), (few l).0)

-- ---- the lines of a text

size : List (List ℕ) → ℕ
size [] = 0
size (l ∷ ls) = length l + size ls

then_short : (g : Got) (t : Text) (m n : ℕ) → length g.bytes ≤ 4 * m → length t.bytes ≤ 4 * n → length (line_then g t).bytes ≤ 4 * (m + n)
unfolding line_then read_as
then_short g t m n h k = test g.ok (λ e. rw e (omega (arith, length-append g.bytes t.bytes))) (λ e. rw e (omega arith))

lines_short : (ls : List (List ℕ)) → length (lines_read ls).bytes ≤ 4 * size ls
unfolding lines_read read_as size
lines_short [] = omega arith
lines_short (l ∷ ls) = then_short (words_read (words_in l)) (lines_read ls) (length l) (size ls) (line_short l) (lines_short ls)

glued_size : (c : ℕ) (ls : List (List ℕ)) → size (glued c ls) ≡ suc (size ls)
unfolding size
glued_size c [] = refl
glued_size c (l ∷ ls) = omega arith

lines_size : (t : List ℕ) → size (lines_of t) ≤ length t
unfolding lines_of size
lines_size [] = omega arith
lines_size (c ∷ cs) = let ih = lines_size cs in test (eqb c 10) (λ e. rw e (omega arith)) (λ e. rw (e, glued_size c (lines_of cs)) (omega arith))

pub text_short : (t : List ℕ) → length (bytes_of_text t).bytes ≤ 4 * length t
unfolding bytes_of_text
text_short t = omega (arith, lines_short (lines_of t), lines_size t)

-- so the bytes of the lines in the form stand at the front of such a buffer
no_end : (text d d' : List ℕ) (r : TextRead) → TextReadAs (bytes_of_text text) (good_bytes text) d d' r → 4 * length text ≤ length d → r.cursor.short ≡ false
unfolding room filled
no_end text d d' r t h =
    let l : length (bytes_of_text text).bytes ≤ length d = omega (arith, text_short text) in
    ap (λ (w : Room). w.cursor.short) t.written ∙ rw (le-leb (length (bytes_of_text text).bytes) (length d) l)

pub read_front : (text d d' : List ℕ) (r : TextRead) → TextReadAs (bytes_of_text text) (good_bytes text) d d' r → 4 * length text ≤ length d → take r.good d' ≡ good_bytes text
read_front text d d' r t h = good_front text d d' r t (no_end text d d' r t h)
