-- How long a text is.
use Prim.Native.Nat.{◌*◌, ◌+◌, ◌-◌, ◌≤◌, suc, zero, ℕ}
use mathlib.Core.Path.{◌∙◌, ◌≡◌, ap, refl, sym}
use mathlib.Core.Bool.{false, false≢true, true}
use mathlib.Core.List.{List, [], ◌++◌, ◌∷◌, append-nil}
use lib.ListN.{drop, length, length-append}
use native.Mathlib.Omega.{arith}
use native.Mathlib.Nat.{mul-suc}
use Rattle.events.proofs.Records.{stands, whole_pos}
use Rattle.events.proofs.Table.{body_total, fitting}
use Rattle.events.specs.Row.{is_width}
use Rattle.events.specs.Whole.{whole_length}
use Rattle.output.proofs.Digits.{decimal_short}
use Rattle.printing.proofs.Pieces.{text_split}
use Rattle.printing.proofs.Records.{bytes_line, whole_line}
use Rattle.printing.specs.Text.{line_text, number_text, numbers_of, record_text, text_of, whole_text}
use Rattle.rules.specs.Kinds.{bytes_word, total, widths_of, word_of}
use Rattle.rules.specs.Lists.{all, flat}
use Rattle.rules.specs.Record.{body_length, is_whole, read_record, records_from}
use Rattle.undo.proofs.Laws.{and_true, test}

number_short : (n : ℕ) → length (number_text n) ≤ 21
unfolding number_text
number_short n = omega (arith, decimal_short n)

pub numbers_short : (ns : List ℕ) → length (flat number_text ns) ≤ 21 * length ns
unfolding flat
numbers_short [] = omega arith
numbers_short (n ∷ ns) =
    rw (length-append (number_text n) (flat number_text ns), mul-suc 21 (length ns)) (omega (arith, number_short n, numbers_short ns))

-- as many numbers as widths
numbers_count : (ws bs : List ℕ) → length (numbers_of ws bs) ≡ length ws
unfolding numbers_of
numbers_count [] bs = refl
numbers_count (w ∷ ws) bs = ap suc (numbers_count ws (drop w bs))

line_short : (word ns : List ℕ) → length (line_text word ns) ≤ length word + (21 * length ns + 1)
unfolding line_text
line_short word ns =
    omega (arith, length-append word (flat number_text ns ++ (10 ∷ [])), length-append (flat number_text ns) (10 ∷ []), numbers_short ns)

-- a number has at least one byte
few : (ws : List ℕ) → all is_width ws ≡ true → length ws ≤ total ws
few [] e = omega arith
few (w ∷ ws) e = let h = and_true (is_width w) (all is_width ws) e in omega (arith, few ws h.1, some w h.0)
  where
    some : (w : ℕ) → is_width w ≡ true → 1 ≤ w
    some zero e = absurd (false≢true e)
    some (suc w) e = omega arith

-- a whole record is at most 32 bytes of text for each of its bytes
record_short : (b : ℕ) (bs : List ℕ) → is_whole (read_record (b ∷ bs)) ≡ true → length (record_text (b ∷ bs)) ≤ 32 * suc (body_length b)
record_short b bs w =
    let p = whole_pos (b ∷ bs) w in
    let s = stands (b ∷ bs) p in
    let ns = numbers_of (widths_of b) bs in
    rw (whole_line (b ∷ bs) p)
    (omega (arith, line_short (word_of b) ns, numbers_count (widths_of b) bs, (fitting b).letters, few (widths_of b) (fitting b).wide, body_total b))

-- and so are bytes that are none
bytes_short : (b : ℕ) (bs : List ℕ) → is_whole (read_record (b ∷ bs)) ≡ false → length (record_text (b ∷ bs)) ≤ 32 * length (b ∷ bs)
bytes_short b bs w = rw (bytes_line (b ∷ bs) w) (omega (arith, line_short bytes_word (b ∷ bs)))

short : (k : ℕ) (bs : List ℕ) → k ≤ length bs → length (flat record_text (records_from k bs)) ≤ 32 * (length bs - k)
unfolding records_from flat
short k [] h = omega arith
short (suc k) (b ∷ bs) h = let e : suc (length bs) - suc k ≡ length bs - k = omega arith in rw e (short k bs (omega arith))
short zero (b ∷ bs) h =
    test (is_whole (read_record (b ∷ bs)))
    (λ w. let s = stands (b ∷ bs) (whole_pos (b ∷ bs) w) in
    let rest = flat record_text (records_from (body_length b) bs) in
    let l : body_length b ≤ length bs = omega (arith, s.room_for) in
    let ih = short (body_length b) bs l in
    rw w (omega (arith, length-append (record_text (b ∷ bs)) rest, record_short b bs w, ih, l)))
    (λ w. rw (w, append-nil) (omega (arith, bytes_short b bs w)))

pub text_short : (a : List ℕ) → length (text_of a) ≤ 32 * length a
unfolding text_of
text_short a = omega (arith, short 0 a (omega arith))

-- the whole records of a piece
pub whole_short : (a : List ℕ) → length (whole_text a) ≤ 32 * length a
whole_short a =
    let rest = text_of (drop (whole_length a) a ++ []) in
    let e : length (text_of a) ≡ length (whole_text a) + length rest = ap (λ (z : List ℕ). length (text_of z)) (sym (append-nil a)) ∙ (ap length (text_split a []) ∙ length-append (whole_text a) rest) in
    omega (arith, text_short a)
