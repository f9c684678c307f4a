-- What is written is read back: record by record.
use Prim.Native.Nat.{suc, zero, ℕ}
use mathlib.Core.Path.{◌∙◌, ◌≡◌, refl}
use mathlib.Core.Bool.{false, true}
use mathlib.Core.List.{List, [], ◌++◌, ◌∷◌, append-nil}
use lib.ListN.{drop, length, take, take-append-drop}
use native.Mathlib.Omega.{arith}
use lib.Seq.{drop-nil}
use Rattle.lines.proofs.Words.{Bytes, a_byte, all_bytes, no_byte}
use Rattle.rules.specs.Lists.{flat}
use Rattle.rules.specs.Record.{body_length, is_whole, read_record, records_from}
use Rattle.text.proofs.Back.{text_lines}
use Rattle.text.proofs.BackLines.{bytes_back, bytes_plain, event_back, name_plain}
use Rattle.events.proofs.Records.{records_none, records_off, records_on, records_pass, stands, whole_pos}
use Rattle.printing.proofs.Records.{bytes_line, whole_line}
use Rattle.text.specs.Claim.{RoundTrip}
use Rattle.rules.specs.Kinds.{bytes_word, widths_of, word_of}
use Rattle.parsing.specs.Read.{bytes_of_text, got, line_then, lines_of, lines_read, read_as, words_in, words_read}
use Rattle.printing.specs.Text.{number_text, numbers_of, record_text, text_of}
use Rattle.undo.proofs.Laws.{test}
use Rattle.undo.proofs.Shape.{rest}

line_on : (l : List ℕ) (ls : List (List ℕ)) (bs : List ℕ) → words_read (words_in l) ≡ got bs true → lines_read (l ∷ ls) ≡ read_as (bs ++ (lines_read ls).bytes) (suc (lines_read ls).lines) (lines_read ls).ok
unfolding lines_read line_then got
line_on l ls bs e = rw e

read_none : lines_read (lines_of []) ≡ read_as [] 0 true
unfolding lines_read lines_of
read_none = refl

read_on : (l : List ℕ) (ls : List (List ℕ)) (bs cs : List ℕ) (n : ℕ) → words_read (words_in l) ≡ got bs true → lines_read ls ≡ read_as cs n true → lines_read (l ∷ ls) ≡ read_as (bs ++ cs) (suc n) true
unfolding read_as
read_on l ls bs cs n e f = line_on l ls bs e ∙ rw f

text_cons : (r : List ℕ) (rs : List (List ℕ)) → flat record_text (r ∷ rs) ≡ record_text r ++ flat record_text rs
unfolding flat
text_cons r rs = refl

text_nil : flat record_text [] ≡ []
unfolding flat
text_nil = refl

-- a whole record, and one that ends the file
whole_back : (b : ℕ) (bs : List ℕ) → Bytes bs → is_whole (read_record (b ∷ bs)) ≡ true → (rest cs : List ℕ) (n : ℕ) → lines_read (lines_of rest) ≡ read_as cs n true → lines_read (lines_of (record_text (b ∷ bs) ++ rest)) ≡ read_as ((b ∷ take (body_length b) bs) ++ cs) (suc n) true
whole_back b bs hs w rest cs n e =
    let p = whole_pos (b ∷ bs) w in
    let s = stands (b ∷ bs) p in
    rw (whole_line (b ∷ bs) p, text_lines (word_of b) (numbers_of (widths_of b) bs) rest (name_plain b s.known))
    (read_on (word_of b ++ flat number_text (numbers_of (widths_of b) bs)) (lines_of rest) (b ∷ take (body_length b) bs) cs n (event_back b bs s.known hs (omega (arith, s.room_for))) e)

rest_back : (b : ℕ) (bs : List ℕ) → Bytes (b ∷ bs) → is_whole (read_record (b ∷ bs)) ≡ false → lines_read (lines_of (record_text (b ∷ bs) ++ [])) ≡ read_as (b ∷ bs) 1 true
rest_back b bs hs w =
    rw (bytes_line (b ∷ bs) w, text_lines bytes_word (b ∷ bs) [] bytes_plain)
    (read_on (bytes_word ++ flat number_text (b ∷ bs)) (lines_of []) (b ∷ bs) [] 0 (bytes_back (b ∷ bs) (omega arith) hs) read_none ∙ rw append-nil)

-- the text of the records from a place on
from_back : (k : ℕ) {bs : List ℕ} → Bytes bs → lines_read (lines_of (flat record_text (records_from k bs))) ≡ read_as (drop k bs) (length (records_from k bs)) true
from_back k no_byte = rw (records_none k, text_nil, drop-nil k) read_none
from_back (suc k) (a_byte {b} {bs} h hs) = rw (records_pass k b bs) (from_back k hs)
from_back zero (a_byte {b} {bs} h hs) =
    let ih = from_back (body_length b) hs in
    test (is_whole (read_record (b ∷ bs)))
    (λ w. rw (records_on b bs w, text_cons) (whole_back b bs hs w (flat record_text (records_from (body_length b) bs)) (drop (body_length b) bs) (length (records_from (body_length b) bs)) ih ∙ rw take-append-drop))
    (λ w. rw (records_off b bs w, text_cons, text_nil) (rest_back b bs (a_byte h hs) w))

pub round_trip : RoundTrip
unfolding bytes_of_text text_of RoundTrip
round_trip bs e = from_back 0 (all_bytes bs e)
