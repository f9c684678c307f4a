-- What the calls write, by their definitions.
use Prim.Native.Nat.{◌*◌, ◌-◌, ◌<◌, ◌≤◌, suc, zero, ℕ}
use mathlib.Core.Path.{◌∙◌, ◌≡◌, ap, refl, sym}
use mathlib.Core.Bool.{false}
use mathlib.Core.List.{List, [], ◌++◌, ◌∷◌, append-nil}
use lib.ListN.{drop, length, take}
use native.Mathlib.Omega.{arith}
use lib.Seq.{take_all}
use borrow.Author.Tests.{le-leb, lt-leb, ne_eqb}
use Rattle.events.specs.Whole.{whole_from, whole_length}
use Rattle.lines.proofs.Paste.{rest}
use Rattle.output.proofs.Rooms.{puts_filled, puts_join, puts_none}
use Rattle.output.specs.Room.{Room, filled, puts, room}
use Rattle.output.specs.Writer.{room_of}
use Rattle.output.specs.declared.Cursor.{Cursor}
use Rattle.output.specs.declared.Writer.{Writer}
use Rattle.parsing.specs.Fault.{fault_of}
use Rattle.parsing.specs.Read.{bytes_of_text}
use Rattle.printing.proofs.Pieces.{in_pieces}
use Rattle.printing.proofs.Records.{line_puts}
use Rattle.printing.specs.Claim.{InPieces, rest_text, text_in}
use Rattle.printing.specs.Text.{number_text, text_of, whole_text}
use Rattle.rules.specs.Kinds.{bytes_word}
use Rattle.rules.specs.Lists.{flat}
use Rattle.rules.specs.Record.{body_length, is_whole, read_record}
use Rattle.rules.specs.Run.{Wrote}
use Rattle.rules.specs.declared.Answer.{Answer}
use Rattle.text.specs.Calls.{bytes_call, refused_by, text_call, wrote_front}
use Rattle.undo.proofs.Laws.{test}

-- a buffer that is filled and has room for all bytes
fills : (d bs : List ℕ) → length bs ≤ length d → filled d bs ≡ room (bs ++ drop (length bs) d) (record { at = length bs; short = false })
unfolding filled
fills d bs h = rw (le-leb (length bs) (length d) h, take_all (length d) bs h)

pub wrote_back : (d x bs : List ℕ) (c : Cursor) → room x c ≡ filled d bs → length bs ≤ length d → record { answer = record { refusal = 0; value = c.at }; buffer = x } ≡ wrote_front bs d
unfolding room
wrote_back d x bs c e h =
    let f : Room → Wrote = λ r. record { answer = record { refusal = 0; value = r.cursor.at }; buffer = r.buffer } in
    ap f (e ∙ fills d bs h)

-- the same where the writer w has filled the buffer, which is now x
pub wrote_all : (d x bs : List ℕ) (w : Writer) → x ≡ w.out.now → room_of w ≡ filled d bs → length bs ≤ length d → record { answer = record { refusal = 0; value = w.cursor.at }; buffer = x } ≡ wrote_front bs d
wrote_all d x bs w y e h = rw y (wrote_back d w.out.now bs w.cursor e h)

pub says_refused : (a : Answer) (n : ℕ) (d : List ℕ) (w : Wrote) → a ≡ record { refusal = n; value = 0 } → w ≡ refused_by n d → record { answer = a; buffer = d } ≡ w
says_refused a n d w e f = rw e (sym f)

-- ---- from a file to its text

from_in : (k : ℕ) (bs : List ℕ) → whole_from k bs ≤ length bs
unfolding whole_from
from_in k [] = omega arith
from_in (suc k) (b ∷ bs) = omega (arith, from_in k bs)
from_in zero (b ∷ bs) = let ih = from_in (body_length b) bs in test (is_whole (read_record (b ∷ bs))) (λ w. rw w (omega arith)) (λ w. rw w (omega arith))

pub whole_in : (file : List ℕ) → whole_length file ≤ length file
unfolding whole_length
whole_in file = from_in 0 file

text_parts : (file : List ℕ) → whole_text file ++ rest_text (drop (whole_length file) file) ≡ text_of file
unfolding InPieces text_in flat
text_parts file = in_pieces (file ∷ []) ∙ rw append-nil

-- what is left of a file: nothing, or a line
pub rest_none : (r : Room) (rest : List ℕ) → length rest ≡ 0 → r ≡ puts r (rest_text rest)
unfolding rest_text
rest_none r [] e = sym (puts_none r)
rest_none r (b ∷ bs) e = absurd (omega arith)

pub rest_some : (r : Room) (rest : List ℕ) → (length rest ≡ 0 → ⊥) → puts (puts (puts r bytes_word) (flat number_text rest)) (10 ∷ []) ≡ puts r (rest_text rest)
unfolding rest_text
rest_some r [] n = absurd (n refl)
rest_some r (b ∷ bs) n = sym (line_puts r bytes_word (b ∷ bs))

-- the whole records, and what is left, fill the buffer with the text
pub text_filled : (file t : List ℕ) (m : Writer) (at : ℕ) (r : Room) → at ≡ whole_length file → room_of m ≡ puts (room t (record { at = 0; short = false })) (whole_text file) → r ≡ puts (room_of m) (rest_text (take (length file - at) (drop at file))) → r ≡ filled t (text_of file)
text_filled file t m at r e p h =
    h ∙ rw (rest file at, p, e, ← puts_join (room t (record { at = 0; short = false })) (whole_text file) (rest_text (drop (whole_length file) file)), text_parts file) (puts_filled t (text_of file))

pub text_refused : (file d : List ℕ) → length d < 32 * length file → text_call file d ≡ refused_by 6 d
unfolding text_call
text_refused file d h = rw (lt-leb (32 * length file) (length d) h)

pub text_written : (file d : List ℕ) → 32 * length file ≤ length d → text_call file d ≡ wrote_front (text_of file) d
unfolding text_call
text_written file d h = rw (le-leb (32 * length file) (length d) h)

-- ---- from a text to its bytes

pub bytes_refused : (text d : List ℕ) → length d < 4 * length text → bytes_call text d ≡ refused_by 6 d
unfolding bytes_call
bytes_refused text d h = rw (lt-leb (4 * length text) (length d) h)

module _ (text d : List ℕ) (h : 4 * length text ≤ length d) where
  pub fault_refused : ((fault_of text).kind ≡ 0 → ⊥) → bytes_call text d ≡ refused_by (fault_of text).kind d
  unfolding bytes_call
  fault_refused n = rw (le-leb (4 * length text) (length d) h, ne_eqb (fault_of text).kind 0 n)

  pub bytes_written : (fault_of text).kind ≡ 0 → bytes_call text d ≡ wrote_front (bytes_of_text text).bytes d
  unfolding bytes_call
  bytes_written e = rw (le-leb (4 * length text) (length d) h, e)
