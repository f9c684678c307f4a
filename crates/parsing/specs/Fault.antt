-- The first fault of a text that is not in the readable form: its kind, and where it stands.
use Rattle.std.specs.Prelude.{◌+◌, suc, zero, ℕ, None, Option, Some, cond, List, [], ◌∷◌, eqb, drop, length}
use Rattle.parsing.specs.Read.{complete, is_digit, kind_of, lines_of, no_word, number_in, stops, width_at, words_in}
use Rattle.parsing.specs.declared.Stop.TheVariants.{WordEnd, WordStart}
use Rattle.rules.specs.Lists.{all, place}

-- the number of a kind of fault, 0 for none, and its place: by number what `FaultAt` of the source is by name
pub record Fault : Type 0 where
  pub kind : ℕ
  pub at : ℕ

abbrev pub fault : ℕ → ℕ → Fault
fault kind at = record { kind = kind; at = at }

abbrev pub no_fault : Fault
no_fault = fault 0 0

-- the kinds of fault.
-- The first word of a line is no kind's and not `bytes`
abbrev pub unknown_word : ℕ
unknown_word = 1

-- a word where a number is due has a byte that is no digit
abbrev pub not_number : ℕ
not_number = 2

-- a number is above the most of its field
abbrev pub out_of_range : ℕ
out_of_range = 3

-- a line ends before all its numbers
abbrev pub missing_number : ℕ
missing_number = 4

-- a word stands behind the last number of a line
abbrev pub extra_number : ℕ
extra_number = 5

-- a fault, or where it is none the next one
unfoldable pub or_else : Fault → Fault → Fault
or_else f g = cond (eqb f.kind 0) g f

-- ---- the fault of a line, by its words

-- the fault of a word where a number of w bytes is due
unfoldable pub fault_by : Option ℕ → ℕ → List ℕ → ℕ
fault_by (Some v) w word = 0
fault_by None w word = cond (eqb w 0) extra_number (cond (all is_digit word) out_of_range not_number)

unfoldable pub word_fault : ℕ → List ℕ → ℕ
word_fault w word = fault_by (number_in w word) w word

-- of the words behind the first one, from field f on: the kind of the first fault, and the number of the field where it is
unfoldable pub field_fault : ℕ → ℕ → List (List ℕ) → Fault
field_fault k f [] = cond (complete k f) no_fault (fault missing_number f)
field_fault k f (w ∷ ws) = or_else (fault (word_fault (width_at k f) w) f) (field_fault k (suc f) ws)

-- field f stands in word f + 1
abbrev pub in_field : Fault → Fault
in_field f = fault f.kind (suc f.at)

-- the same of all words of a line, with the number of the word
unfoldable pub kind_fault : ℕ → List (List ℕ) → Fault
kind_fault k ws = cond (eqb k no_word) (fault unknown_word 0) (in_field (field_fault k 0 ws))

unfoldable pub words_fault : List (List ℕ) → Fault
words_fault [] = no_fault
words_fault (w ∷ ws) = kind_fault (kind_of w) ws

-- ---- its place

-- where the first word of a line ends
unfoldable pub word_end : List ℕ → ℕ
word_end cs = place (stops WordStart) cs + place (stops WordEnd) (drop (place (stops WordStart) cs) cs)

-- where word i of a line starts, behind the spaces in front of it; in a line of i words, where the comment or the end of the line is
unfoldable pub word_start : ℕ → List ℕ → ℕ
word_start zero cs = place (stops WordStart) cs
word_start (suc i) cs = word_end cs + word_start i (drop (word_end cs) cs)

-- the fault of a line, and its place in the line
unfoldable pub line_fault : List ℕ → Fault
line_fault line = fault (words_fault (words_in line)).kind (word_start (words_fault (words_in line)).at line)

-- a fault n bytes further on
abbrev pub further : ℕ → Fault → Fault
further n f = fault f.kind (n + f.at)

-- the fault of the first line that has one, and its place in the text: each line before it counts its bytes and its newline
unfoldable pub lines_fault : List (List ℕ) → Fault
lines_fault [] = no_fault
lines_fault (l ∷ ls) = or_else (line_fault l) (further (suc (length l)) (lines_fault ls))

-- the first fault of a text; where it has none, the place is its end
unfoldable pub fault_of : List ℕ → Fault
fault_of text = or_else (lines_fault (lines_of text)) (fault 0 (length text))
