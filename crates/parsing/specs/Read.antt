-- The readable form of an event file, from text to bytes.
use Rattle.std.specs.Prelude.{◌*◌, ◌+◌, ◌-◌, suc, ℕ, Bool, None, Option, Some, ◌&&◌, ◌||◌, cond, false, not, true, List, [], ◌++◌, ◌∷◌, eqb, leb, ltb, get_or, length}
use Rattle.rules.specs.Bytes.{bytes_of}
use Rattle.parsing.specs.declared.Stop.{Stop}
use Rattle.parsing.specs.declared.Stop.TheVariants.{LineEnd, WordEnd, WordStart}
use Rattle.rules.specs.Kinds.{Kind, bytes_word, kinds, widths_of}
use Rattle.rules.specs.Lists.{place}

-- a byte in front of the first line, or of the first word
abbrev pub glued : ℕ → List (List ℕ) → List (List ℕ)
glued c [] = (c ∷ []) ∷ []
glued c (l ∷ ls) = (c ∷ l) ∷ ls

-- the lines of a text: each ends with a newline, the last one with the text
unfoldable pub lines_of : List ℕ → List (List ℕ)
lines_of [] = []
lines_of (c ∷ cs) = cond (eqb c 10) ([] ∷ lines_of cs) (glued c (lines_of cs))

-- a byte that stands between words: a space, a tab or a carriage return
abbrev pub is_space : ℕ → Bool
is_space c = eqb c 32 || (eqb c 9 || eqb c 13)

-- a byte that ends a word: a space, or '#'
abbrev pub is_break : ℕ → Bool
is_break c = is_space c || eqb c 35

-- a word goes on
abbrev pub in_word : List ℕ → Bool
in_word [] = false
in_word (c ∷ cs) = not (is_break c)

-- the words of a line; '#' starts a comment
unfoldable pub words_in : List ℕ → List (List ℕ)
words_in [] = []
words_in (c ∷ cs) =
    cond (eqb c 35) []
    (cond (is_space c) (words_in cs) (cond (in_word cs) (glued c (words_in cs)) ((c ∷ []) ∷ words_in cs)))

-- where a search of a line or a text stops: at a byte that is no space, at the end of a word, at a newline
unfoldable pub stops : Stop → ℕ → Bool
stops WordStart c = not (is_space c)
stops WordEnd c = is_break c
stops LineEnd c = eqb c 10

unfoldable pub same : List ℕ → List ℕ → Bool
same [] [] = true
same [] (y ∷ ys) = false
same (x ∷ xs) [] = false
same (x ∷ xs) (y ∷ ys) = cond (eqb x y) (same xs ys) false

-- lines that are no event: bytes as they stand, and a first word that means nothing. No kind has these numbers
abbrev pub bytes_line : ℕ
bytes_line = 254

abbrev pub no_word : ℕ
no_word = 255

-- a word is that of a kind; no kind has the empty word
abbrev pub is_name : List ℕ → Kind → Bool
is_name w k = ltb 0 (length w) && same w k.word

-- the line that a word begins which is no kind's
unfoldable pub other_line : List ℕ → ℕ
other_line w = cond (same w bytes_word) bytes_line no_word

-- the line that a word begins
unfoldable pub kind_of : List ℕ → ℕ
kind_of w = cond (ltb (place (is_name w) kinds) (length kinds)) (place (is_name w) kinds) (other_line w)

-- the largest number in a field of 1, 2 or 8 bytes
unfoldable pub most_of : ℕ → ℕ
most_of w = cond (eqb w 1) 255 (cond (eqb w 2) 65535 18446744073709551615)

abbrev pub is_digit : ℕ → Bool
is_digit c = leb 48 c && ltb c 58

-- a number with one digit more; none where the byte is no digit, or where the number is above the most
unfoldable pub with_digit : ℕ → ℕ → ℕ → Option ℕ
with_digit most v c = cond (is_digit c) (cond (leb (10 * v + (c - 48)) most) (Some (10 * v + (c - 48))) None) None

-- the number that a word means, after digits that mean a number already
unfoldable pub number_from : ℕ → Option ℕ → List ℕ → Option ℕ
number_from most n [] = n
number_from most None (c ∷ cs) = None
number_from most (Some v) (c ∷ cs) = number_from most (with_digit most v c) cs

-- the width of field f in a line of kind k; 0 if it has no such field. A line of bytes has any number of them
unfoldable pub width_at : ℕ → ℕ → ℕ
width_at k f = cond (eqb k bytes_line) 1 (get_or (widths_of k) f 0)

-- f fields are all that a line of kind k needs; of bytes, at least one
unfoldable pub complete : ℕ → ℕ → Bool
complete k f = cond (eqb k bytes_line) (ltb 0 f) (eqb (width_at k f) 0)

-- the number in a word that stands for a field of w bytes
unfoldable pub number_in : ℕ → List ℕ → Option ℕ
number_in w word = cond (eqb w 0) None (number_from (most_of w) (Some 0) word)

-- what is read of a line: its bytes, those before the fault if it is not in the form
pub record Got : Type 0 where
  pub bytes : List ℕ
  pub ok : Bool

unfoldable pub got : List ℕ → Bool → Got
got bs ok = record { bytes = bs; ok = ok }

-- bytes in front of what is read
unfoldable pub behind : List ℕ → Got → Got
behind bs g = got (bs ++ g.bytes) g.ok

-- a field of w bytes, and what is read behind it
unfoldable pub field : ℕ → Option ℕ → Got → Got
field w None g = got [] false
field w (Some v) g = behind (bytes_of w v) g

-- the words behind the first one, from field f on
unfoldable pub fields_from : ℕ → ℕ → List (List ℕ) → Got
fields_from k f [] = got [] (complete k f)
fields_from k f (w ∷ ws) = field (width_at k f) (number_in (width_at k f) w) (fields_from k (suc f) ws)

-- the byte of kind that a record begins with; `bytes` has none
unfoldable pub kind_bytes : ℕ → List ℕ
kind_bytes k = cond (eqb k bytes_line) [] (k ∷ [])

unfoldable pub kind_then : ℕ → List (List ℕ) → Got
kind_then k ws = cond (eqb k no_word) (got [] false) (behind (kind_bytes k) (fields_from k 0 ws))

-- a line by its words; one without words is empty
unfoldable pub words_read : List (List ℕ) → Got
words_read [] = got [] true
words_read (w ∷ ws) = kind_then (kind_of w) ws

-- what is read of a text: the bytes, the number of lines that are in the form, and whether that is all.
-- If not, the next line is the first one that is not in the form, and the bytes are those before the fault in it
pub record Text : Type 0 where
  pub bytes : List ℕ
  pub lines : ℕ
  pub ok : Bool

unfoldable pub read_as : List ℕ → ℕ → Bool → Text
read_as bs n ok = record { bytes = bs; lines = n; ok = ok }

unfoldable pub line_then : Got → Text → Text
line_then g t = cond g.ok (read_as (g.bytes ++ t.bytes) (suc t.lines) t.ok) (read_as g.bytes 0 false)

unfoldable pub lines_read : List (List ℕ) → Text
lines_read [] = read_as [] 0 true
lines_read (l ∷ ls) = line_then (words_read (words_in l)) (lines_read ls)

unfoldable pub bytes_of_text : List ℕ → Text
bytes_of_text text = lines_read (lines_of text)

-- the bytes of the lines before the first one that is not in the form
unfoldable pub good_then : Got → List ℕ → List ℕ
good_then g bs = cond g.ok (g.bytes ++ bs) []

unfoldable pub good_of : List (List ℕ) → List ℕ
good_of [] = []
good_of (l ∷ ls) = good_then (words_read (words_in l)) (good_of ls)

unfoldable pub good_bytes : List ℕ → List ℕ
good_bytes text = good_of (lines_of text)

-- ---- a text in pieces

-- the place behind the last newline; 0 where there is none
unfoldable pub last_line : List ℕ → ℕ
last_line [] = 0
last_line (c ∷ cs) = cond (eqb c 10 || ltb 0 (last_line cs)) (suc (last_line cs)) 0
