-- The readable form of an event file: one event a line, its word and then its numbers in decimal. Bytes that are no whole record are a line of their own.
use Rattle.std.specs.Prelude.{ℕ, cond, List, [], ◌++◌, ◌∷◌, drop, get_or, take}
use Rattle.output.specs.Decimal.{decimal}
use Rattle.rules.specs.Bytes.{num_of}
use Rattle.rules.specs.Kinds.{bytes_word, widths_of, word_of}
use Rattle.rules.specs.Lists.{flat}
use Rattle.rules.specs.Record.{is_whole, read_record, records_of}
use Rattle.undo.specs.Table.{keep}

-- a number in a line: a space and its digits
unfoldable pub number_text : ℕ → List ℕ
number_text n = 32 ∷ decimal n

-- a line: its word, its numbers, a newline
unfoldable pub line_text : List ℕ → List ℕ → List ℕ
line_text word ns = word ++ (flat number_text ns ++ (10 ∷ []))

-- the numbers in a body, by their widths
unfoldable pub numbers_of : List ℕ → List ℕ → List ℕ
numbers_of [] bs = []
numbers_of (w ∷ ws) bs = num_of (take w bs) ∷ numbers_of ws (drop w bs)

-- a whole record as its line; the record that ends a file as bytes, with all that stands behind it
unfoldable pub record_text : List ℕ → List ℕ
record_text r =
    cond (is_whole (read_record r)) (line_text (word_of (get_or r 0 0)) (numbers_of (widths_of (get_or r 0 0)) (drop 1 r))) (line_text bytes_word r)

unfoldable pub text_of : List ℕ → List ℕ
text_of file = flat record_text (records_of file)

-- the lines of the whole records, which may be written before more of the file has come
unfoldable pub whole_text : List ℕ → List ℕ
whole_text file = flat record_text (keep (λ r. is_whole (read_record r)) (records_of file))
