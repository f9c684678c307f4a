-- What is written is read back.
use Rattle.std.specs.Prelude.{ℕ, ◌≡◌, true, List, length}
use Rattle.parsing.specs.Read.{bytes_of_text, read_as}
use Rattle.printing.specs.Text.{text_of}
use Rattle.rules.specs.Claim.{is_byte}
use Rattle.rules.specs.Lists.{all}
use Rattle.rules.specs.Record.{records_of}

-- the text of any file is in the form, a line for each of its records, and its bytes are the file's
unfoldable pub RoundTrip : Type 0
RoundTrip = (bs : List ℕ) → all is_byte bs ≡ true → bytes_of_text (text_of bs) ≡ read_as bs (length (records_of bs)) true
