-- The calls for both forms of an event file: the answer, and the buffer behind it.
use Rattle.std.specs.Prelude.{◌*◌, ℕ, cond, List, ◌++◌, eqb, leb, drop, length}
use Rattle.parsing.specs.Fault.{fault_of}
use Rattle.parsing.specs.Read.{bytes_of_text}
use Rattle.printing.specs.Text.{text_of}
use Rattle.rules.specs.Run.{Wrote}

-- a refusal: the buffer is as it was
abbrev pub refused_by : ℕ → List ℕ → Wrote
refused_by n buf = record { answer = record { refusal = n; value = 0 }; buffer = buf }

-- bytes at the front of the buffer, and the rest of it as it was; the value is the number of these bytes
abbrev pub wrote_front : List ℕ → List ℕ → Wrote
wrote_front bs buf = record { answer = record { refusal = 0; value = length bs }; buffer = bs ++ drop (length bs) buf }

-- the text of a file; 6 unless the buffer has 32 bytes for each byte of the file
unfoldable pub text_call : List ℕ → List ℕ → Wrote
text_call file buf = cond (leb (32 * length file) (length buf)) (wrote_front (text_of file) buf) (refused_by 6 buf)

-- the bytes of a text; 6 unless the buffer has 4 bytes for each byte of the text; then the kind of its fault, 1 to 5, if it has one
unfoldable pub bytes_call : List ℕ → List ℕ → Wrote
bytes_call text buf =
    cond (leb (4 * length text) (length buf))
    (cond (eqb (fault_of text).kind 0) (wrote_front (bytes_of_text text).bytes buf) (refused_by (fault_of text).kind buf))
    (refused_by 6 buf)
