-- The faults of a text and the kinds of its lines, and their numbers.
use Rattle.std.specs.Prelude.{ℕ, None, Option, Some}
use Rattle.events.specs.Number.{number_of}
use Rattle.parsing.specs.Read.{bytes_line, no_word}
use Rattle.parsing.specs.declared.LineKind.{LineKind}
use Rattle.parsing.specs.declared.LineKind.TheVariants.{Bytes, Event}
use Rattle.parsing.specs.Fault.{extra_number, missing_number, not_number, out_of_range, unknown_word}
use Rattle.parsing.specs.declared.Fault.{Fault}
use Rattle.parsing.specs.declared.Fault.TheVariants.{ExtraNumber, MissingNumber, NotNumber, OutOfRange, UnknownWord}

abbrev pub fault_number : Fault → ℕ
fault_number UnknownWord = unknown_word
fault_number NotNumber = not_number
fault_number OutOfRange = out_of_range
fault_number MissingNumber = missing_number
fault_number ExtraNumber = extra_number

abbrev pub line_number : LineKind → ℕ
line_number (Event k) = number_of k
line_number Bytes = bytes_line

-- the number of a line, and of none
abbrev pub line_code : Option LineKind → ℕ
line_code None = no_word
line_code (Some l) = line_number l
