-- A text in pieces of any size: the bytes that are read of them are those of the text. And where a text has a fault.
use Rattle.std.specs.Prelude.{◌≤◌, ℕ, ◌≡◌, cond, List, [], ◌++◌, eqb, drop, length, take}
use Rattle.parsing.specs.Fault.{fault_of}
use Rattle.parsing.specs.Read.{bytes_of_text, good_bytes, last_line}

-- the bytes of its lines in the form are those of the whole lines of a piece, and if all of these are in the form, those of what is
-- left of it with all that comes behind
unfoldable pub LinesInPieces : Type 0
LinesInPieces = (a f : List ℕ) → good_bytes (a ++ f) ≡ good_bytes (take (last_line a) a) ++ cond (bytes_of_text (take (last_line a) a)).ok (good_bytes (drop (last_line a) a ++ f)) []

-- a text has no fault exactly where it is in the form; the place of its fault is in it
unfoldable pub FaultsTold : Type 0
FaultsTold = (text : List ℕ) → (eqb (fault_of text).kind 0 ≡ (bytes_of_text text).ok) × ((fault_of text).at ≤ length text)
