-- What the reader answers, by the definitions.
use Rattle.std.specs.Prelude.{◌+◌, ◌-◌, ◌<◌, ◌≤◌, ℕ, ◌≡◌, Bool, None, Option, Some, List, [], ◌∷◌, drop, length, take}
use Rattle.parsing.specs.Fault.{Fault, fault, word_end, word_start}
use Rattle.parsing.specs.Read.{Got, Text, words_in}
use Rattle.output.specs.Room.{filled, room}
use Rattle.output.specs.Writer.{Puts}
use Rattle.output.specs.declared.Writer.{Writer}
use Rattle.parsing.specs.Numbers.{fault_number}
use Rattle.parsing.specs.declared.Fault.{Fault as FaultName}
use Rattle.parsing.specs.declared.FaultAt.{FaultAt}
use Rattle.parsing.specs.declared.Span.{Span}
use Rattle.parsing.specs.declared.TextRead.{TextRead}

-- the first word of a line from `at` on: where it starts and ends; its start is its end if there is none
pub record NextWord (line : List ℕ) (at : ℕ) (w : Span) : Type 0 where
  pub behind : at ≤ w.start
  pub before : w.start ≤ w.end
  pub inside : w.end ≤ length line
  pub none : w.start ≡ w.end → words_in (drop at line) ≡ []
  pub some : w.start < w.end → words_in (drop at line) ≡ take (w.end - w.start) (drop w.start line) ∷ words_in (drop w.end line)
  pub starts : w.start ≡ at + word_start 0 (drop at line)
  pub ends : w.start < w.end → w.end ≡ at + word_end (drop at line)

-- the number of a fault, 0 for none
abbrev pub fault_code : Option FaultName → ℕ
fault_code None = 0
fault_code (Some f) = fault_number f

-- a fault by its number, and its place; of none, the place is n
abbrev pub told : ℕ → Option FaultAt → Fault
told n None = fault 0 n
told n (Some f) = fault (fault_number f.fault) f.at

-- a fault of the words of a line from `at` on is found, g: its kind, and where it is one, the place of the word
pub record Finds (g : Fault) (line : List ℕ) (at : ℕ) (r : Fault) : Type 0 where
  pub tells : r.kind ≡ g.kind
  pub placed : (r.kind ≡ 0 → ⊥) → r.at ≡ at + word_start g.at (drop at line)

-- a line is read as g: its bytes are put, and the answer tells whether it is in the form
pub record ReadsAs (g : Got) (w w' : Writer) (ok : Bool) : Type 0 where
  pub written : Puts w g.bytes w'
  pub tells : ok ≡ g.ok

-- a text is read as g into a buffer, as much of its bytes as there is room for; `good` is the place behind the bytes of the lines in the form, `ls`
pub record TextReadAs (g : Text) (ls : List ℕ) (entry exit : List ℕ) (r : TextRead) : Type 0 where
  pub written : room exit r.cursor ≡ filled entry g.bytes
  pub good_end : r.good ≡ (filled entry ls).cursor.at
  pub counted : r.lines ≡ g.lines
  pub tells : r.ok ≡ g.ok
