-- What a writer of records leaves.
use Rattle.std.specs.Prelude.{◌+◌, ◌≤◌, cond, ℕ, List, [], leb, length}
use Rattle.output.specs.Writer.{Puts}
use Rattle.output.specs.declared.Writer.{Writer}

-- there is room for the bytes bs behind the cursor
abbrev pub Fits : Writer → List ℕ → Type 0
Fits w bs = w.cursor.at + length bs ≤ length w.out.now

-- w' is the writer w with the bytes bs put behind its cursor where there is room for them, and the same where there is none
abbrev pub PutsWhole : Writer → List ℕ → Writer → Type 0
PutsWhole w bs w' = Puts w (cond (leb (w.cursor.at + length bs) (length w.out.now)) bs []) w'
