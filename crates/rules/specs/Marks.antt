-- A log entry of an image as the programs hold it: by its region and line, and by the place where its old line stands.
use Rattle.std.specs.Prelude.{◌%◌, ℕ, List, [], ◌∷◌, drop, get_or}
use Rattle.rules.specs.Image.{Logged}
use Rattle.rules.specs.declared.Mark.{Mark}

-- the entry whose old line stands at a place; in an image that is accepted all places are below 65536
abbrev pub mark_at : ℕ → Logged → Mark
mark_at a e = record { key = e.key; line = e.line; at = a % 65536 }

-- a free place of a table
abbrev pub no_mark : Mark
no_mark = record { key = 0; line = 0; at = 0 }

-- the entries of a log, each with its place
abbrev pub marks_of : List ℕ → List Logged → List Mark
marks_of ps [] = []
marks_of ps (e ∷ es) = mark_at (get_or ps 0 0) e ∷ marks_of (drop 1 ps) es
