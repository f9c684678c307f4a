-- The parts of a recovery step as the programs have them.
use Rattle.walking.specs.Indices.{entry_at}
use Rattle.std.specs.Prelude.{◌*◌, ◌+◌, ℕ, cond, not, true, List, [], ◌∷◌, eqb, drop, length, None, Option, Some, Result, Ok, Err}
use Rattle.headed.specs.Reader.{read_as}
use Rattle.reading.specs.Scan.{log_of, regions_of}
use Rattle.reading.specs.declared.Scan.{Scan}
use Rattle.recovery.specs.declared.Next.{Next}
use Rattle.recovery.specs.declared.Place.{Place}
use Rattle.recovery.specs.declared.Walked.{Walked}
use Rattle.rules.specs.Image.{Logged, Persistent}
use Rattle.rules.specs.Reader.{Reads, Refuses, Verdict}
use Rattle.rules.specs.Bytes.{line_bytes, paste}
use Rattle.rules.specs.Recovery.{Recovering, RecoveryCall, Restored, answered, line_start}
use Rattle.rules.specs.Walk.{walk_entries, walk_from}
use Rattle.rules.specs.declared.Answer.{Answer}

-- what a step leaves: the image, and what the step by value gives
abbrev pub restored_of : List ℕ → Walked → Restored
restored_of bs w = record { after = record { bytes = bs; at = w.at }; answer = w.answer }

-- what a call leaves: its answer, the image, the place
abbrev pub called_with : Answer → List ℕ → List ℕ → RecoveryCall
called_with a bs at = record { answer = a; image = bs; place = at }

-- the regions that were read, in the order of the walk
abbrev pub walked_keys : Scan → List ℕ
walked_keys s = walk_from (length (regions_of s)) (regions_of s)

-- the index of log entry number `at` of the walk
abbrev pub found_at : Scan → ℕ → Option ℕ
found_at s at = entry_at (walked_keys s) (log_of s) at

-- what a step finds: the first of the entries that are left, and whether others are behind it
abbrev pub next_by : List Logged → Option Next
next_by [] = None
next_by (e ∷ es) = Some (record { key = e.key; line = e.line; old = e.old; more = not (eqb (length es) 0) })

abbrev pub next_of : Verdict Persistent → ℕ → Result (Option Next) ℕ
next_of (Refuses n) at = Err n
next_of (Reads p) at = Ok (next_by (drop at (walk_entries p)))

-- and what the step leaves of an image and a place
abbrev pub stepped_by : Result (Option Next) ℕ → List ℕ → ℕ → Restored
stepped_by (Err n) bs at = record { after = record { bytes = bs; at = at }; answer = answered n 0 }
stepped_by (Ok None) bs at = record { after = record { bytes = bs; at = at }; answer = answered 0 0 }
stepped_by (Ok (Some e)) bs at =
    record { after = record { bytes = paste bs (line_start e.line) (line_bytes e.old); at = at + 1 }; answer = answered 0 (cond e.more 1 0) }

-- the entry that a step at a place would restore, in an image of either form: its region's key and its line in one number; 0 where none is left
abbrev pub entry_value : List Logged → ℕ
entry_value [] = 0
entry_value (e ∷ es) = 256 * e.key + e.line

abbrev pub entry_read : Verdict Persistent → ℕ → Answer
entry_read (Refuses n) at = answered n 0
entry_read (Reads p) at = answered 0 (entry_value (drop at (walk_entries p)))

unfoldable pub entry_call : List ℕ → ℕ → Answer
entry_call bs at = entry_read (read_as true bs) at

-- the same by what a step finds
abbrev pub entry_told : Result (Option Next) ℕ → Result ℕ ℕ
entry_told (Err n) = Err n
entry_told (Ok None) = Ok 0
entry_told (Ok (Some e)) = Ok (256 * e.key + e.line)

-- an image and a place that are lent, and what a step over them leaves
abbrev pub lent_at : List ℕ → Place → Recovering
lent_at bs p = record { bytes = bs; at = p.steps }

abbrev pub left_by : Answer → List ℕ → Place → Restored
left_by a bs p = record { after = lent_at bs p; answer = a }
