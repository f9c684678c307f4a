-- What was read of an image, held in tables of fixed length.
use Rattle.std.specs.Prelude.{ℕ, Result, Ok, Err, List, map, length, replicate, take}
use Rattle.std.proofs.lemmas.List.Edits.{sets}
use Rattle.rules.specs.Image.{Persistent}
use Rattle.rules.specs.Marks.{marks_of, no_mark}
use Rattle.rules.specs.Measures.{most_deps, most_logged, most_regions}
use Rattle.rules.specs.Reader.{Reads, Refuses, Verdict}
use Rattle.rules.specs.declared.Listed.{Listed}
use Rattle.rules.specs.declared.Mark.{Mark}
use Rattle.rules.specs.Codes.{code}
use Rattle.rules.specs.declared.Refusal.{Refusal}
use Rattle.reading.specs.declared.Scan.{Scan}
use Rattle.reading.specs.Spots.{first_spot, old_at, spots_from}

-- what a free place of the regions holds
abbrev pub free_listed : Listed
free_listed = record { key = 0; state = 0; deps = replicate most_deps 0 }

-- a table of n places with the elements of a list from its front on
abbrev pub filled : {A : Type 0} → ℕ → A → List A → List A
filled n x xs = sets (replicate n x) 0 xs

-- the tables of a state, where the old lines of its log stand at places ps
unfoldable pub scan_of : List ℕ → Persistent → Scan
scan_of ps p =
    record {
      threads = p.threads;
      lines = p.lines;
      seen = length p.medium;
      held = length p.regions;
      regions = filled most_regions free_listed p.regions;
      logged = length p.log;
      log = filled most_logged no_mark (marks_of ps p.log);
    }

-- where they stand in the bytes that it was read of
abbrev pub olds_of : List ℕ → Persistent → List ℕ
olds_of bs p = map (old_at bs) (spots_from (length p.log) bs (first_spot p))

-- the outcome of the reader: a refusal, or what was read of the bytes
abbrev pub read_of : List ℕ → Verdict Persistent → Result Scan ℕ
read_of bs (Refuses n) = Err n
read_of bs (Reads p) = Ok (scan_of (olds_of bs p) p)

-- an outcome with the number of its refusal
abbrev pub by_number : {A : Type 0} → Result A Refusal → Result A ℕ
by_number (Ok x) = Ok x
by_number (Err r) = Err (code r)

-- the regions and the log entries that were read
abbrev pub regions_of : Scan → List Listed
regions_of s = take s.held s.regions

abbrev pub log_of : Scan → List Mark
log_of s = take s.logged s.log
