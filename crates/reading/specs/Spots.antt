-- Where the old lines of a log stand among its records: each entry of a record behind the other, then those of the next record.
use Rattle.std.specs.Prelude.{◌*◌, ◌+◌, suc, zero, ℕ, Bool, ◌||◌, cond, List, [], ◌∷◌, eqb, leb, ltb, drop, get_or, length}
use Rattle.headed.specs.Reader.{entry_in, held_by, is_header}
use Rattle.reading.specs.declared.Spot.{Spot}
use Rattle.rules.specs.Image.{Logged, Persistent}
use Rattle.rules.specs.Marks.{mark_at}
use Rattle.rules.specs.declared.Mark.{Mark}

-- the kinds of log records, and how many entries each holds: a body of 35 is laid out as one of 41
abbrev pub is_log_kind : ℕ → Bool
is_log_kind k = eqb k 35 || is_header k

abbrev pub holds : ℕ → ℕ
holds k = cond (is_header k) (held_by k) 1

-- how many entries the record of a spot holds
abbrev pub held_at : List ℕ → Spot → ℕ
held_at bs s = holds (get_or bs s.at 0)

-- the place of the old line
abbrev pub old_at : List ℕ → Spot → ℕ
old_at bs s = s.at + 4 + held_at bs s + 64 * s.entry

abbrev pub is_inside : List ℕ → Spot → Bool
is_inside bs s = leb (old_at bs s + 64) (length bs)

-- the entry itself, and as the programs hold it
abbrev pub entry_on : List ℕ → Spot → Logged
entry_on bs s = entry_in (held_at bs s) (drop (suc s.at) bs) s.entry

abbrev pub mark_on : List ℕ → Spot → Mark
mark_on bs s = mark_at (old_at bs s) (entry_on bs s)

-- ---- one behind the other

-- where the log begins: behind the head, n lines and m regions
abbrev pub log_start : ℕ → ℕ → ℕ
log_start n m = 4 + 65 * n + 17 * m

-- the first entry of the record at a place
abbrev pub spot_at : ℕ → Spot
spot_at at = record { at = at; entry = 0 }

-- the first entry of a log
abbrev pub first_spot : Persistent → Spot
first_spot p = spot_at (log_start (length p.medium) (length p.regions))

-- the next entry of the record, or the first one of the record behind it
unfoldable pub next_spot : List ℕ → Spot → Spot
next_spot bs s = cond (ltb (s.entry + 1) (held_at bs s)) (record { at = s.at; entry = s.entry + 1 }) (spot_at (s.at + 4 + 65 * held_at bs s))

-- n spots from s on
unfoldable pub spots_from : ℕ → List ℕ → Spot → List Spot
spots_from zero bs s = []
spots_from (suc n) bs s = s ∷ spots_from n bs (next_spot bs s)
