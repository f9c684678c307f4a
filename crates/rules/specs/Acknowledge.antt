-- "Log acknowledgement" and "Data acknowledgement", before what becomes done or commits.
use Rattle.std.specs.Prelude.{ℕ, Bool, ◌&&◌, cond, false, true, List, map, eqb, get_or, set}
use Rattle.rules.specs.Flight.{flown}
use Rattle.rules.specs.Lists.{place}
use Rattle.rules.specs.Slots.{carries}
use Rattle.rules.specs.Tables.{is_key, line_of, no_region, no_slot, thread_at, thread_of, with_lock, with_log, with_med, with_persistent, with_regions, with_slots, with_tables, with_thread}
use Rattle.rules.specs.declared.Board.{Board}
use Rattle.rules.specs.declared.Entry.{Entry}
use Rattle.rules.specs.declared.Region.{Region}
use Rattle.rules.specs.declared.Slot.{Slot}
use Rattle.rules.specs.declared.Tables.{Tables}
use Rattle.rules.specs.declared.Thread.{Thread}
use Rattle.undo.specs.Table.{any}

-- "An earlier region's flight on that line is dropped and its slot emptied: the new log entry holds the same data"
abbrev pub dropped_slot : ℕ → Slot → Slot
dropped_slot l s = cond (carries l s) no_slot s

unfoldable pub dropped : ℕ → ℕ → Region → Region
dropped k l r = cond (is_key k r) r (with_slots (map (dropped_slot l) r.slots) r)

-- "unlocks the line and makes its log entry persistent": the entry of the line's owner k
abbrev pub is_entry : ℕ → ℕ → Entry → Bool
is_entry k l e = eqb e.key k && eqb e.line l

unfoldable pub kept_entry : ℕ → ℕ → Entry → Entry
kept_entry k l e = cond (is_entry k l e) (with_persistent true e) e

unfoldable pub kept : ℕ → ℕ → Thread → Thread
kept k l th = with_log (map (kept_entry k l) th.log) th

unfoldable pub unlocked : ℕ → ℕ → Tables → Tables
unlocked k l ts =
    with_lock l false
    (with_thread (thread_of k) (kept k l (thread_at (thread_of k) ts)) (with_regions (map (dropped k l) ts.regions) ts))

unfoldable pub log_ack : ℕ → Board → Board
log_ack l b = flown (get_or b.tables.owner l 0) (with_tables (unlocked (get_or b.tables.owner l 0) l b.tables) b)

-- the region whose slot is in flight with line l
abbrev pub flight_place : ℕ → List Region → ℕ
flight_place l rs = place (λ r. any (carries l) r.slots) rs

unfoldable pub landed : ℕ → Region → Region
landed l r = with_slots (set r.slots (place (carries l) r.slots) no_slot) r

-- "puts the carried line in the medium and empties the slot"
unfoldable pub data_ack : ℕ → Board → Board
data_ack l b =
    with_med (set b.med l (line_of l b.car))
    (with_tables
    (with_regions
    (set b.tables.regions (flight_place l b.tables.regions)
    (landed l (get_or b.tables.regions (flight_place l b.tables.regions) no_region)))
    b.tables) b)
