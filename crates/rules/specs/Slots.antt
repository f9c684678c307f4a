-- The slots of a region: "each slot is empty, waiting with its count, or in flight".
use Rattle.std.specs.Prelude.{suc, ℕ, Bool, ◌&&◌, ◌||◌, cond, false, not, true, List, [], ◌∷◌, map, eqb, get_or, set, take, None, Option, Some}
use Rattle.rules.specs.Lists.{place}
use Rattle.rules.specs.Measures.{ripe_count}
use Rattle.rules.specs.Tables.{line_of, no_slot, with_line, with_state}
use Rattle.rules.specs.declared.Region.{Region}
use Rattle.rules.specs.declared.Slot.{Slot}
use Rattle.rules.specs.declared.SlotState.{SlotState}
use Rattle.rules.specs.declared.SlotState.TheVariants.{Empty, InFlight, Waiting}
use Rattle.undo.specs.Table.{any}

-- a slot that is empty names no line
abbrev pub names : ℕ → SlotState → ℕ → Bool
names l Empty k = false
names l (Waiting c) k = eqb k l
names l InFlight k = eqb k l

abbrev pub is_empty : SlotState → Bool
is_empty Empty = true
is_empty (Waiting c) = false
is_empty InFlight = false

abbrev pub is_flight : SlotState → Bool
is_flight Empty = false
is_flight (Waiting c) = false
is_flight InFlight = true

-- a slot in flight with the line l
abbrev pub carries : ℕ → Slot → Bool
carries l s = is_flight s.state && eqb s.line l

-- a region that has a slot
abbrev pub has_slot : Region → Bool
has_slot r = any (λ s. not (is_empty s.state)) r.slots

-- ---- "The line gets a slot if none of the region's slots names it"

-- the first empty slot seen, if there was none before
abbrev pub or_at : Option ℕ → Bool → ℕ → Option ℕ
or_at (Some k) e i = Some k
or_at None e i = cond e (Some i) None

-- the slot that names the line, else the first empty one, from slot i on, where `free` is the first empty one before it
unfoldable pub slot_from : ℕ → Option ℕ → ℕ → List Slot → Option ℕ
slot_from l free i [] = free
slot_from l free i (s ∷ ss) = cond (names l s.state s.line) (Some i) (slot_from l (or_at free (is_empty s.state) i) (suc i) ss)

abbrev pub slot_for : ℕ → List Slot → Option ℕ
slot_for l ss = slot_from l None 0 ss

abbrev pub is_full : Option ℕ → Bool
is_full (Some k) = false
is_full None = true

-- ---- request 2: "A slot's count is the number of different other lines the region has written since its last write of this line, up to 4. This replaces the
-- counting in document 01."

-- lines without the first of them that is l
unfoldable pub without_line : ℕ → List ℕ → List ℕ
without_line l [] = []
without_line l (x ∷ xs) = cond (eqb x l) xs (x ∷ without_line l xs)

-- the last four different lines of a region, the newest first, after a write of line l, where they were ls before it: l is the newest, and its former place,
-- or the oldest line, goes. Until there are four, the places behind them hold 0
unfoldable pub renewed : ℕ → List ℕ → List ℕ
renewed l ls = take ripe_count (l ∷ without_line l ls)

-- the other lines written since stand before the line itself; four at least, if it is not among the last four
abbrev pub counted : List ℕ → ℕ → SlotState → SlotState
counted ls l Empty = Empty
counted ls l (Waiting c) = Waiting (place (eqb l) ls)
counted ls l InFlight = InFlight

abbrev pub counted_slot : List ℕ → Slot → Slot
counted_slot ls s = with_state (counted ls s.line s.state) s

-- "that slot waits with count 0, and if it was in flight the flight is taken back"
abbrev pub written_at : List ℕ → ℕ → Option ℕ → List Slot → List Slot
written_at ls l (Some k) ss = set (map (counted_slot ls) ss) k (with_state (Waiting 0) (with_line l no_slot))
written_at ls l None ss = ss

-- the slots after a write of line l, where ls are the region's last four different lines, l the newest
unfoldable pub written : List ℕ → ℕ → List Slot → List Slot
written ls l ss = written_at ls l (slot_for l ss) ss

-- ---- "A waiting slot flies when its line is unlocked and its count is 4 or its region has ended"

abbrev pub is_ripe : Bool → SlotState → Bool
is_ripe ended Empty = false
is_ripe ended (Waiting c) = eqb c ripe_count || ended
is_ripe ended InFlight = false

abbrev pub flies : List Bool → Bool → Slot → Bool
flies lock ended s = is_ripe ended s.state && not (get_or lock s.line false)

abbrev pub flown_slot : List Bool → Bool → Slot → Slot
flown_slot lock ended s = cond (flies lock ended s) (with_state InFlight s) s

unfoldable pub flown_slots : List Bool → Bool → List Slot → List Slot
flown_slots lock ended ss = map (flown_slot lock ended) ss

-- "It carries the line as it then stands"
unfoldable pub carried : List Bool → Bool → List Slot → List (List ℕ) → List (List ℕ) → List (List ℕ)
carried lock ended [] cur car = car
carried lock ended (s ∷ ss) cur car =
    carried lock ended ss cur (cond (flies lock ended s) (set car s.line (line_of s.line cur)) car)
