-- The tables seen as functions of region and line: what the simulation of the undo log looks at.
use Rattle.undo.specs.Machine as u
use Prim.Native.Nat.{ℕ}
use mathlib.Core.Bool.{Bool, ◌&&◌, cond, not}
use mathlib.Core.List.{List, [], ◌∷◌}
use lib.Dec.{eqb, leb}
use lib.ListN.{get_or}
use Rattle.rules.specs.History.{Account, opened_in}
use Rattle.rules.specs.Slots.{names}
use Rattle.rules.specs.Tables.{line_of, no_entry, number_of, region_at, thread_at, thread_of}
use Rattle.rules.specs.declared.Board.{Board}
use Rattle.rules.specs.declared.Entry.{Entry}
use Rattle.rules.specs.declared.Slot.{Slot}
use Rattle.rules.specs.declared.SlotState.{SlotState}
use Rattle.rules.specs.declared.SlotState.TheVariants.{Empty, InFlight, Waiting}
use Rattle.rules.specs.declared.Tables.{Tables}
use Rattle.undo.specs.Table.{any}

-- what region slots say of line l: the state of the slot that names it
unfoldable pub state_of : ℕ → List Slot → SlotState
state_of l [] = Empty
state_of l (s ∷ ss) = cond (names l s.state s.line) s.state (state_of l ss)

-- a slot's state as the undo log has it: the flight of line l carries the line that stands for it in `car`
abbrev pub carry_of : List (List ℕ) → ℕ → SlotState → u.Carry (List ℕ)
carry_of car l Empty = u.Clear
carry_of car l (Waiting c) = u.Waits
carry_of car l InFlight = u.Flies (line_of l car)

abbrev pub slot_view : Board → ℕ → ℕ → u.Carry (List ℕ)
slot_view b l k = carry_of b.car l (state_of l (region_at k b.tables.regions).slots)

-- region a depends on region d
abbrev pub dep_view : Tables → ℕ → ℕ → Bool
dep_view ts a d = not (eqb d 0) && any (eqb d) (region_at a ts.regions).deps

-- region k has been opened
abbrev pub is_opened : List Account → ℕ → Bool
is_opened es k = not (eqb (number_of k) 0) && leb (number_of k) (opened_in (thread_of k) es)

-- the region of the newest entry; 0 if there is none
abbrev pub newest : List (u.Entry (List ℕ)) → ℕ
newest [] = 0
newest (e ∷ c) = e.rid

-- entry i of thread t
abbrev pub entry_at : ℕ → ℕ → Tables → Entry
entry_at t i ts = get_or (thread_at t ts).log i no_entry
