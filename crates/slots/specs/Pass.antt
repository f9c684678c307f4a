-- Request 4, one pass over the slots: "one walk over the region's slots shall give a write both its slot, or that none is free, and every new count, and the
-- walk's contract tells both."
use Rattle.std.specs.Prelude.{ℕ, ◌≡◌, List, map, None, Option, Some}
use Rattle.rules.specs.Slots.{counted_slot, slot_for}
use Rattle.rules.specs.declared.Slot.{Slot}

-- what a pass over the slots ss gives a write of line l, where ls are the region's last four different lines, l the newest: on every input, also where the
-- write is then refused, the slot found and the slots with their counts
pub record OnePass (l : ℕ) (ls : List ℕ) (ss : List Slot) (found : Option ℕ) (counted : List Slot) : Type 0 where
  pub slot : found ≡ slot_for l ss
  pub counts : counted ≡ map (counted_slot ls) ss

-- the first of two that is found
abbrev pub or_else : Option ℕ → Option ℕ → Option ℕ
or_else (Some k) f = Some k
or_else None f = f
