-- Request 4, one pass over the slots: "one walk over the region's slots shall give a write both its slot, or that none is free, and every new count .. No answer
-- and no table changes." What the pass gives, on any slots; and for every list of events the answer to a write behind it, and the slots that it leaves.
use Rattle.std.specs.Prelude.{◌<◌, ℕ, ◌≡◌, ◌≢◌, Bool, cond, false, List, map, get_or, None, Option, Some, Ok}
use Rattle.laws.specs.Laws.{Always, slot_is}
use Rattle.rules.specs.Claim.{board_after}
use Rattle.rules.specs.Lists.{place}
use Rattle.rules.specs.Record.{read_record}
use Rattle.rules.specs.Slots.{counted_slot, flown_slot, is_empty, names, renewed, slot_for}
use Rattle.rules.specs.Step.{step}
use Rattle.rules.specs.Tables.{current, no_slot, region_at, with_line, with_state}
use Rattle.rules.specs.declared.Board.{Board}
use Rattle.rules.specs.declared.Event.TheVariants.{Write}
use Rattle.rules.specs.declared.Slot.{Slot}
use Rattle.rules.specs.declared.SlotState.TheVariants.{Waiting}
use Rattle.undo.specs.Table.{any}

-- ---- the slot, by two searches: one for the line, and if it has none, one for the first that is empty

abbrev pub is_of_line : ℕ → Slot → Bool
is_of_line l s = names l s.state s.line

abbrev pub is_free : Slot → Bool
is_free s = is_empty s.state

abbrev pub by_two : ℕ → List Slot → Option ℕ
by_two l ss = cond (any (is_of_line l) ss) (Some (place (is_of_line l) ss)) (cond (any is_free ss) (Some (place is_free ss)) None)

-- ---- what the pass over the slots of region k gives a write of line l

abbrev pub slots_of : ℕ → Board → List Slot
slots_of k b = (region_at k b.tables.regions).slots

abbrev pub slot_given : ℕ → ℕ → Board → Option ℕ
slot_given k l b = slot_for l (slots_of k b)

abbrev pub counts_given : ℕ → ℕ → Board → List Slot
counts_given k l b = map (counted_slot (renewed l (region_at k b.tables.regions).recent)) (slots_of k b)

-- slot i has the count that the pass gave it, and flies if it can: its region is open
abbrev pub CountedAt : ℕ → ℕ → ℕ → Board → Board → Type 0
CountedAt k l i b b' = get_or (slots_of k b') i no_slot ≡ flown_slot b'.tables.lock false (get_or (counts_given k l b) i no_slot)

-- the write of line l by region k is answered with n, and leaves the board b'
pub record ByPass (k l n : ℕ) (b b' : Board) : Type 0 where
  -- 20 comes where the pass finds no slot, and there a write is refused, by 20 or a test before it
  pub none : n ≡ 20 → slot_given k l b ≡ None
  pub full : slot_given k l b ≡ None → (n ≢ 0) × (n ≢ 21)
  -- after an accepted write the slot found waits for the line with count 0
  pub found : n ≡ 0 → (j : ℕ) → slot_given k l b ≡ Some j → get_or (slots_of k b') j no_slot ≡ with_state (Waiting 0) (with_line l no_slot)
  -- those before it have their new counts, and so have those behind it
  pub before : n ≡ 0 → (i j : ℕ) → slot_given k l b ≡ Some j → i < j → CountedAt k l i b b'
  pub behind : n ≡ 0 → (i j : ℕ) → slot_given k l b ≡ Some j → j < i → CountedAt k l i b b'

pub record PassTells : Type 0 where
  pub slot : (l : ℕ) (ss : List Slot) → slot_for l ss ≡ by_two l ss
  pub always : Always (λ m rs. (r : List ℕ) (t l w mask v : ℕ) → read_record r ≡ Ok (Write t l w mask v)
      → ByPass (current t (board_after m rs).tables) l (step (board_after m rs) r).answer.refusal (board_after m rs) (step (board_after m rs) r).board)
  -- the line's slot is one: of a region's slots that are in use no two are of the same line
  pub one : Always (λ m rs. (i p q : ℕ) → is_free (slot_is i p (board_after m rs)) ≡ false → is_free (slot_is i q (board_after m rs)) ≡ false
      → (slot_is i p (board_after m rs)).line ≡ (slot_is i q (board_after m rs)).line → p ≡ q)
