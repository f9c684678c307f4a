-- Laws about the board, each for every starting memory and every list of event records of any content, or on any tables. Their proofs stand in proofs/.
use Rattle.std.specs.Prelude.{ℕ, ◌≡◌, ◌≢◌, ◌&&◌, ◌||◌, cond, false, not, true, List, eqb, get_or, Ok}
use Rattle.laws.specs.Words.{all_applied, opens_in, others_of, told_in}
use Rattle.rules.specs.Claim.{board_after, is_byte, is_byte_memory}
use Rattle.rules.specs.History.{accepted_in, committed, ends_in, writes_in}
use Rattle.rules.specs.Lists.{all, count}
use Rattle.rules.specs.Record.{read_record}
use Rattle.rules.specs.Refusal.{depth_of, is_of_thread}
use Rattle.rules.specs.Run.{run}
use Rattle.rules.specs.Slots.{has_slot}
use Rattle.rules.specs.Step.{fence, step}
use Rattle.rules.specs.Tables.{Memory, fresh, line_of, listed, no_region, no_slot, start_lines}
use Rattle.rules.specs.declared.Board.{Board}
use Rattle.rules.specs.declared.Event.{Event}
use Rattle.rules.specs.declared.Event.TheVariants.{Cut, Fence, Read}
use Rattle.rules.specs.declared.Region.{Region}
use Rattle.rules.specs.declared.Slot.{Slot}
use Rattle.rules.specs.declared.SlotState.TheVariants.{InFlight, Waiting}
use Rattle.rules.specs.declared.Tables.{Tables}
use Rattle.undo.specs.Table.{any, is_in}
use Rattle.rules.specs.Measures.{ripe_count}

-- of every list of records over every memory
abbrev pub Always : (Memory → List (List ℕ) → Type 0) → Type 0
Always P = (m : Memory) (rs : List (List ℕ)) → is_byte_memory m ≡ true → all (all is_byte) rs ≡ true → P m rs

-- the region at place i of the list, and its slot j
abbrev pub region_is : ℕ → Board → Region
region_is i b = get_or b.tables.regions i no_region

abbrev pub slot_is : ℕ → ℕ → Board → Slot
slot_is i j b = get_or (region_is i b).slots j no_slot

-- ---- between two events nothing is left over

pub record AtRest (b : Board) : Type 0 where
  -- "A waiting slot flies when its line is unlocked and its count is 4 or its region has ended": what still waits so has a locked line
  pub flown : (i j c : ℕ) → (slot_is i j b).state ≡ Waiting c → (eqb c ripe_count || (region_is i b).ended) ≡ true
      → get_or b.tables.lock (slot_is i j b).line false ≡ true
  -- "An ended region without slots leaves the modified list and is done"
  pub finished : (i : ℕ) → (region_is i b).ended ≡ true → has_slot (region_is i b) ≡ false → (region_is i b).done ≡ true
  -- "A done region without dependences commits", and then it is listed no more
  pub committed : (i : ℕ) → (region_is i b).key ≢ 0 → (region_is i b).done ≡ true → all (eqb 0) (region_is i b).deps ≡ false

abbrev pub NothingLeft : Type 0
NothingLeft = Always (λ m rs. AtRest (board_after m rs))

-- ---- "At most one flight per line exists"

abbrev pub FliesWith : ℕ → Slot → Type 0
FliesWith l s = (s.state ≡ InFlight) × (s.line ≡ l)

abbrev pub OneFlight : Type 0
OneFlight = Always (λ m rs. (l i j p q : ℕ) → FliesWith l (slot_is i p (board_after m rs)) → FliesWith l (slot_is j q (board_after m rs)) → (i ≡ j) × (p ≡ q))

-- ---- values, by the list

-- the answer to record r after a list of records is that of an accepted event e
pub record Accepts (m : Memory) (rs : List (List ℕ)) (r : List ℕ) (e : Event) : Type 0 where
  pub is : read_record r ≡ Ok e
  pub unrefused : (step (board_after m rs) r).answer.refusal ≡ 0

abbrev pub value_after : Memory → List (List ℕ) → List ℕ → ℕ
value_after m rs r = (step (board_after m rs) r).answer.value

-- "The value of a read is the word": of the starting memory with the accepted writes before it, in event order
abbrev pub ReadGives : Type 0
ReadGives = Always (λ m rs. (r : List ℕ) (t l w : ℕ) → Accepts m rs r (Read t l w)
    → value_after m rs r ≡ get_or (line_of l (all_applied (writes_in (accepted_in m rs)) (start_lines m))) w 0)

-- ".. of a cut the number of uncommitted regions": opened and not committed
abbrev pub CutCounts : Type 0
CutCounts = Always (λ m rs. (r : List ℕ) → Accepts m rs r Cut → value_after m rs r ≡ count (λ k. not (committed m rs k)) (opens_in (accepted_in m rs)))

-- "Fence gives 1 if the thread has no uncommitted region (also if it never began one), else 0"
-- request 3: "A fence inside an open region now gives 1 exactly when the thread has no uncommitted region other than the open one"
abbrev pub FenceTells : Type 0
FenceTells = Always (λ m rs. (r : List ℕ) (t : ℕ) → Accepts m rs r (Fence t)
    → value_after m rs r ≡ cond (all (committed m rs) (others_of t (accepted_in m rs))) 1 0)

-- at depth 0 a fence is document 01's, on any tables
abbrev pub FenceOutside : Type 0
FenceOutside = (t : ℕ) (ts : Tables) → depth_of t ts ≡ 0 → fence t ts ≡ cond (any (is_of_thread t) ts.regions) 0 1

-- ".. of every other event the number of regions committed in that step": over every list they add up to the number of committed regions, so that each
-- value is what its step adds
abbrev pub CommitsAddUp : Type 0
CommitsAddUp = Always (λ m rs. told_in rs (run (fresh m) rs).answers ≡ count (committed m rs) (opens_in (accepted_in m rs)))

-- "What is committed, the refusals and Steps give": those that commit in a step are the ended ones that leave the list of the uncommitted
abbrev pub CommittedEnded : Type 0
CommittedEnded = Always (λ m rs. (k : ℕ) → committed m rs k ≡ (is_in k (ends_in (accepted_in m rs)) && not (listed k (board_after m rs).tables.regions)))
