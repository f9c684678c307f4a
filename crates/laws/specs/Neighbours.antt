-- Request 2, four different neighbours: "A slot's count is the number of different other lines the region has written since its last write of this line, up to
-- 4." By the accepted writes of the list alone.
use Rattle.std.specs.Prelude.{min, ℕ, ◌≡◌, cond, false, true, List, [], ◌∷◌, eqb, length}
use Rattle.laws.specs.Laws.{Always, region_is, slot_is}
use Rattle.rules.specs.Claim.{board_after}
use Rattle.rules.specs.History.{Change, accepted_in, lines_last, lines_written, writes_in}
use Rattle.rules.specs.Lists.{count, different, place}
use Rattle.rules.specs.Measures.{ripe_count}
use Rattle.rules.specs.Slots.{is_empty}
use Rattle.rules.specs.Tables.{Memory}
use Rattle.rules.specs.declared.SlotState.TheVariants.{InFlight, Waiting}
use Rattle.undo.specs.Table.{is_in}

-- of lines that stand newest first, those written since the last write of line l
abbrev pub since : ℕ → List ℕ → List ℕ
since l [] = []
since l (x ∷ xs) = cond (eqb x l) [] (x ∷ since l xs)

-- "the number of different other lines the region has written since its last write of this line, up to 4"
abbrev pub count_in : ℕ → ℕ → List Change → ℕ
count_in k l ws = min (length (different (since l (lines_written k ws)))) ripe_count

-- the same of slot j of the region at place i
abbrev pub count_of : ℕ → ℕ → Memory → List (List ℕ) → ℕ
count_of i j m rs = count_in (region_is i (board_after m rs)).key (slot_is i j (board_after m rs)).line (writes_in (accepted_in m rs))

pub record Counting (m : Memory) (rs : List (List ℕ)) : Type 0 where
  pub waits : (i j c : ℕ) → (slot_is i j (board_after m rs)).state ≡ Waiting c → c ≡ count_of i j m rs
  -- a line of a region that has not ended flies after four different others only
  pub flew : (i j : ℕ) → (region_is i (board_after m rs)).ended ≡ false → (slot_is i j (board_after m rs)).state ≡ InFlight → count_of i j m rs ≡ ripe_count
  -- a slot is of a line that its region has written
  pub wrote : (i j : ℕ) → is_empty (slot_is i j (board_after m rs)).state ≡ false
      → is_in (slot_is i j (board_after m rs)).line (lines_written (region_is i (board_after m rs)).key (writes_in (accepted_in m rs))) ≡ true

pub record FourNeighbours : Type 0 where
  pub always : Always Counting
  -- the different lines of a region, of whatever writes: each that it wrote once, and no other
  pub once : (k l : ℕ) (ws : List Change) → count (eqb l) (lines_last k ws) ≡ cond (is_in l (lines_written k ws)) 1 0
  -- last written first: before a line stand those written since
  pub order : (k l : ℕ) (ws : List Change) → place (eqb l) (lines_last k ws) ≡ length (different (since l (lines_written k ws)))
