-- Request 8, two channels: "A region's dependence entry lives in the channel given by the lowest bit of its number, 16 entries each. .. An entry carries its
-- channel and every lookup goes by it."
use Rattle.std.specs.Prelude.{◌%◌, ◌+◌, ◌<◌, ◌≤◌, ℕ, ◌≡◌, ◌≢◌, false, not, true, List, map, eqb}
use Rattle.laws.specs.Laws.{Accepts, Always, region_is, value_after}
use Rattle.laws.specs.Reserves.{uncommitted_in}
use Rattle.rules.specs.Claim.{board_after}
use Rattle.rules.specs.History.{accepted_in, depth_in, opened_in}
use Rattle.rules.specs.Image.{image}
use Rattle.rules.specs.Lists.{all, count, place}
use Rattle.rules.specs.Measures.{most_in_channel, most_regions}
use Rattle.rules.specs.Step.{step}
use Rattle.rules.specs.Tables.{Memory, free_place, in_channel, is_key, key_of, listed, number_of, place_of, with_channel, with_regions, with_tables}
use Rattle.rules.specs.declared.Board.{Board}
use Rattle.rules.specs.declared.Event.TheVariants.{Begin, Cut}
use Rattle.rules.specs.declared.Region.{Region}

-- a begin of thread t that opens a region, record r after the records rs: there is always a free place when a begin is accepted
pub record Entered (m : Memory) (rs : List (List ℕ)) (r : List ℕ) (t : ℕ) : Type 0 where
  pub free : free_place (board_after m rs).tables.regions < most_regions
  pub none : (region_is (free_place (board_after m rs).tables.regions) (board_after m rs)).key ≡ 0
  pub there : (region_is (free_place (board_after m rs).tables.regions) (step (board_after m rs) r).board).key ≡ key_of t (opened_in t (accepted_in m rs) + 1)

pub record InChannels (m : Memory) (rs : List (List ℕ)) : Type 0 where
  -- a region listed is in the channel of its number
  pub home : (i : ℕ) → (region_is i (board_after m rs)).key ≢ 0 → (region_is i (board_after m rs)).channel ≡ number_of (region_is i (board_after m rs)).key % 2
  pub few : (c : ℕ) → count (in_channel c) (board_after m rs).tables.regions ≤ most_in_channel
  -- so that a lookup by the channel finds what a search of both for the key alone would find
  pub found : (k : ℕ) → place_of k (board_after m rs).tables.regions ≡ place (is_key k) (board_after m rs).tables.regions
  pub entered : (r : List ℕ) (t : ℕ) → Accepts m rs r (Begin t) → depth_in t (accepted_in m rs) ≡ 0 → Entered m rs r t
  -- ".. of a cut the number of uncommitted regions": those of both channels
  pub both : (r : List ℕ) → Accepts m rs r Cut → value_after m rs r ≡ uncommitted_in m rs 0 + uncommitted_in m rs 1

pub record TwoChannels : Type 0 where
  pub always : Always InChannels
  -- "every lookup goes by it": on any list, what stands in another channel is not found
  pub missed : (k : ℕ) (rs : List Region) → all (λ r. not (eqb r.channel (number_of k % 2))) rs ≡ true → listed k rs ≡ false
  -- "The image and its refusals do not change": on any tables no byte of it is of a channel
  pub unsaved : (b : Board) (f : Region → ℕ) → image (with_tables (with_regions (map (λ r. with_channel (f r) r) b.tables.regions) b.tables) b) ≡ image b
