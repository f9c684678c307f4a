-- Two channels: every entry is in that of its number, a lookup by it finds what a search would find, and a begin that is accepted has a free place.
use Rattle.undo.specs.Machine as u
use Rattle.undo.specs.History as v
use Prim.Native.Nat.{◌%◌, ◌+◌, ◌<◌, suc, zero, ℕ}
use mathlib.Core.Path.{◌∙◌, ◌≡◌, ap, refl}
use mathlib.Core.Bool.{Bool, false, not, true}
use mathlib.Core.List.{List, [], ◌∷◌, map}
use lib.Dec.{eqb}
use lib.ListN.{get_or}
use lib.Seq.{get_or-set_same}
use native.Mathlib.Omega.{arith}
use borrow.Author.Tests.{eq-eqb, eqb-false, eqb-true, not-false, not-true}
use Rattle.laws.proofs.Current.{value_is}
use Rattle.laws.proofs.Values.{cut_counts}
use Rattle.laws.specs.Channels.{Entered, InChannels, TwoChannels}
use Rattle.laws.specs.Laws.{Accepts}
use Rattle.laws.specs.Reserves.{lives}
use Rattle.laws.specs.Words.{opens_in}
use Rattle.rules.proofs.Lists.{count_room, place_lt, place_map, place_true}
use Rattle.rules.proofs.Places.{homes, place_placed, room_left}
use Rattle.rules.proofs.Sim.All.{every}
use Rattle.rules.proofs.Sim.State.{Sim, Simulated, by}
use Rattle.rules.proofs.Tests.{channel_room}
use Rattle.rules.specs.Begin.{begin, opened}
use Rattle.rules.specs.Claim.{board_after, is_byte, is_byte_memory}
use Rattle.rules.specs.History.{accepted_in, committed, depth_in}
use Rattle.rules.specs.Image.{image, saved, saved_log, saved_region, saved_regions, saved_thread}
use Rattle.rules.specs.Lists.{all, count, place, rising}
use Rattle.rules.specs.Refusal.{depth_of}
use Rattle.rules.specs.Step.{apply}
use Rattle.rules.specs.Tables.{Memory, free_place, is_held, is_key, is_placed, no_region, number_of, thread_at, with_channel, with_regions, with_tables}
use Rattle.rules.specs.declared.Board.{Board}
use Rattle.rules.specs.declared.Event.TheVariants.{Begin}
use Rattle.rules.specs.declared.Region.{Region}
use Rattle.undo.proofs.Laws.{and_true, test}
use Rattle.undo.specs.Table.{any, keep}

-- every number of a list is of channel 0 or of channel 1
kept_two : (p : ℕ → Bool) (xs : List ℕ) → count p xs ≡ count p (keep (lives 0) xs) + count p (keep (lives 1) xs)
unfolding count
kept_two p [] = refl
kept_two p (x ∷ xs) =
    let ih = kept_two p xs in
    test (lives 0 x)
    (λ e. rw (e, eqb-true (number_of x % 2) 0 e) (test (p x) (λ f. rw f (omega arith)) (λ f. rw f ih)))
    (λ e. let n = eqb-false (number_of x % 2) 0 e in
    let one : number_of x % 2 ≡ 1 = omega arith in
    rw one (test (p x) (λ f. rw f (omega arith)) (λ f. rw f ih)))

module _ (m : Memory) (rs : List (List ℕ)) {s : u.State (List ℕ)} {h : v.History (List ℕ)} (i : Sim (board_after m rs) (accepted_in m rs) s h) where
  abbrev b : Board
  b = board_after m rs

  abbrev regions : List Region
  regions = b.tables.regions

  entered : (r : List ℕ) (t : ℕ) → Accepts m rs r (Begin t) → depth_in t (accepted_in m rs) ≡ 0 → Entered m rs r t
  unfolding apply begin opened
  entered r t a d =
      let z = value_is b r (Begin t) a.is a.unrefused in
      let d' : eqb (depth_of t b.tables) 0 ≡ true = eq-eqb (depth_of t b.tables) 0 (i.told.depth t ∙ d) in
      let few : count is_held regions < 32 = room_left regions i.shape.regions ((thread_at t b.tables).last + 1) (channel_room b.tables t z.1 d') in
      let free : any (is_key 0) regions ≡ true
      = count_room is_held (is_key 0) regions (λ x e. not-false (eqb x.key 0) e) (rw i.shape.regions.count few) in
      record {
        free = rw (← i.shape.regions.count) (place_lt (is_key 0) regions free);
        none = eqb-true (get_or regions (free_place regions) no_region).key 0 (place_true (is_key 0) regions no_region free);
        there = ap (λ (x : Board). (get_or x.tables.regions (free_place regions) no_region).key) z.2
            ∙ rw (d', get_or-set_same regions (free_place regions) _ no_region (place_lt (is_key 0) regions free), i.told.last t);
      }

-- ---- lookups

missed : (k : ℕ) (rs : List Region) → all (λ r. not (eqb r.channel (number_of k % 2))) rs ≡ true → any (is_placed k) rs ≡ false
missed k [] e = refl
missed k (r ∷ rs) e =
    let z = and_true (not (eqb r.channel (number_of k % 2))) (all (λ x. not (eqb x.channel (number_of k % 2))) rs) e in
    rw (not-true (eqb r.channel (number_of k % 2)) z.0, missed k rs z.1) (test (is_key k r) (λ f. rw f) (λ f. rw f))

-- ---- the image

module _ (f : Region → ℕ) where
  abbrev moved : Region → Region
  moved r = with_channel (f r) r

  same_keys : (rs : List Region) → map (λ r. r.key) (map moved rs) ≡ map (λ r. r.key) rs
  same_keys [] = refl
  same_keys (r ∷ rs) = ap (λ ks. r.key ∷ ks) (same_keys rs)

  same_saved : (rs : List Region) (j : ℕ) → saved_region (get_or (map moved rs) j no_region) ≡ saved_region (get_or rs j no_region)
  unfolding saved_region
  same_saved [] j = refl
  same_saved (r ∷ rs) zero = refl
  same_saved (r ∷ rs) (suc j) = same_saved rs j

  each_saved : (rs : List Region) (ks : List ℕ)
      → map (λ k. saved_region (get_or (map moved rs) (place (is_key k) (map moved rs)) no_region)) ks ≡ map (λ k. saved_region (get_or rs (place (is_key k) rs) no_region)) ks
  each_saved rs [] = refl
  each_saved rs (k ∷ ks) =
      rw (place_map (is_key k) (is_key k) moved rs (λ r. refl), same_saved rs (place (is_key k) rs), each_saved rs ks)

  unsaved : (b : Board) → image (with_tables (with_regions (map moved b.tables.regions) b.tables) b) ≡ image b
  unfolding image saved saved_regions saved_log saved_thread
  unsaved b = rw (same_keys b.tables.regions, each_saved b.tables.regions (rising (map (λ r. r.key) b.tables.regions)))

pub two_channels : TwoChannels
two_channels =
    record {
      always = λ m rs bm br. go m rs bm br (every m rs bm).simulated;
      missed = λ k rs e. rw (missed k rs e) (test (eqb k 0) (λ z. rw z) (λ z. rw z));
      unsaved = λ b f. unsaved f b;
    }
  where
    go : (m : Memory) (rs : List (List ℕ)) → is_byte_memory m ≡ true → all (all is_byte) rs ≡ true → Simulated m (board_after m rs) (accepted_in m rs) → InChannels m rs
    go m rs bm br (by s h w i) =
        let hs = homes (board_after m rs).tables.regions i.shape.regions in
        record {
          home = λ j n. hs j;
          few = i.shape.regions.channels;
          found = λ k. place_placed k (board_after m rs).tables.regions hs;
          entered = entered m rs i;
          both = λ r a. cut_counts m rs bm br r a ∙ kept_two (λ k. not (committed m rs k)) (opens_in (accepted_in m rs));
        }
