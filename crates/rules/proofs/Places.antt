-- The list of regions: a region stored, opened, changed or committed.
use Prim.Native.Nat.{◌+◌, ◌<◌, ◌≤◌, suc, zero, ℕ}
use mathlib.Core.Path.{◌∙◌, ◌≡◌, ap, refl, sym}
use mathlib.Core.Logic.{◌≢◌}
use mathlib.Core.Bool.{◌&&◌, ◌||◌, cond, false, false≢true, not, true}
use mathlib.Core.List.{List, [], ◌∷◌, map}
use lib.Dec.{eqb, ltb}
use lib.ListN.{get_or-eq_default, get_or, length, length-map, length-set, replicate, set}
use native.Mathlib.Omega.{arith}
use borrow.Author.Tests.{eqb-false, eqb-true, ltb-false, ltb-true, ne_eqb, not-true}
use lib.Seq.{get_or-set_other, get_or-set_same}
use Rattle.rules.proofs.Sim.State.{GoodRegion, GoodRegions, SixteenEach}
use Rattle.rules.specs.Commit.{after_commit}
use Rattle.rules.specs.Lists.{count, place}
use Rattle.rules.specs.Measures.{most_in_channel}
use Rattle.rules.specs.Tables.{channel_of, free_place, in_channel, is_held, is_key, is_placed, listed, no_region, number_of, place_of, region_at}
use Rattle.rules.specs.declared.Region.{Region}
use Rattle.undo.proofs.Laws.{and_true, flip, is_same, never, test}
use Rattle.undo.specs.Table.{any}
use Rattle.rules.proofs.Lists.{any_map, any_none, any_place, any_put, any_set, count_fewer, count_map, count_mono, count_put, count_set, each_set, get_or_map, get_or_set, place_lt, place_map, place_none, place_put, place_set, place_true}

-- ---- the list of regions

-- a free place holds `no_region`
abbrev pub Free : List Region → Type 0
Free rs = (i : ℕ) → (get_or rs i no_region).key ≡ 0 → get_or rs i no_region ≡ no_region

abbrev pub Good : List Region → Type 0
Good rs = (i : ℕ) → GoodRegion (get_or rs i no_region)

abbrev pub Unique : List Region → Type 0
Unique rs = (i : ℕ) → (get_or rs i no_region).key ≢ 0 → place_of (get_or rs i no_region).key rs ≡ i

abbrev pub DepsOnce : List Region → Type 0
DepsOnce rs = (i a b : ℕ) → get_or (get_or rs i no_region).deps a 0 ≢ 0
    → get_or (get_or rs i no_region).deps a 0 ≡ get_or (get_or rs i no_region).deps b 0 → a ≡ b

-- the same of one region
abbrev pub Once : List ℕ → Type 0
Once ds = (a b : ℕ) → get_or ds a 0 ≢ 0 → get_or ds a 0 ≡ get_or ds b 0 → a ≡ b

pub good_free : (rs : List Region) → Good rs → Free rs
good_free rs g i e = (g i).free e

pub listed_any : (k : ℕ) (rs : List Region) → listed k rs ≡ true → any (is_placed k) rs ≡ true
listed_any k rs e = (and_true (not (eqb k 0)) (any (is_placed k) rs) e).1

pub listed_key : (k : ℕ) (rs : List Region) → listed k rs ≡ true → eqb k 0 ≡ false
listed_key k rs e = not-true (eqb k 0) (and_true (not (eqb k 0)) (any (is_placed k) rs) e).0

pub unlisted_any : (k : ℕ) (rs : List Region) → eqb k 0 ≡ false → listed k rs ≡ false → any (is_placed k) rs ≡ false
unlisted_any k rs n e = rw n at e

pub place_listed : (k : ℕ) (rs : List Region) → listed k rs ≡ true → place_of k rs < length rs
place_listed k rs e = place_lt (is_placed k) rs (listed_any k rs e)

-- the entry of region k has its key, and stands in the channel of its number
keyed : (k : ℕ) (r : Region) → is_placed k r ≡ true → is_key k r ≡ true
keyed k r e = (and_true (is_key k r) _ e).0

pub key_of : (k : ℕ) (r : Region) → is_placed k r ≡ true → r.key ≡ k
key_of k r e = eqb-true r.key k (keyed k r e)

channel_of_lem : (k : ℕ) (r : Region) → is_placed k r ≡ true → r.channel ≡ channel_of (number_of k)
channel_of_lem k r e = eqb-true r.channel (channel_of (number_of k)) (and_true (is_key k r) _ e).1

pub entry_at : (k : ℕ) (rs : List Region) → listed k rs ≡ true → is_placed k (region_at k rs) ≡ true
entry_at k rs e = place_true (is_placed k) rs no_region (listed_any k rs e)

pub key_at : (k : ℕ) (rs : List Region) → listed k rs ≡ true → (region_at k rs).key ≡ k
key_at k rs e = key_of k (region_at k rs) (entry_at k rs e)

-- a region that is not listed is looked up as none
pub region_none : (k : ℕ) (rs : List Region) → Free rs → listed k rs ≡ false → region_at k rs ≡ no_region
region_none k rs f e =
    test (any (is_placed k) rs)
    (λ a. test (eqb k 0)
    (λ z. f (place_of k rs) (key_of k (region_at k rs) (place_true (is_placed k) rs no_region a) ∙ eqb-true k 0 z))
    (λ z. never a (unlisted_any k rs z e)))
    (λ a. get_or-eq_default rs no_region (rw (place_none (is_placed k) rs a) (omega arith)))

-- a region's own key, wherever it is looked up from
pub listed_at : (i : ℕ) (rs : List Region) → Unique rs → (get_or rs i no_region).key ≢ 0 → i < length rs → listed (get_or rs i no_region).key rs ≡ true
listed_at i rs un n h = rw (ne_eqb (get_or rs i no_region).key 0 n) (any_place (is_placed (get_or rs i no_region).key) rs (rw (un i n) h))

pub held_lt : (i : ℕ) (rs : List Region) → (get_or rs i no_region).key ≢ 0 → i < length rs
held_lt i rs n =
    test (ltb i (length rs))
    (λ e. ltb-true i (length rs) e)
    (λ e. let z : length rs ≤ i = ltb-false i (length rs) e in absurd (n (ap {A = Region} (λ r. r.key) (get_or-eq_default rs no_region z))))

-- the region at an index is the region of its key
pub region_at_lem : (i : ℕ) (rs : List Region) → Unique rs → (get_or rs i no_region).key ≢ 0 → region_at (get_or rs i no_region).key rs ≡ get_or rs i no_region
region_at_lem i rs un n = rw (un i n)

-- and its channel is that of its number
home_at : (i : ℕ) (rs : List Region) → Unique rs → (get_or rs i no_region).key ≢ 0 → (get_or rs i no_region).channel ≡ channel_of (number_of (get_or rs i no_region).key)
home_at i rs un n =
    let k = (get_or rs i no_region).key in
    let e = channel_of_lem k (region_at k rs) (entry_at k rs (listed_at i rs un n (held_lt i rs n))) in
    ap (λ r. r.channel) (sym (region_at_lem i rs un n)) ∙ e

-- every place has the channel of its number, so that the key alone tells
abbrev pub Homes : List Region → Type 0
Homes rs = (i : ℕ) → (get_or rs i no_region).channel ≡ channel_of (number_of (get_or rs i no_region).key)

pub homes : (rs : List Region) → GoodRegions rs → Homes rs
homes rs g i =
    test (eqb (get_or rs i no_region).key 0)
    (λ e. rw ((g.good i).free (eqb-true (get_or rs i no_region).key 0 e)))
    (λ e. home_at i rs g.unique (eqb-false (get_or rs i no_region).key 0 e))

is_placed_lem : (k : ℕ) (r : Region) → r.channel ≡ channel_of (number_of r.key) → is_placed k r ≡ is_key k r
is_placed_lem k r h = test (eqb r.key k) (λ e. rw (e, h, eqb-true r.key k e, is_same (channel_of (number_of k)))) (λ e. rw e)

pub placed_at : (k i : ℕ) (rs : List Region) → Unique rs → eqb k 0 ≡ false → is_placed k (get_or rs i no_region) ≡ is_key k (get_or rs i no_region)
placed_at k i rs un n =
    test (is_key k (get_or rs i no_region))
    (λ e. is_placed_lem k (get_or rs i no_region) (home_at i rs un (λ z. eqb-false k 0 n (sym (eqb-true (get_or rs i no_region).key k e) ∙ z))))
    (λ e. rw e)

pub any_placed : (k : ℕ) (rs : List Region) → Homes rs → any (is_placed k) rs ≡ any (is_key k) rs
any_placed k [] h = refl
any_placed k (r ∷ rs) h = rw (is_placed_lem k r (h 0), any_placed k rs (λ i. h (suc i)))

pub place_placed : (k : ℕ) (rs : List Region) → Homes rs → place_of k rs ≡ place (is_key k) rs
unfolding place
place_placed k [] h = refl
place_placed k (r ∷ rs) h = rw (is_placed_lem k r (h 0), place_placed k rs (λ i. h (suc i)))

-- ---- region k is stored anew

module _ (k : ℕ) (rs : List Region) (r : Region) (in' : listed k rs ≡ true) (e : is_placed k r ≡ true) where
  as_before : (r.key ≡ (region_at k rs).key) × (r.channel ≡ (region_at k rs).channel)
  as_before =
      (key_of k r e ∙ sym (key_at k rs in'), channel_of_lem k r e ∙ sym (channel_of_lem k (region_at k rs) (entry_at k rs in')))

  same_key : (j : ℕ) → is_placed j r ≡ is_placed j (get_or rs (place_of k rs) no_region)
  same_key j = rw (as_before.0, as_before.1)

  pub place_stored : (j : ℕ) → place_of j (set rs (place_of k rs) r) ≡ place_of j rs
  place_stored j = place_set (is_placed j) rs (place_of k rs) r no_region (same_key j)

  pub listed_stored : (j : ℕ) → listed j (set rs (place_of k rs) r) ≡ listed j rs
  listed_stored j = rw (any_set (is_placed j) rs (place_of k rs) r no_region (same_key j))

  -- another region is at another place
  pub place_apart : (j : ℕ) → eqb j k ≡ false → place_of j rs ≢ place_of k rs
  place_apart j n q =
      let h : place_of k rs < length rs = place_listed k rs in' in
      let a : any (is_placed j) rs ≡ true = any_place (is_placed j) rs (rw q h) in
      let y : (get_or rs (place_of j rs) no_region).key ≡ j = key_of j (region_at j rs) (place_true (is_placed j) rs no_region a) in
      let z : k ≡ j = rw (q, key_at k rs in') at y in
      never (rw z (is_same j)) n

  pub region_stored : (j : ℕ) → region_at j (set rs (place_of k rs) r) ≡ cond (eqb j k) r (region_at j rs)
  region_stored j =
      rw (place_stored j)
      (test (eqb j k)
      (λ d. rw (d, eqb-true j k d) (get_or-set_same rs (place_of k rs) r no_region (place_listed k rs in')))
      (λ d. rw d (get_or-set_other rs (place_of k rs) (place_of j rs) r no_region (place_apart j d))))

  pub key_stored : (i : ℕ) → (get_or (set rs (place_of k rs) r) i no_region).key ≡ (get_or rs i no_region).key
  key_stored i =
      rw (get_or_set rs (place_of k rs) i r no_region (place_listed k rs in'))
      (test (eqb i (place_of k rs)) (λ d. rw (d, eqb-true i (place_of k rs) d) as_before.0) (λ d. rw d))

  pub regions_stored : GoodRegion r → Once r.deps → GoodRegions rs → GoodRegions (set rs (place_of k rs) r)
  regions_stored a o g =
      record {
        count = length-set rs (place_of k rs) r ∙ g.count;
        good = each_set GoodRegion rs (place_of k rs) r no_region a g.good;
        unique = λ i n. rw (key_stored i, place_stored (get_or rs i no_region).key) (g.unique i (rw (key_stored i) at n));
        channels = λ c. rw (count_set (in_channel c) rs (place_of k rs) r no_region (rw (as_before.0, as_before.1))) (g.channels c);
        deps_once = each_set (λ x. Once x.deps) rs (place_of k rs) r no_region o g.deps_once;
      }

-- ---- region k, which is new, is stored at the first free place

module _ (k : ℕ) (rs : List Region) (r : Region) (new : any (is_placed k) rs ≡ false) (nz : eqb k 0 ≡ false) (room : any (is_key 0) rs ≡ true)
    (e : is_placed k r ≡ true) where
  key : r.key ≡ k
  key = key_of k r e

  pub free_place_lem : free_place rs < length rs
  free_place_lem = place_lt (is_key 0) rs room

  free_key : (get_or rs (free_place rs) no_region).key ≡ 0
  free_key = eqb-true (get_or rs (free_place rs) no_region).key 0 (place_true (is_key 0) rs no_region room)

  pub listed_new : (j : ℕ) → listed j (set rs (free_place rs) r) ≡ (eqb j k || listed j rs)
  listed_new j =
      test (eqb j k)
      (λ d. rw (d, eqb-true j k d, nz) (any_put (is_placed k) rs (free_place rs) r free_place_lem e))
      (λ d. test (eqb j 0)
      (λ z. rw (d, z))
      (λ z. rw (d, z) (any_set (is_placed j) rs (free_place rs) r no_region (rw (key, free_key, flip j k d, flip j 0 z)))))

  new_place : place_of k (set rs (free_place rs) r) ≡ free_place rs
  new_place = place_put (is_placed k) rs (free_place rs) r no_region free_place_lem e new

  old_place : (j : ℕ) → eqb j k ≡ false → eqb j 0 ≡ false → place_of j (set rs (free_place rs) r) ≡ place_of j rs
  old_place j d z = place_set (is_placed j) rs (free_place rs) r no_region (rw (key, free_key, flip j k d, flip j 0 z))

  good_new : GoodRegion r → Good rs → Good (set rs (free_place rs) r)
  good_new a g = each_set GoodRegion rs (free_place rs) r no_region a g

  pub region_new : GoodRegion r → Good rs → (j : ℕ) → region_at j (set rs (free_place rs) r) ≡ cond (eqb j k) r (region_at j rs)
  region_new a g j =
      test (eqb j k)
      (λ d. rw (d, eqb-true j k d, new_place) (get_or-set_same rs (free_place rs) r no_region free_place_lem))
      (λ d. test (eqb j 0)
      (λ z. rw (d, eqb-true j 0 z)
      (region_none 0 (set rs (free_place rs) r) (good_free (set rs (free_place rs) r) (good_new a g)) refl
      ∙ sym (region_none 0 rs (good_free rs g) refl)))
      (λ z. rw (d, old_place j d z)
      (get_or-set_other rs (free_place rs) (place_of j rs) r no_region
      (λ q. let y : (get_or rs (place_of j rs) no_region).key ≡ j = key_of j (region_at j rs) (place_true (is_placed j) rs no_region (any_place (is_placed j) rs (rw q free_place_lem))) in
      let w : 0 ≡ j = rw (q, free_key) at y in
      never (rw (← w) refl) z))))

  unique_new : Unique rs → Unique (set rs (free_place rs) r)
  unique_new un i n =
      test (eqb i (free_place rs))
      (λ d. let q : (get_or (set rs (free_place rs) r) i no_region).key ≡ k = rw (get_or_set rs (free_place rs) i r no_region free_place_lem, d) key in
      rw (q, new_place) (sym (eqb-true i (free_place rs) d)))
      (λ d. let q : get_or (set rs (free_place rs) r) i no_region ≡ get_or rs i no_region = rw (get_or_set rs (free_place rs) i r no_region free_place_lem, d) in
      let m : (get_or rs i no_region).key ≢ 0 = rw q at n in
      let y : is_placed k (get_or rs i no_region) ≡ false = any_none (is_placed k) rs i no_region new (held_lt i rs m) in
      let x : eqb (get_or rs i no_region).key k ≡ false = sym (is_placed_lem k (get_or rs i no_region) (home_at i rs un m)) ∙ y in
      rw (q, old_place (get_or rs i no_region).key x (ne_eqb (get_or rs i no_region).key 0 m)) (un i m))

  -- the channel of the new entry has room for it
  channels_new : count (in_channel r.channel) rs < most_in_channel → SixteenEach rs → SixteenEach (set rs (free_place rs) r)
  channels_new l h c =
      test (eqb r.channel c)
      (λ d. rw (count_put (in_channel c) rs (free_place rs) r no_region free_place_lem (rw (key, nz, d)) (rw free_key)) (rw (eqb-true r.channel c d) at l))
      (λ d. rw (count_set (in_channel c) rs (free_place rs) r no_region (rw (key, nz, d, free_key))) (h c))

  pub regions_new : GoodRegion r → Once r.deps → count (in_channel r.channel) rs < most_in_channel → GoodRegions rs → GoodRegions (set rs (free_place rs) r)
  regions_new a o l g =
      record {
        count = length-set rs (free_place rs) r ∙ g.count;
        good = good_new a g.good;
        unique = unique_new g.unique;
        channels = channels_new l g.channels;
        deps_once = each_set (λ x. Once x.deps) rs (free_place rs) r no_region o g.deps_once;
      }

-- ---- each region is changed and keeps its key and its channel

module _ (f : Region → Region) (rs : List Region) (f0 : f no_region ≡ no_region)
    (fk : (r : Region) → ((f r).key ≡ r.key) × ((f r).channel ≡ r.channel)) where
  pub place_mapped : (j : ℕ) → place_of j (map f rs) ≡ place_of j rs
  place_mapped j = place_map (is_placed j) (is_placed j) f rs (λ r. rw ((fk r).0, (fk r).1))

  pub listed_mapped : (j : ℕ) → listed j (map f rs) ≡ listed j rs
  listed_mapped j = rw (any_map (is_placed j) (is_placed j) f rs (λ r. rw ((fk r).0, (fk r).1)))

  pub at_mapped : (i : ℕ) → get_or (map f rs) i no_region ≡ f (get_or rs i no_region)
  at_mapped i = get_or_map f rs i no_region no_region f0

  pub region_mapped : (j : ℕ) → region_at j (map f rs) ≡ f (region_at j rs)
  region_mapped j = rw (place_mapped j) (at_mapped (place_of j rs))

  pub unique_mapped : Unique rs → Unique (map f rs)
  unique_mapped un i n =
      let q : (get_or (map f rs) i no_region).key ≡ (get_or rs i no_region).key = rw (at_mapped i) (fk (get_or rs i no_region)).0 in
      rw (q, place_mapped (get_or rs i no_region).key) (un i (rw q at n))

  pub regions_mapped : ((r : Region) → GoodRegion r → GoodRegion (f r)) → ((r : Region) → (f r).deps ≡ r.deps) → GoodRegions rs → GoodRegions (map f rs)
  regions_mapped h d g =
      record {
        count = length-map rs f ∙ g.count;
        good = λ i. rw (at_mapped i) (h (get_or rs i no_region) (g.good i));
        unique = unique_mapped g.unique;
        channels = λ c. rw (count_map (in_channel c) (in_channel c) f rs (λ r. rw ((fk r).0, (fk r).1))) (g.channels c);
        deps_once = λ i. rw (at_mapped i, d (get_or rs i no_region)) (g.deps_once i);
      }

-- ---- region k commits

pub after_free : (k : ℕ) → eqb k 0 ≡ false → after_commit k no_region ≡ no_region
unfolding after_commit
after_free k n = rw (flip k 0 n)

module _ (k : ℕ) (rs : List Region) (nz : eqb k 0 ≡ false) where
  pub key_after : (j : ℕ) → eqb j k ≡ false → eqb j 0 ≡ false → (r : Region) → is_placed j (after_commit k r) ≡ is_placed j r
  unfolding after_commit
  key_after j d z r =
      test (is_key k r)
      (λ a. rw (a, flip j 0 z, eqb-true r.key k a, flip j k d))
      (λ a. rw a)

  pub key_gone : (r : Region) → is_placed k (after_commit k r) ≡ false
  unfolding after_commit
  key_gone r = test (is_key k r) (λ a. rw (a, flip k 0 nz)) (λ a. rw (a, a))

  pub at_commit : (i : ℕ) → get_or (map (after_commit k) rs) i no_region ≡ after_commit k (get_or rs i no_region)
  at_commit i = get_or_map (after_commit k) rs i no_region no_region (after_free k nz)

  gone : any (is_placed k) (map (after_commit k) rs) ≡ false
  gone = any_map (is_placed k) (λ r. false) (after_commit k) rs key_gone ∙ nothing rs
    where
      nothing : (xs : List Region) → any (λ r. false) xs ≡ false
      nothing [] = refl
      nothing (x ∷ xs) = nothing xs

  pub listed_commit : (j : ℕ) → listed j (map (after_commit k) rs) ≡ (not (eqb j k) && listed j rs)
  listed_commit j =
      test (eqb j k)
      (λ d. rw (d, eqb-true j k d, gone, nz))
      (λ d. test (eqb j 0)
      (λ z. rw (d, z))
      (λ z. rw (d, z) (any_map (is_placed j) (is_placed j) (after_commit k) rs (key_after j d z))))

  pub place_commit : (j : ℕ) → eqb j k ≡ false → eqb j 0 ≡ false → place_of j (map (after_commit k) rs) ≡ place_of j rs
  place_commit j d z = place_map (is_placed j) (is_placed j) (after_commit k) rs (key_after j d z)

  pub free_commit : Free rs → Free (map (after_commit k) rs)
  unfolding after_commit
  free_commit f i e =
      rw (at_commit i)
      (test (is_key k (get_or rs i no_region))
      (λ a. rw a)
      (λ a. let z : (get_or rs i no_region).key ≡ 0 = rw (at_commit i, a) at e in rw (f i z) (after_free k nz)))

  pub region_commit : Free rs → (j : ℕ) → region_at j (map (after_commit k) rs) ≡ after_commit k (region_at j rs)
  unfolding after_commit
  region_commit f j =
      test (listed j (map (after_commit k) rs))
      (λ y. let x = and_true (not (eqb j k)) (listed j rs) (sym (listed_commit j) ∙ y) in
      rw (place_commit j (not-true (eqb j k) x.0) (listed_key j rs x.1)) (at_commit (place_of j rs)))
      (λ y. region_none j (map (after_commit k) rs) (free_commit f) y
      ∙ sym (test (listed j rs)
      (λ x. let q : is_key k (region_at j rs) ≡ true = rw (key_at j rs x) (same_as y x) in rw q)
      (λ x. rw (region_none j rs f x) (after_free k nz))))
    where
      same_as : listed j (map (after_commit k) rs) ≡ false → listed j rs ≡ true → eqb j k ≡ true
      same_as y x = test (eqb j k) (λ d. d) (λ d. never (rw (listed_commit j, d) x) y)

  pub unique_commit : Unique rs → Unique (map (after_commit k) rs)
  unfolding after_commit
  unique_commit un i n =
      test (is_key k (get_or rs i no_region))
      (λ a. absurd (n (rw (at_commit i, a))))
      (λ a. let q : (get_or (map (after_commit k) rs) i no_region).key ≡ (get_or rs i no_region).key = rw (at_commit i, a) in
      let m : (get_or rs i no_region).key ≢ 0 = rw q at n in
      rw (q, place_commit (get_or rs i no_region).key a (ne_eqb (get_or rs i no_region).key 0 m)) (un i m))

  -- one region fewer is listed
  pub held_commit : any (is_placed k) rs ≡ true → count is_held (map (after_commit k) rs) < count is_held rs
  unfolding after_commit
  held_commit e =
      rw (count_map is_held (λ r. is_held (after_commit k r)) (after_commit k) rs (λ r. refl))
      (count_fewer (λ r. is_held (after_commit k r)) is_held (is_placed k) rs
      (λ r a. test (is_key k r) (λ d. rw (eqb-true r.key k d, nz)) (λ d. rw d at a))
      (λ r a. rw (keyed k r a))
      (λ r a. rw (key_of k r a, nz)) e)

  pub channels_commit : (c : ℕ) → count (in_channel c) (map (after_commit k) rs) ≤ count (in_channel c) rs
  unfolding after_commit
  channels_commit c =
      rw (count_map (in_channel c) (λ r. in_channel c (after_commit k r)) (after_commit k) rs (λ r. refl))
      (count_mono (λ r. in_channel c (after_commit k r)) (in_channel c) rs
      (λ r a. test (is_key k r) (λ d. absurd (false≢true (rw d at a))) (λ d. rw d at a)))

-- ---- the two channels

-- every entry is in one of them
held_two : (rs : List Region) → Homes rs → count is_held rs ≤ count (in_channel 0) rs + count (in_channel 1) rs
unfolding count
held_two [] h = omega arith
held_two (r ∷ rs) h =
    let ih = held_two rs (λ i. h (suc i)) in
    test (is_held r)
    (λ e. test (eqb r.channel 0)
    (λ c. rw (e, c, eqb-true r.channel 0 c) (omega arith))
    (λ c. let n : r.channel ≢ 0 = eqb-false r.channel 0 c in
    let one : r.channel ≡ 1 = omega (arith, n, h 0) in
    rw (e, one) (omega arith)))
    (λ e. rw e ih)

-- where one of them has room, so has the list
pub room_left : (rs : List Region) → GoodRegions rs → (n : ℕ) → count (in_channel (channel_of n)) rs < most_in_channel → count is_held rs < 32
room_left rs g n l =
    let all = held_two rs (homes rs g) in
    let a = g.channels 0 in
    let b = g.channels 1 in
    test (eqb (channel_of n) 0)
    (λ e. let l' : count (in_channel 0) rs < most_in_channel = rw (eqb-true (channel_of n) 0 e) at l in omega arith)
    (λ e. let x : channel_of n ≢ 0 = eqb-false (channel_of n) 0 e in
    let one : channel_of n ≡ 1 = omega (arith, x) in
    let l' : count (in_channel 1) rs < most_in_channel = rw one at l in omega arith)

-- ---- repeated elements

pub get_or_same : {A : Type 0} (n i : ℕ) (a : A) → get_or (replicate n a) i a ≡ a
get_or_same zero i a = refl
get_or_same (suc n) zero a = refl
get_or_same (suc n) (suc i) a = get_or_same n i a

pub eqb_swap : (a b : ℕ) → eqb a b ≡ eqb b a
eqb_swap a b = test (eqb a b) (λ e. rw (e, eqb-true a b e, is_same b)) (λ e. rw (e, flip a b e))

-- one dependence alone
pub once_one : (d n : ℕ) → Once (d ∷ replicate n 0)
once_one d n a b x e = first a x ∙ sym (first b (λ q. x (e ∙ q)))
  where
    first : (a : ℕ) → get_or (d ∷ replicate n 0) a 0 ≢ 0 → a ≡ 0
    first zero x = refl
    first (suc a) x = absurd (x (get_or_same n a 0))
