-- What becomes done, which region commits next, and the tables and chains of one commit.
use Rattle.undo.specs.Machine as u
use Rattle.undo.specs.History as v
use Rattle.undo.specs.Claim as c
use Rattle.undo.proofs.Inv as n
use Prim.Native.Nat.{◌<◌, suc, ℕ}
use mathlib.Core.Path.{◌∙◌, ◌≡◌, ap, refl, sym}
use mathlib.Core.Logic.{◌≢◌, ◌⊎◌, inl, inr, ⊎_elim}
use mathlib.Core.Bool.{Bool, ◌&&◌, ◌||◌, cond, false, false≢true, not, true}
use mathlib.Core.List.{List, [], ◌∷◌, map}
use lib.Dec.{eqb, ltb}
use lib.ListN.{get_or, length, length-map, replicate}
use native.Mathlib.Omega.{arith}
use borrow.Author.Tests.{eqb-false, eqb-true, not-false, not-true}
use Rattle.rules.proofs.Places.{Once, Unique, listed_at, listed_mapped, once_one, region_at_lem, region_mapped, regions_mapped}
use Rattle.rules.proofs.Lists.{get_or_map}
use Rattle.rules.proofs.Sim.State.{Finished, GoodRegion, Shape, Sim}
use Rattle.rules.proofs.Sim.Base.{logs_same, memories_same, no_change, shape_kept, told_alike}
use Rattle.rules.proofs.Sim.Parts.{Flown}
use Rattle.rules.proofs.Sim.Begin.{free_slots}
use Rattle.rules.proofs.Views.{newest}
use Rattle.rules.specs.Access.{is_of}
use Rattle.rules.specs.Acknowledge.{is_entry}
use Rattle.rules.specs.Commit.{after_commit, commits, done_region, earlier, earliest, earliest_from, freed_entry, without_dep}
use Rattle.rules.specs.History.{Account}
use Rattle.rules.specs.Lists.{all}
use Rattle.rules.specs.Slots.{has_slot}
use Rattle.rules.specs.Tables.{is_held, listed, no_entry, no_region, owner_of, region_at, with_deps, with_regions, with_tables}
use Rattle.rules.specs.declared.Board.{Board}
use Rattle.rules.specs.declared.Entry.{Entry}
use Rattle.rules.specs.declared.Region.{Region}
use Rattle.undo.proofs.Inv.{held}
use Rattle.undo.proofs.Laws.{and_true, any_of_keep, flip, is_same, never, or_false, or_right, or_true, test}
use Rattle.undo.proofs.Shape.{rest}
use Rattle.undo.specs.Recovery.{olds}
use Rattle.undo.specs.Table.{any}

-- ---- the done pass

done_free : done_region no_region ≡ no_region
unfolding done_region
done_free = refl

done_key : (r : Region) → ((done_region r).key ≡ r.key) × ((done_region r).channel ≡ r.channel)
unfolding done_region
done_key r = (refl, refl)

good_done : (r : Region) → GoodRegion r → GoodRegion (done_region r)
unfolding done_region
good_done r g =
    record {
      free = λ e. rw (g.free e);
      deps = g.deps;
      slots = g.slots;
      distinct = g.distinct;
      finished = λ e. ⊎_elim
          (λ d. g.finished d)
          (λ d. let z = and_true r.ended (not (has_slot r)) d in (z.0, not-true (has_slot r) z.1))
          (or_true r.done (r.ended && not (has_slot r)) e);
    }

-- the board after the done pass
abbrev pub after_done : Board → Board
after_done b = with_tables (with_regions (map done_region b.tables.regions) b.tables) b

module _ {b : Board} {es : List Account} {s : u.State (List ℕ)} {h : v.History (List ℕ)} (i : Sim b es s h) where
  region_done : (j : ℕ) → region_at j (map done_region b.tables.regions) ≡ done_region (region_at j b.tables.regions)
  region_done = region_mapped done_region b.tables.regions done_free done_key

  listed_done : (j : ℕ) → listed j (map done_region b.tables.regions) ≡ listed j b.tables.regions
  listed_done = listed_mapped done_region b.tables.regions done_free done_key

  shape_done : Shape (after_done b).tables
  unfolding done_region
  shape_done =
      let sh : Shape b.tables = i.shape in
      shape_kept b.tables _ refl refl (regions_mapped done_region b.tables.regions done_free done_key good_done (λ r. refl) sh.regions)
      sh.threads sh.owner sh.lock sh

  pub sim_done : Sim (after_done b) es s h
  unfolding done_region owner_of
  sim_done =
      record {
        shape = shape_done;
        memories = memories_same (after_done b).tables i.memories;
        logs = logs_same {b = b} (λ t. refl) refl refl i.logs;
        told = told_alike {b = b} (no_change es)
            i.told.depth (λ t. refl) i.told.lines refl i.told;
        cur = i.cur;
        med = i.med;
        lock = i.lock;
        slot = λ l j. rw (region_done j) (i.slot l j);
        dep = λ a d. rw (region_done a) (i.dep a d);
        live = λ j. rw (listed_done j) (i.live j);
        ended = λ j p. rw (region_done j) (i.ended j (rw (listed_done j) at p));
        top = λ l. rw (listed_done (get_or b.tables.owner l 0)) (i.top l);
        waits = i.waits;
      }

  pub flown_done : Flown b → Flown (after_done b)
  unfolding done_region
  flown_done f k l c e w = f k l c (rw (region_done k) at e) (rw (region_done k) at w)

pub finished_done : (rs : List Region) (j : ℕ) → Finished (get_or (map done_region rs) j no_region)
unfolding done_region
finished_done rs j =
    rw (get_or_map done_region rs j no_region no_region done_free) (λ e n. or_right (get_or rs j no_region).done (rw (e, n)))

-- ---- which region commits next

-- a region that does not commit is found only where none commits
pub earliest_none : (best : Region) (rs : List Region) → commits (earliest_from best rs) ≡ false → (commits best ≡ false) × (any commits rs ≡ false)
unfolding earliest_from earlier
earliest_none best [] e = (e, refl)
earliest_none best (r ∷ rs) e =
    let ih = earliest_none (earlier best r) rs e in
    test (commits r)
    (λ d. never d (test (not (commits best) || ltb r.stamp best.stamp)
    (λ x. rw (d, x) at ih.0)
    (λ x. never (not-false (commits best) (or_false (not (commits best)) (ltb r.stamp best.stamp) x).0) (rw (d, x) at ih.0))))
    (λ d. rw d (rw d at ih.0, ih.1))

-- what is found stands in the list, or is what the search began with
earliest_in : (best : Region) (rs : List Region) → (earliest_from best rs ≡ best) ⊎ ((j : ℕ) × (j < length rs) × (earliest_from best rs ≡ get_or rs j no_region))
unfolding earliest_from earlier
earliest_in best [] = inl refl
earliest_in best (r ∷ rs) =
    ⊎_elim
    (λ e. test (commits r && (not (commits best) || ltb r.stamp best.stamp))
    (λ d. inr (0, omega arith, e ∙ rw d))
    (λ d. inl (e ∙ rw d)))
    (λ z. inr (suc z.0, omega (arith, z.1), z.2))
    (earliest_in (earlier best r) rs)

-- the region that is found, where one commits
pub ready : (rs : List Region) → Unique rs → commits (earliest rs) ≡ true
    → (listed (earliest rs).key rs ≡ true) × (commits (region_at (earliest rs).key rs) ≡ true)
unfolding commits
ready rs un e =
    ⊎_elim
    (λ q. absurd (false≢true (rw q at e)))
    (λ z. let held : is_held (get_or rs z.0 no_region) ≡ true
    = (and_true (is_held (get_or rs z.0 no_region)) ((get_or rs z.0 no_region).done && all (eqb 0) (get_or rs z.0 no_region).deps) (rw z.2 at e)).0 in
    let key : (get_or rs z.0 no_region).key ≢ 0 = eqb-false (get_or rs z.0 no_region).key 0 (not-true (eqb (get_or rs z.0 no_region).key 0) held) in
    rw z.2 (listed_at z.0 rs un key z.1, rw (region_at_lem z.0 rs un key) (rw z.2 at e)))
    (earliest_in no_region rs)

-- ---- the tables of one commit

-- dependences that are all free
pub no_deps : (q : ℕ) (ds : List ℕ) → eqb q 0 ≡ false → all (eqb 0) ds ≡ true → any (eqb q) ds ≡ false
no_deps q [] n e = refl
no_deps q (d ∷ ds) n e =
    let z = and_true (eqb 0 d) (all (eqb 0) ds) e in
    let x : eqb q d ≡ false = rw (← eqb-true 0 d z.0) n in
    rw x (no_deps q ds n z.1)

pub without_zero : (k : ℕ) → without_dep k 0 ≡ 0
without_zero k = test (eqb 0 k) (λ d. rw d) (λ d. rw d)

pub any_without : (d k : ℕ) (ds : List ℕ) → eqb d 0 ≡ false → any (eqb d) (map (without_dep k) ds) ≡ (not (eqb d k) && any (eqb d) ds)
any_without d k [] n = test (eqb d k) (λ e. rw e) (λ e. rw e)
any_without d k (x ∷ ds) n =
    let ih = any_without d k ds n in
    test (eqb x k)
    (λ e. test (eqb d k)
    (λ f. rw (e, n, f) (rw f at ih))
    (λ f. let y : eqb d x ≡ false = rw (eqb-true x k e) f in rw (e, n, f, y) (rw f at ih)))
    (λ e. test (eqb d k)
    (λ f. let y : eqb d x ≡ false = rw (eqb-true d k f) (flip x k e) in rw (e, f, y) (rw f at ih))
    (λ f. rw (e, f) (ap {A = Bool} (λ y. eqb d x || y) (rw f at ih))))

once_without : (k : ℕ) (ds : List ℕ) → Once ds → Once (map (without_dep k) ds)
once_without k ds o a b n e =
    o a b (rw (stays a n) at n) (sym (stays a n) ∙ e ∙ stays b (rw e at n))
  where
    stays : (a : ℕ) → get_or (map (without_dep k) ds) a 0 ≢ 0 → get_or (map (without_dep k) ds) a 0 ≡ get_or ds a 0
    stays a n =
        let q : get_or (map (without_dep k) ds) a 0 ≡ without_dep k (get_or ds a 0) = get_or_map (without_dep k) ds a 0 0 (without_zero k) in
        test (eqb (get_or ds a 0) k)
        (λ d. absurd (n (q ∙ rw d)))
        (λ d. q ∙ rw d)

pub good_after : (k : ℕ) (r : Region) → eqb k 0 ≡ false → GoodRegion r → GoodRegion (after_commit k r)
unfolding after_commit
good_after k r nz g =
    test (eqb r.key k)
    (λ d. rw d free_good)
    (λ d. rw d (record {
      free = λ e. rw (g.free e) (free k nz);
      deps = length-map r.deps (without_dep k) ∙ g.deps;
      slots = g.slots;
      distinct = g.distinct;
      finished = g.finished;
    }))
  where
    free : (k : ℕ) → eqb k 0 ≡ false → with_deps (map (without_dep k) (replicate 4 0)) no_region ≡ no_region
    free k nz = rw (flip k 0 nz)

    free_good : GoodRegion no_region
    free_good =
        record { free = λ e. refl; deps = refl; slots = refl; distinct = free_slots 8; finished = λ e. absurd (false≢true e) }

pub once_after : (k : ℕ) (r : Region) → Once r.deps → Once (after_commit k r).deps
unfolding after_commit
once_after k r o = test (eqb r.key k) (λ d. rw d (once_one 0 3)) (λ d. rw d (once_without k r.deps o))

-- entries
pub map_same : {A : Type 0} (f : A → A) (xs : List A) (d : A) → ((j : ℕ) → f (get_or xs j d) ≡ get_or xs j d) → map f xs ≡ xs
map_same f [] d h = refl
map_same f (x ∷ xs) d h = rw (h 0, map_same f xs d (λ j. h (suc j)))

pub freed_none : (k : ℕ) → freed_entry k no_entry ≡ no_entry
freed_none k = test (eqb 0 k) (λ d. rw d) (λ d. rw d)

-- a test for another region does not see what is freed
pub freed_of : (k a : ℕ) (e : Entry) → eqb a k ≡ false → eqb a 0 ≡ false → is_of a (freed_entry k e) ≡ is_of a e
freed_of k a e d z =
    test (eqb e.key k)
    (λ x. let y : eqb e.key a ≡ false = rw (eqb-true e.key k x) (flip a k d) in rw (x, flip a 0 z, y))
    (λ x. rw x)

pub freed_entry_lem : (k a l : ℕ) (e : Entry) → eqb a k ≡ false → eqb a 0 ≡ false → is_entry a l (freed_entry k e) ≡ is_entry a l e
freed_entry_lem k a l e d z =
    test (eqb e.key k)
    (λ x. let y : eqb e.key a ≡ false = rw (eqb-true e.key k x) (flip a k d) in rw (x, flip a 0 z, y))
    (λ x. rw x)

-- ---- a line's entries without those of region k, which depends on none: its entry can only be the oldest

module _ (dep : ℕ → ℕ → Bool) (k : ℕ) (alone : (q : ℕ) → dep k q ≡ false) where
  pub owns_freed : {es : List (u.Entry (List ℕ))} (j : ℕ) → eqb j k ≡ false → n.Link dep es → u.owns j (u.freed k es) ≡ u.owns j es
  owns_freed j d n.no_entry = refl
  owns_freed j d (n.one_entry {e}) =
      test (eqb k e.rid) (λ x. rw (x, ← eqb-true k e.rid x, d)) (λ x. rw x)
  owns_freed j d (n.entries {e} {f} {c} a l rest) =
      test (eqb k e.rid) (λ x. never (rw (← eqb-true k e.rid x) at l) (alone f.rid)) (λ x. rw x)

  pub newest_freed : {es : List (u.Entry (List ℕ))} → n.Link dep es → newest (u.freed k es) ≡ cond (eqb (newest es) k) 0 (newest es)
  newest_freed n.no_entry = test (eqb 0 k) (λ x. rw x) (λ x. rw x)
  newest_freed (n.one_entry {e}) =
      test (eqb k e.rid) (λ x. rw (x, ← eqb-true k e.rid x, is_same k)) (λ x. rw (x, flip k e.rid x))
  newest_freed (n.entries {e} {f} {c} a l rest) =
      test (eqb k e.rid) (λ x. never (rw (← eqb-true k e.rid x) at l) (alone f.rid)) (λ x. rw (x, flip k e.rid x))

pub olds_freed : (k j : ℕ) (es : List (u.Entry (List ℕ))) → eqb j k ≡ false → olds (eqb j) (u.freed k es) ≡ olds (eqb j) es
olds_freed k j [] d = refl
olds_freed k j (e ∷ es) d =
    let ih = olds_freed k j es d in
    test (eqb k e.rid)
    (λ x. let y : eqb j e.rid ≡ false = rw (← eqb-true k e.rid x) d in rw (x, y) ih)
    (λ x. simp (x, ih))

pub logged_freed : (k j : ℕ) (es : List (u.Entry (List ℕ))) → c.logged j (u.freed k es) ≡ true → (eqb j k ≡ false) × (c.logged j es ≡ true)
logged_freed k j es e = (test (eqb j k) (λ d. never (rw (eqb-true j k d) at e) (gone es)) (λ d. d), any_of_keep (λ x. eqb j x.rid) (λ x. not (eqb k x.rid)) es e)
  where
    gone : (es : List (u.Entry (List ℕ))) → c.logged k (u.freed k es) ≡ false
    gone [] = refl
    gone (x ∷ es) = test (eqb k x.rid) (λ d. rw d (gone es)) (λ d. rw (d, d) (gone es))
