-- Commits keep the relation, one by one and all of a step.
use Rattle.undo.specs.Machine as u
use Rattle.undo.specs.History as v
use Prim.Native.Nat.{◌<◌, ◌≤◌, suc, zero, ℕ}
use mathlib.Core.Path.{◌∙◌, ◌≡◌, refl, sym}
use mathlib.Core.Logic.{◌≢◌, inl, inr, ⊎_elim}
use mathlib.Core.Bool.{Bool, ◌&&◌, cond, false, false≢true, not, true}
use mathlib.Core.List.{List, [], ◌∷◌, map}
use lib.Dec.{eqb, leb, ltb}
use lib.ListN.{get_or-eq_default, get_or, length, length-map}
use native.Mathlib.Omega.{arith}
use borrow.Author.Tests.{eqb-false, eqb-true, leb-true, ltb-false, ltb-true, ne_eqb, not-true}
use Rattle.rules.proofs.Places.{Unique, at_commit, channels_commit, good_free, held_commit, key_at, listed_any, listed_commit, listed_key, region_commit, region_none, unique_commit}
use Rattle.rules.proofs.Lists.{any_map, any_none, count_le, count_map, count_zero, get_or_map}
use Rattle.rules.proofs.Sim.State.{Finished, GoodEntry, Kept, Logs, Shape, Sim, Simulated, Told, by}
use Rattle.rules.proofs.Sim.Base.{clear_waits, memories_same, shape_kept, thread_stored, threads_8, threads_stored}
use Rattle.rules.proofs.Sim.Looks.{acted_same, reach, stayed_same}
use Rattle.rules.proofs.Sim.Parts.{Flown}
use Rattle.rules.proofs.Sim.Begin.{state_free}
use Rattle.rules.proofs.SlotLaws.{no_slots}
use Rattle.rules.proofs.Views.{entry_at}
use Rattle.rules.specs.Access.{is_of}
use Rattle.rules.specs.Acknowledge.{is_entry}
use Rattle.rules.specs.Commit.{Settled, after_commit, before, commit, commits, done_region, earliest, freed, freed_entry, settle, settled, without_dep}
use Rattle.rules.specs.History.{Account, opened_in}
use Rattle.rules.specs.Lists.{all, count}
use Rattle.rules.specs.Slots.{has_slot}
use Rattle.rules.specs.Step.{settled_board}
use Rattle.rules.specs.Tables.{Memory, is_held, is_key, listed, no_entry, no_region, no_thread, number_of, owner_of, place_of, region_at, thread_at, thread_of, with_deps, with_regions, with_tables}
use Rattle.rules.specs.declared.Board.{Board}
use Rattle.rules.specs.declared.Region.{Region}
use Rattle.rules.specs.declared.SlotState.TheVariants.{Empty, Waiting}
use Rattle.undo.proofs.Laws.{and_true, flip, never, or_false, test}
use Rattle.undo.proofs.Steps.{reached}
use Rattle.undo.specs.Claim.{Reach}
use Rattle.undo.specs.Table.{any}
use Rattle.rules.proofs.Sim.Done.{after_done, any_without, earliest_none, finished_done, flown_done, freed_entry_lem, freed_none, freed_of, good_after, logged_freed, map_same, newest_freed, no_deps, olds_freed, once_after, owns_freed, ready, sim_done}

-- ---- one commit

module _ {m : ℕ → List ℕ} {b : Board} {es : List Account} {s : u.State (List ℕ)} {h : v.History (List ℕ)} (rc : Reach m s h) (i : Sim b es s h)
    (k : ℕ) (in' : listed k b.tables.regions ≡ true) (cm : commits (region_at k b.tables.regions) ≡ true) where
  nz : eqb k 0 ≡ false
  nz = listed_key k b.tables.regions in'

  is_done : ((region_at k b.tables.regions).done ≡ true) × (all (eqb 0) (region_at k b.tables.regions).deps ≡ true)
  unfolding commits
  is_done =
      and_true (region_at k b.tables.regions).done (all (eqb 0) (region_at k b.tables.regions).deps)
      (and_true (is_held (region_at k b.tables.regions)) ((region_at k b.tables.regions).done && all (eqb 0) (region_at k b.tables.regions).deps) cm).1

  is_finished : ((region_at k b.tables.regions).ended ≡ true) × (has_slot (region_at k b.tables.regions) ≡ false)
  is_finished = (i.shape.regions.good (place_of k b.tables.regions)).finished is_done.0

  k_over : s.over k ≡ true
  k_over = sym (i.ended k in') ∙ is_finished.0

  k_clear : (l : ℕ) → s.slot l k ≡ u.Clear
  k_clear l = i.slot l k ∙ rw (no_slots l (region_at k b.tables.regions).slots is_finished.1)

  k_alone : (q : ℕ) → s.dep k q ≡ false
  k_alone q =
      i.dep k q
      ∙ test (eqb q 0) (λ z. rw z) (λ z. rw (z, no_deps q (region_at k b.tables.regions).deps z is_done.1))

  k_born : s.born k ≡ true
  k_born = (reached rc).begun k k_over

  -- the thread of a region that has begun has one
  k_thread : thread_of k < b.tables.size.threads
  k_thread =
      test (ltb (thread_of k) b.tables.size.threads)
      (λ d. ltb-true (thread_of k) b.tables.size.threads d)
      (λ d. let e : thread_at (thread_of k) b.tables ≡ no_thread = i.shape.threads.range (thread_of k) (ltb-false (thread_of k) b.tables.size.threads d) in
      let z : opened_in (thread_of k) es ≡ 0 = sym (i.told.last (thread_of k)) ∙ rw e in
      let x = and_true (not (eqb (number_of k) 0)) (leb (number_of k) (opened_in (thread_of k) es)) (sym (i.told.born k) ∙ k_born) in
      absurd (omega (arith, z, leb-true (number_of k) (opened_in (thread_of k) es) x.1, eqb-false (number_of k) 0 (not-true (eqb (number_of k) 0) x.0))))

  commit_allowed : u.Allowed s (u.Commit k)
  commit_allowed = u.commits {r = k} k_over k_clear k_alone

  thread_commit : (j : ℕ) → thread_at j (commit k b.tables) ≡ cond (eqb j (thread_of k)) (freed k (thread_at (thread_of k) b.tables)) (thread_at j b.tables)
  unfolding commit
  thread_commit =
      thread_stored (thread_of k) (freed k (thread_at (thread_of k) b.tables)) (with_regions (map (after_commit k) b.tables.regions) b.tables)
      (omega (arith, k_thread, threads_8 b.tables i.shape, i.shape.threads.count))

  reads_commit : (t : ℕ) → (thread_at t (commit k b.tables)).reads ≡ (thread_at t b.tables).reads
  unfolding freed
  reads_commit t = rw (thread_commit t) (test (eqb t (thread_of k)) (λ d. rw (d, eqb-true t (thread_of k) d)) (λ d. rw d))

  -- an entry of another thread is not of region k
  entry_other : (t j : ℕ) → eqb t (thread_of k) ≡ false → freed_entry k (entry_at t j b.tables) ≡ entry_at t j b.tables
  entry_other t j d =
      test (eqb (entry_at t j b.tables).key k)
      (λ e. let q : (entry_at t j b.tables).key ≡ k = eqb-true (entry_at t j b.tables).key k e in
      let x : thread_of (entry_at t j b.tables).key ≡ t
      = (i.logs.entry t j (λ z. eqb-false k 0 nz (sym q ∙ z))).thread in
      absurd (eqb-false t (thread_of k) d (sym x ∙ rw q)))
      (λ e. rw e)

  log_commit : (t : ℕ) → (thread_at t (commit k b.tables)).log ≡ map (freed_entry k) (thread_at t b.tables).log
  unfolding freed
  log_commit t =
      rw (thread_commit t)
      (test (eqb t (thread_of k))
      (λ d. rw (d, eqb-true t (thread_of k) d))
      (λ d. rw d (sym (map_same (freed_entry k) (thread_at t b.tables).log no_entry (λ j. entry_other t j d)))))

  entry_commit : (t j : ℕ) → entry_at t j (commit k b.tables) ≡ freed_entry k (entry_at t j b.tables)
  entry_commit t j = rw (log_commit t) (get_or_map (freed_entry k) (thread_at t b.tables).log j no_entry no_entry (freed_none k))

  -- an entry that is left is as it was, and of another region
  left : (t j : ℕ) → (entry_at t j (commit k b.tables)).key ≢ 0
      → (entry_at t j (commit k b.tables) ≡ entry_at t j b.tables) × (eqb (entry_at t j b.tables).key k ≡ false)
  left t j x =
      test (eqb (entry_at t j b.tables).key k)
      (λ d. absurd (x (rw (entry_commit t j, d))))
      (λ d. (rw (entry_commit t j, d), d))

  is_key_at : (j : ℕ) → is_key k (region_at j b.tables.regions) ≡ eqb j k
  is_key_at j =
      test (listed j b.tables.regions)
      (λ d. rw (key_at j b.tables.regions d))
      (λ d. rw (region_none j b.tables.regions (good_free b.tables.regions i.shape.regions.good) d, flip k 0 nz)
      (sym (ne_eqb j k (λ q. never (rw q in') d))))

  region_after : (j : ℕ) → region_at j (map (after_commit k) b.tables.regions)
      ≡ cond (eqb j k) no_region (with_deps (map (without_dep k) (region_at j b.tables.regions).deps) (region_at j b.tables.regions))
  unfolding after_commit
  region_after j = region_commit k b.tables.regions nz (good_free b.tables.regions i.shape.regions.good) j ∙ rw (is_key_at j)

  listed_after : (j : ℕ) → listed j (map (after_commit k) b.tables.regions) ≡ (not (eqb j k) && listed j b.tables.regions)
  listed_after = listed_commit k b.tables.regions nz

  shape_commit : Shape (commit k b.tables)
  unfolding commit freed
  shape_commit =
      let sh : Shape b.tables = i.shape in
      shape_kept b.tables _ refl refl
      (record {
        count = length-map b.tables.regions (after_commit k) ∙ sh.regions.count;
        good = λ j. rw (at_commit k b.tables.regions nz j) (good_after k (get_or b.tables.regions j no_region) nz (sh.regions.good j));
        unique = unique_commit k b.tables.regions nz sh.regions.unique;
        channels = λ c. omega (arith, channels_commit k b.tables.regions nz c, sh.regions.channels c);
        deps_once = λ j. rw (at_commit k b.tables.regions nz j) (once_after k (get_or b.tables.regions j no_region) (sh.regions.deps_once j));
      })
      (threads_stored (thread_of k) (freed k (thread_at (thread_of k) b.tables)) b.tables k_thread
      (length-map (thread_at (thread_of k) b.tables).log (freed_entry k) ∙ sh.threads.logs (thread_of k)) sh) sh.owner sh.lock sh

  logs_commit : Logs (with_tables (commit k b.tables) b) (u.act s (u.Commit k))
  unfolding u.act commit
  logs_commit =
      record {
        entry = λ t j x. let z = left t j x in let y : (entry_at t j b.tables).key ≢ 0 = rw z.0 at x in rw z.0 (good t j z.1 y (i.logs.entry t j y));
        empty = λ t j e. test (eqb (entry_at t j b.tables).key k)
            (λ d. rw (entry_commit t j, d))
            (λ d. rw (entry_commit t j, d) (i.logs.empty t j (rw (entry_commit t j, d) at e)));
        present = λ a l e. let z = logged_freed k a (s.chain l) e in
            rw (
              log_commit (thread_of a),
              any_map (is_entry a l) (is_entry a l) (freed_entry k) (thread_at (thread_of a) b.tables).log (λ x. freed_entry_lem k a l x z.0 (begun_nz a ((reached rc).listed l a z.1).0)),
            )
            (i.logs.present a l z.1);
        once = λ t j a x e d. let z = left t j x in let y = left t a (rw e at x) in
            i.logs.once t j a (rw z.0 at x) (rw (z.0, y.0) at e) (rw (z.0, y.0) at d);
        ranks = λ t j a x e d. let z = left t j x in let y = left t a (rw e at x) in
            i.logs.ranks t j a (rw z.0 at x) (rw (z.0, y.0) at e) (rw (z.0, y.0) at d);
      }
    where
      -- no region that has begun has the key 0
      begun_nz : (a : ℕ) → s.born a ≡ true → eqb a 0 ≡ false
      begun_nz a e = ne_eqb a 0 (λ q. false≢true (sym (i.told.born 0) ∙ rw q at e))

      good : (t j : ℕ) → eqb (entry_at t j b.tables).key k ≡ false → (entry_at t j b.tables).key ≢ 0 → GoodEntry b s t j (entry_at t j b.tables)
          → GoodEntry (with_tables (commit k b.tables) b) (u.act s (u.Commit k)) t j (entry_at t j b.tables)
      good t j d x g =
          record {
            thread = g.thread;
            line = g.line;
            rank = rw (
              log_commit t,
              count_map (is_of (entry_at t j b.tables).key) (is_of (entry_at t j b.tables).key) (freed_entry k) (thread_at t b.tables).log
                  (λ e. freed_of k (entry_at t j b.tables).key e d (ne_eqb (entry_at t j b.tables).key 0 x)),
            )
                g.rank;
            old = olds_freed k (entry_at t j b.tables).key (s.chain (entry_at t j b.tables).line) d ∙ g.old;
            flight = rw (owns_freed s.dep k k_alone (entry_at t j b.tables).key d ((reached rc).links (entry_at t j b.tables).line)) g.flight;
          }

  told_commit : Told (with_tables (commit k b.tables) b) es (u.act s (u.Commit k)) h
  unfolding u.act commit freed
  told_commit =
      record {
        depth = λ t. rw (thread_commit t) (test (eqb t (thread_of k)) (λ d. rw (d, eqb-true t (thread_of k) d) (i.told.depth (thread_of k))) (λ d. rw d (i.told.depth t)));
        last = λ t. rw (thread_commit t) (test (eqb t (thread_of k)) (λ d. rw (d, eqb-true t (thread_of k) d) (i.told.last (thread_of k))) (λ d. rw d (i.told.last t)));
        numbers = i.told.numbers;
        lines = i.told.lines;
        born = i.told.born;
        ends = i.told.ends;
        writes = i.told.writes;
        uses = λ a q e x. ⊎_elim (λ y. inl y) (λ y. inr (test (eqb q k) (λ d. rw d) (λ d. rw d y))) (i.told.uses a q e x);
        open_last = λ a p. i.told.open_last a (record { began = p.began; goes_on = p.goes_on });
        last_open = λ t x. let p = i.told.last_open t x in record { began = p.began; goes_on = p.goes_on };
        owner = i.told.owner;
      }

  sim_commit : Sim (with_tables (commit k b.tables) b) es (u.act s (u.Commit k)) h
  unfolding u.act commit owner_of
  sim_commit =
      record {
        shape = shape_commit;
        memories = memories_same (commit k b.tables) i.memories;
        logs = logs_commit;
        told = told_commit;
        cur = i.cur;
        med = i.med;
        lock = i.lock;
        slot = λ l j. rw (region_after j) (test (eqb j k)
            (λ d. rw (d, eqb-true j k d, state_free l) (k_clear l))
            (λ d. rw d (i.slot l j)));
        dep = λ a d. rw (region_after a) (test (eqb d 0)
            (λ z. rw z (test (eqb d k) (λ y. rw y) (λ y. rw y (i.dep a d ∙ rw z))))
            (λ z. rw z (test (eqb a k)
            (λ y. rw (y, z, eqb-true a k y, k_alone d) (test (eqb d k) (λ x. rw x) (λ x. rw x)))
            (λ y. rw (y, any_without d k (region_at a b.tables.regions).deps z)
            (test (eqb d k) (λ x. rw x) (λ x. rw x (rw z at (i.dep a d))))))));
        live = λ j. rw (listed_after j, i.live j) (test (eqb j k)
            (λ d. rw d (test (s.born j) (λ y. rw y) (λ y. rw y)))
            (λ d. rw d));
        ended = λ j p. let z = and_true (not (eqb j k)) (listed j b.tables.regions) (sym (listed_after j) ∙ p) in
            rw (region_after j, not-true (eqb j k) z.0) (i.ended j z.1);
        top = λ l. rw (listed_after (get_or b.tables.owner l 0), newest_freed s.dep k k_alone ((reached rc).links l), i.top l)
            (owner_after (get_or b.tables.owner l 0) (listed (get_or b.tables.owner l 0) b.tables.regions));
        waits = λ l j w. rw (newest_freed s.dep k k_alone ((reached rc).links l), i.waits l j w, ne_eqb j k (λ q. clear_waits (sym (k_clear l) ∙ rw q at w)));
      }
    where
      owner_after : (a : ℕ) (x : Bool) → cond (eqb (cond x a 0) k) 0 (cond x a 0) ≡ cond (not (eqb a k) && x) a 0
      owner_after a true = test (eqb a k) (λ d. rw d) (λ d. rw d)
      owner_after a false = test (eqb 0 k) (λ d. test (eqb a k) (λ y. rw (d, y)) (λ y. rw (d, y))) (λ d. test (eqb a k) (λ y. rw (d, y)) (λ y. rw (d, y)))

  flown_commit : Flown b → Flown (with_tables (commit k b.tables) b)
  unfolding commit
  flown_commit f j l c e w =
      test (eqb j k)
      (λ d. let v : Empty ≡ Waiting c = sym (state_free l) ∙ (rw (region_after j, d) at w) in let z : ◌≡◌ {A = ℕ} 0 1 = cc in absurd (omega arith))
      (λ d. f j l c (rw (region_after j, d) at e) (rw (region_after j, d) at w))

-- a commit leaves the other regions as they ended
finished_commit : (k : ℕ) (rs : List Region) → eqb k 0 ≡ false → ((j : ℕ) → Finished (get_or rs j no_region))
    → (j : ℕ) → Finished (get_or (map (after_commit k) rs) j no_region)
unfolding after_commit
finished_commit k rs nz f j =
    rw (at_commit k rs nz j) (test (eqb (get_or rs j no_region).key k) (λ d. rw d (λ e n. absurd (false≢true e))) (λ d. rw d (f j)))

-- ---- the commits of a step

commits_one : {m : Memory} {b : Board} {es : List Account} (k : ℕ) → listed k b.tables.regions ≡ true → commits (region_at k b.tables.regions) ≡ true
    → Simulated m b es → Flown b → Simulated m (with_tables (commit k b.tables) b) es × Flown (with_tables (commit k b.tables) b)
unfolding v.note
commits_one k in' cm (by s h w i) f =
    let rc = reach w in (
      by (u.act s (u.Commit k)) h (acted_same w (reads_commit rc i k in' cm) (u.Commit k) (commit_allowed rc i k in' cm) refl) (sim_commit rc i k in' cm),
      flown_commit rc i k in' cm f,
    )

pub unique_regions : {m : Memory} {b : Board} {es : List Account} → Simulated m b es → Unique b.tables.regions
unique_regions (by s h w i) = i.shape.regions.unique

-- no region of the list commits
none_commits : (rs : List Region) → any commits rs ≡ false → (j : ℕ) → commits (get_or rs j no_region) ≡ false
unfolding commits
none_commits rs e j =
    test (ltb j (length rs))
    (λ d. any_none commits rs j no_region e (ltb-true j (length rs) d))
    (λ d. rw (get_or-eq_default rs no_region (ltb-false j (length rs) d)))

-- nor one of a list without regions
free_list : (rs : List Region) → any is_held rs ≡ false → any commits rs ≡ false
unfolding commits
free_list [] e = refl
free_list (r ∷ rs) e = let z = or_false (is_held r) (any is_held rs) e in rw z.0 (free_list rs z.1)

-- n commits are enough where n regions are listed
settle_kept : {m : Memory} {es : List Account} (n : ℕ) (b : Board) → count is_held b.tables.regions ≤ n → Simulated m b es → Flown b
    → ((j : ℕ) → Finished (get_or b.tables.regions j no_region)) → Kept m (with_tables (settle n b.tables).tables b) es
unfolding settle commit
settle_kept zero b le k f g =
    record {
      simulated = k;
      rest = record {
        flown = f;
        finished = g;
        settled = none_commits b.tables.regions (free_list b.tables.regions (count_zero is_held b.tables.regions (omega arith)));
      };
    }
settle_kept {m} {es} (suc n) b le k f g = go (commits (earliest b.tables.regions)) refl (λ b'. settle_kept n b')
  where
    go : (x : Bool) → commits (earliest b.tables.regions) ≡ x
        → ((b' : Board) → count is_held b'.tables.regions ≤ n → Simulated m b' es → Flown b' → ((j : ℕ) → Finished (get_or b'.tables.regions j no_region))
        → Kept m (with_tables (settle n b'.tables).tables b') es)
        → Kept m (with_tables (elim x as (λ y. Settled) [
          | false ↦ record { tables = b.tables; keys = [] }
          | true ↦ before (earliest b.tables.regions).key (settle n (commit (earliest b.tables.regions).key b.tables))
        ]).tables b) es
    go false e ih =
        record {
          simulated = k;
          rest = record { flown = f; finished = g; settled = none_commits b.tables.regions (earliest_none no_region b.tables.regions e).1 };
        }
    go true e ih =
        let r = ready b.tables.regions (unique_regions k) e in
        let z = commits_one (earliest b.tables.regions).key r.0 r.1 k f in
        ih (with_tables (commit (earliest b.tables.regions).key b.tables) b)
        (omega (
          arith,
          held_commit (earliest b.tables.regions).key b.tables.regions
              (listed_key (earliest b.tables.regions).key b.tables.regions r.0) (listed_any (earliest b.tables.regions).key b.tables.regions r.0),
        ))
        z.0 z.1
        (finished_commit (earliest b.tables.regions).key b.tables.regions (listed_key (earliest b.tables.regions).key b.tables.regions r.0) g)

-- what the done pass and the commits make of a board
pub settles : {m : Memory} {b : Board} {es : List Account} → Simulated m b es → Flown b → Kept m (settled_board b).board es
unfolding settled_board settled
settles {b} (by s h w i) f =
    settle_kept (length b.tables.regions) (after_done b)
    (omega (arith, count_le is_held (map done_region b.tables.regions), length-map b.tables.regions done_region))
    (by s h (stayed_same w (λ t. refl)) (sim_done i)) (flown_done i f) (finished_done b.tables.regions)
