-- An end to depth 0 keeps the relation, before its flights and commits.
use Rattle.undo.specs.Machine as u
use Rattle.undo.specs.History as v
use Prim.Native.Nat.{◌%◌, ◌-◌, ◌/◌, ◌<◌, ℕ}
use mathlib.Core.Path.{◌∙◌, ◌≡◌, refl, sym}
use mathlib.Core.Bool.{◌||◌, cond, false, true, true≢false}
use mathlib.Core.List.{List, ◌∷◌}
use lib.Dec.{eqb}
use lib.ListN.{get_or}
use native.Mathlib.Omega.{arith}
use borrow.Author.Tests.{eqb-false, eqb-true, leb-false, ne_eqb}
use Rattle.rules.proofs.Bits.{bit_zero}
use Rattle.rules.proofs.Places.{entry_at, eqb_swap, get_or_same, key_at, listed_key, listed_stored, region_stored, regions_stored}
use Rattle.rules.proofs.Sim.State.{GoodRegion, Kept, Marks, Rest, Shape, Sim, Simulated, Told, by, other}
use Rattle.rules.proofs.Sim.Base.{key_thread, logs_over, logs_same, memories_same, shape_kept, thread_stored, threads_8, threads_stored}
use Rattle.rules.proofs.Sim.Flight.{flights, flown_rest}
use Rattle.rules.proofs.Sim.OneMore.{depth_closes, opened_closes}
use Rattle.rules.proofs.Sim.Looks.{acted, reach}
use Rattle.rules.proofs.Sim.Parts.{Flown, once_at, open_listed}
use Rattle.rules.proofs.Views.{state_of}
use Rattle.rules.specs.End.{closed, end_region, ended_region, outside, tick}
use Rattle.rules.specs.Flight.{flown}
use Rattle.rules.specs.History.{Account, Closes, depth_in, ends_in, has_read_in, lines_in, opened_in, region_in, uses_in, writes_in}
use Rattle.rules.specs.Refusal.{depth_of, refusal, tests_of}
use Rattle.rules.specs.Tables.{Memory, current, is_placed, listed, no_reads, owner_of, place_of, region_at, thread_at, thread_of, with_depth, with_reads, with_tables}
use Rattle.rules.specs.declared.Board.{Board}
use Rattle.rules.specs.declared.Event.TheVariants.{End}
use Rattle.rules.specs.declared.Region.{Region}
use Rattle.rules.specs.declared.SlotState.TheVariants.{Waiting}
use Rattle.rules.specs.declared.Tables.{Tables}
use Rattle.rules.specs.declared.Thread.{Thread}
use Rattle.undo.proofs.Laws.{test}
use Rattle.undo.specs.Claim.{Reach}
use Rattle.undo.specs.Machine.{ends}
use Rattle.undo.specs.Table.{put}
use Rattle.rules.proofs.Tests.{passed}
use Rattle.rules.specs.Measures.{ripe_count}

-- ---- end to depth 0: the region ends, before its flights

-- the tables after the end
abbrev over : ℕ → Tables → Tables
over t ts = closed (current t ts) (outside t ts)

abbrev over_region : ℕ → Tables → Region
over_region t ts = ended_region (tick ts.clock) (region_at (current t ts) ts.regions)

abbrev over_thread : ℕ → Tables → Thread
over_thread t ts = with_reads no_reads (with_depth ((thread_at t ts).depth - 1) (thread_at t ts))

module _ {m : ℕ → List ℕ} {b : Board} {es : List Account} {s : u.State (List ℕ)} {h : v.History (List ℕ)} (rc : Reach m s h) (i : Sim b es s h)
    (t : ℕ) (lt : t < b.tables.size.threads) (d1 : depth_in t es ≡ 1) where
  mine : current t b.tables ≡ region_in t es
  mine = rw (i.told.last t)

  mine_open : u.Open s (current t b.tables)
  mine_open = rw mine (i.told.last_open t (λ q. omega arith))

  pub ended_listed : listed (current t b.tables) b.tables.regions ≡ true
  ended_listed = open_listed rc i (current t b.tables) mine_open

  key_over : is_placed (current t b.tables) (over_region t b.tables) ≡ true
  key_over = entry_at (current t b.tables) b.tables.regions ended_listed

  region_over : (j : ℕ) → region_at j (over t b.tables).regions
      ≡ cond (eqb j (current t b.tables)) (over_region t b.tables) (region_at j b.tables.regions)
  unfolding closed outside
  region_over = region_stored (current t b.tables) b.tables.regions (over_region t b.tables) ended_listed key_over

  listed_over : (j : ℕ) → listed j (over t b.tables).regions ≡ listed j b.tables.regions
  unfolding closed outside
  listed_over = listed_stored (current t b.tables) b.tables.regions (over_region t b.tables) ended_listed key_over

  -- what the end leaves alone of the region is left alone of each
  part_over : {A : Type 0} (f : Region → A) → f (over_region t b.tables) ≡ f (region_at (current t b.tables) b.tables.regions)
      → (j : ℕ) → f (region_at j (over t b.tables).regions) ≡ f (region_at j b.tables.regions)
  part_over f e j =
      rw (region_over j) (test (eqb j (current t b.tables)) (λ d. rw (d, eqb-true j (current t b.tables) d) e) (λ d. rw d))

  good_over : GoodRegion (over_region t b.tables)
  good_over =
      let g : GoodRegion (region_at (current t b.tables) b.tables.regions) = i.shape.regions.good (place_of (current t b.tables) b.tables.regions) in
      record {
        free = λ e. absurd (eqb-false (current t b.tables) 0 (listed_key (current t b.tables) b.tables.regions ended_listed) (sym (key_at (current t b.tables) b.tables.regions ended_listed) ∙ e));
        deps = g.deps;
        slots = g.slots;
        distinct = g.distinct;
        finished = λ e. (refl, (g.finished e).1);
      }

  thread_over : (j : ℕ) → thread_at j (over t b.tables) ≡ cond (eqb j t) (over_thread t b.tables) (thread_at j b.tables)
  unfolding closed outside
  thread_over = thread_stored t (over_thread t b.tables) b.tables (omega (arith, threads_8 b.tables i.shape, i.shape.threads.count))

  shape_over : Shape (over t b.tables)
  unfolding closed outside
  shape_over =
      let sh : Shape b.tables = i.shape in
      shape_kept b.tables _ refl refl
      (regions_stored (current t b.tables) b.tables.regions (over_region t b.tables) ended_listed key_over good_over
      (once_at (current t b.tables) sh) sh.regions)
      (threads_stored t (over_thread t b.tables) b.tables lt (sh.threads.logs t) sh) sh.owner sh.lock sh

  depth_over : (j : ℕ) → depth_in j (Closes t ∷ es) ≡ cond (eqb j t) 0 (depth_in j es)
  depth_over j = rw (depth_closes t j es, eqb_swap t j) (test (eqb j t) (λ d. rw (d, eqb-true j t d, d1)) (λ d. rw d))

  told_over : Told (with_tables (over t b.tables) b) (Closes t ∷ es) (u.with_over (put (current t b.tables) true s.over) s)
      (record { writes = h.writes; ends = current t b.tables ∷ h.ends; uses = h.uses })
  unfolding opened_in writes_in ends_in uses_in lines_in closed outside
  told_over =
      record {
        depth = λ j. rw (thread_over j, depth_over j)
            (test (eqb j t) (λ d. rw (d, i.told.depth t, d1)) (λ d. rw d (i.told.depth j)));
        last = λ j. rw (thread_over j, opened_closes t j es) (test (eqb j t) (λ d. rw (d, eqb-true j t d) (i.told.last t)) (λ d. rw d (i.told.last j)));
        numbers = i.told.numbers;
        lines = i.told.lines;
        born = i.told.born;
        ends = rw (d1, mine, i.told.ends);
        writes = i.told.writes;
        uses = i.told.uses;
        open_last = λ k p. test (eqb k (current t b.tables))
            (λ d. absurd (true≢false (rw d at p.goes_on)))
            (λ d. let z = i.told.open_last k (record { began = p.began; goes_on = rw d at p.goes_on }) in
            let x : eqb (thread_of k) t ≡ false
            = ne_eqb (thread_of k) t (λ q. eqb-false k (current t b.tables) d (z.0 ∙ rw (q, mine))) in
            (z.0, rw (depth_over (thread_of k), x) z.1));
        last_open = λ j p. test (eqb j t)
            (λ d. absurd (p (rw (depth_over j, d))))
            (λ d. let z = i.told.last_open j (rw (depth_over j, d) at p) in
            let x : eqb (region_in j es) (current t b.tables) ≡ false
            = ne_eqb (region_in j es) (current t b.tables)
            (λ q. eqb-false j t d (sym (key_thread j (opened_in j es) (omega (arith, i.told.numbers j))) ∙ rw (q, mine) (key_thread t (opened_in t es) (omega (arith, i.told.numbers t))))) in
            record { began = z.began; goes_on = rw x z.goes_on });
        owner = i.told.owner;
      }

  sim_over : Sim (with_tables (over t b.tables) b) (Closes t ∷ es) (u.with_over (put (current t b.tables) true s.over) s)
      (record { writes = h.writes; ends = current t b.tables ∷ h.ends; uses = h.uses })
  unfolding closed outside owner_of
  sim_over =
      record {
        shape = shape_over;
        memories = memories_same (over t b.tables) i.memories;
        logs = logs_over (λ l. refl) (λ l. refl) (logs_same {b = b}
            (λ j. rw (thread_over j) (test (eqb j t) (λ y. rw (y, eqb-true j t y)) (λ y. rw y))) refl refl i.logs);
        told = told_over;
        cur = i.cur;
        med = i.med;
        lock = i.lock;
        slot = λ l j. rw (part_over (λ r. r.slots) refl j) (i.slot l j);
        dep = λ a d. rw (part_over (λ r. r.deps) refl a) (i.dep a d);
        live = λ j. rw (listed_over j) (i.live j);
        ended = λ j p. rw (region_over j)
            (test (eqb j (current t b.tables)) (λ d. rw d) (λ d. rw d (i.ended j (rw (listed_over j) at p))));
        top = λ l. rw (listed_over (get_or b.tables.owner l 0)) (i.top l);
        waits = i.waits;
      }

  -- the thread's marks are gone
  marks_over : Marks b es → Marks (with_tables (over t b.tables) b) (Closes t ∷ es)
  unfolding has_read_in opened_in
  marks_over w =
      record {
        words = λ j. rw (thread_over j) (test (eqb j t) (λ d. rw d) (λ d. rw d (w.words j)));
        marks = λ j l g. rw (thread_over j, depth_over j)
            (test (eqb j t) (λ d. rw (d, get_or_same {A = ℕ} 4 (l / 64) 0) (bit_zero (l % 64))) (λ d. rw d (w.marks j l g)));
      }

  -- the slots of the other regions are as they were
  rest_over : Rest b → (q l c : ℕ) → eqb q (current t b.tables) ≡ false → (eqb c ripe_count || (region_at q (over t b.tables).regions).ended) ≡ true
      → state_of l (region_at q (over t b.tables).regions).slots ≡ Waiting c → get_or (over t b.tables).lock l false ≡ true
  unfolding closed outside
  rest_over r q l c n e w = r.flown q l c (rw (region_over q, n) at e) (rw (region_over q, n) at w)

  over_listed : listed (current t b.tables) (over t b.tables).regions ≡ true
  over_listed = listed_over (current t b.tables) ∙ ended_listed

-- the end to depth 0, with its flights
pub ends_region : (t : ℕ) (m : Memory) (b : Board) (es : List Account) → refusal b.tables (End t) ≡ 0 → eqb (depth_of t b.tables) 1 ≡ true → Kept m b es
    → Simulated m (end_region t b) (Closes t ∷ es) × Flown (end_region t b)
unfolding tests_of end_region u.act v.note
ends_region t m b es r d k = go k.simulated k.rest
  where
    lt : t < b.tables.size.threads
    lt = leb-false b.tables.size.threads t (passed b.tables (End t) r 3)

    go : Simulated m b es → Rest b
        → Simulated m (flown (current t b.tables) (with_tables (over t b.tables) b)) (Closes t ∷ es)
        × Flown (flown (current t b.tables) (with_tables (over t b.tables) b))
    go (by s h w i) rt =
        let d1 : depth_in t es ≡ 1 = sym (i.told.depth t) ∙ eqb-true (depth_of t b.tables) 1 d in
        let rc = reach w in (
          flights (current t b.tables) (over_listed rc i t lt d1)
              (by _ _ (acted w (λ ks x. other refl x) (marks_over rc i t lt d1) (u.End (current t b.tables)) (u.ends (mine_open rc i t lt d1)) refl) (sim_over rc i t lt d1)),
          flown_rest (current t b.tables) (with_tables (over t b.tables) b) (over_listed rc i t lt d1) (rest_over rc i t lt d1 rt),
        )
