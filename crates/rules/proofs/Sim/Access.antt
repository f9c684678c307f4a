-- A read and a write as actions of the undo log: `Depend` on the line's owner, `Read`, `First` or `Again`, then the flights.
use Rattle.undo.specs.Machine as u
use Rattle.undo.specs.History as v
use mathlib.Core.Option as o
use Rattle.undo.specs.Machine.{act}
use Rattle.undo.specs.History.{note}
use Prim.Native.Nat.{◌<◌, ℕ}
use mathlib.Core.Path.{◌∙◌, ◌≡◌, ap, refl, sym}
use mathlib.Core.Logic.{◌≢◌, ◌⊎◌, inl, inr, ⊎_elim}
use mathlib.Core.Bool.{◌&&◌, ◌||◌, cond, false, not, true}
use mathlib.Core.List.{List, ◌∷◌}
use lib.Dec.{eqb, ltb}
use lib.ListN.{get_or-eq_default, get_or, length, length-set, set}
use borrow.Author.Tests.{eq-eqb, eqb-false, eqb-true, leb-false, ltb-false, ltb-true, not-false}
use native.Mathlib.Omega.{arith}
use lib.Seq.{set-get_or}
use Rattle.rules.proofs.Places.{Once, entry_at, key_at, listed_key, listed_stored, region_stored}
use Rattle.rules.proofs.Lists.{any_none, any_put, any_set, each_set, get_or_set, place_lt, place_true}
use Rattle.rules.proofs.Sim.State.{Finished, GoodRegion, Keeps, Kept, Rest, Shape, Sim, Simulated, Told, Watched, by, depth_of_lem, shape_of}
use Rattle.rules.proofs.Sim.Base.{lines_256, logs_same, no_change, or_zero, rest_alter, shape_thread, sim_alter, thread_stored, threads_8, told_alike, writer_same}
use Rattle.rules.proofs.Sim.Looks.{acted_same, marks_read, reach, watched_read}
use Rattle.rules.proofs.Sim.Parts.{Owner, logs_kept, no_event, once_at, open_listed, owned, owner_is, owner_stored, part_stored, shape_stored, told_kept, unowned}
use Rattle.rules.proofs.Views.{state_of}
use Rattle.rules.specs.Access.{also_read, dependence, is_had, joined, note_read, read}
use Rattle.rules.specs.Acknowledge.{kept}
use Rattle.rules.specs.Commit.{commits}
use Rattle.rules.specs.History.{Account, Uses, depth_in, draws_on, ends_in, last_writer, lines_in, opened_in, region_in, uses_in, writes_in}
use Rattle.rules.specs.Lists.{place}
use Rattle.rules.specs.Refusal.{depth_of, is_foreign_open, is_set_up, no_room_for_dep, tests_of}
use Rattle.rules.specs.Step.{apply}
use Rattle.rules.specs.Tables.{current, is_held, is_placed, line_of, listed, no_region, owner_of, place_of, region_at, start_lines, thread_at, thread_of, with_deps, with_reads, with_tables, with_thread}
use Rattle.rules.specs.declared.Board.{Board}
use Rattle.rules.specs.declared.Event.TheVariants.{Read}
use Rattle.rules.specs.declared.Region.{Region}
use Rattle.rules.specs.declared.Tables.{Tables}
use Rattle.rules.specs.declared.Thread.{Thread}
use Rattle.undo.proofs.Laws.{and_true, flip, is_same, never, or_right, or_true, test}
use Rattle.undo.specs.Claim.{Reach}
use Rattle.undo.specs.Table.{any, put}
use Rattle.rules.proofs.Tests.{bad_at, passed}
use Rattle.rules.specs.Measures.{ripe_count}

-- ---- a dependence joins a set

module _ (o : ℕ) (ds : List ℕ) (nz : eqb o 0 ≡ false) (room : no_room_for_dep o ds ≡ false) where
  -- there is a free place if it is new
  free_dep : any (eqb o) ds ≡ false → any (eqb 0) ds ≡ true
  free_dep n = not-false (any (eqb 0) ds) (rw (nz, n) at room)

  pub joined_any : (d : ℕ) → eqb d 0 ≡ false → any (eqb d) (joined o ds) ≡ (eqb d o || any (eqb d) ds)
  unfolding joined
  joined_any d z =
      test (any (eqb o) ds)
      (λ n. rw (nz, n) (test (eqb d o) (λ e. rw (e, eqb-true d o e) n) (λ e. rw e)))
      (λ n. let f : any (eqb 0) ds ≡ true = free_dep n in
      let x : get_or ds (place (eqb 0) ds) 0 ≡ 0 = sym (eqb-true 0 (get_or ds (place (eqb 0) ds) 0) (place_true (eqb 0) ds 0 f)) in
      rw (nz, n)
      (test (eqb d o)
      (λ e. rw e (any_put (eqb d) ds (place (eqb 0) ds) o (place_lt (eqb 0) ds f) e))
      (λ e. rw e (any_set (eqb d) ds (place (eqb 0) ds) o 0 (rw (e, x, z))))))

  pub joined_once : Once ds → Once (joined o ds)
  unfolding joined
  joined_once f =
      test (any (eqb o) ds)
      (λ n. rw (nz, n) f)
      (λ n. rw (nz, n) (λ a b p q. go n a b (rw (at n a) at p) (rw (at n a, at n b) at q)))
    where
      at : any (eqb o) ds ≡ false → (a : ℕ) → get_or (set ds (place (eqb 0) ds) o) a 0 ≡ cond (eqb a (place (eqb 0) ds)) o (get_or ds a 0)
      at n a = get_or_set ds (place (eqb 0) ds) a o 0 (place_lt (eqb 0) ds (free_dep n))

      new : any (eqb o) ds ≡ false → (a : ℕ) → o ≡ get_or ds a 0 → ⊥
      new n a q =
          test (ltb a (length ds))
          (λ e. eqb-false o (get_or ds a 0) (any_none (eqb o) ds a 0 n (ltb-true a (length ds) e)) q)
          (λ e. eqb-false o 0 nz (q ∙ get_or-eq_default ds 0 (ltb-false a (length ds) e)))

      go : any (eqb o) ds ≡ false → (a b : ℕ) → cond (eqb a (place (eqb 0) ds)) o (get_or ds a 0) ≢ 0
          → cond (eqb a (place (eqb 0) ds)) o (get_or ds a 0) ≡ cond (eqb b (place (eqb 0) ds)) o (get_or ds b 0) → a ≡ b
      go n a b p q =
          test (eqb a (place (eqb 0) ds))
          (λ x. test (eqb b (place (eqb 0) ds))
          (λ y. eqb-true a (place (eqb 0) ds) x ∙ sym (eqb-true b (place (eqb 0) ds) y))
          (λ y. absurd (new n b (rw (x, y) at q))))
          (λ x. test (eqb b (place (eqb 0) ds))
          (λ y. absurd (new n a (sym (rw (x, y) at q))))
          (λ y. f a b (rw x at p) (rw (x, y) at q)))

length_joined : (o : ℕ) (ds : List ℕ) → length (joined o ds) ≡ length ds
unfolding joined
length_joined o ds = test (is_had o ds) (λ e. rw e) (λ e. rw e (length-set ds (place (eqb 0) ds) o))

-- no dependence comes
read_none : (k l : ℕ) (ts : Tables) → dependence k l ts ≡ 0 → read k l ts ≡ ts
unfolding read joined
read_none k l ts e = rw (e, set-get_or ts.regions (place_of k ts.regions) no_region)

-- ---- region k, open, comes to depend on the owner of line l

-- region k may read the line, and may write it if it is not locked
pub data Joined (m : ℕ → List ℕ) (b : Board) (es : List Account) (k l : ℕ) : Type 0 where
  joins : (s : u.State (List ℕ)) (h : v.History (List ℕ)) → Watched m b es s h → Sim b es s h → u.Open s k
      → (u.owns k (s.chain l) || u.follows s.dep k (s.chain l)) ≡ true → Joined m b es k l

module _ {m : ℕ → List ℕ} {b : Board} {es : List Account} {s : u.State (List ℕ)} {h : v.History (List ℕ)} (t l : ℕ) (rc : Reach m s h) (i : Sim b es s h)
    (deep : depth_of t b.tables ≢ 0) where
  pub current_is : current t b.tables ≡ region_in t es
  current_is = rw (i.told.last t)

  pub current_open : u.Open s (current t b.tables)
  current_open = rw current_is (i.told.last_open t (λ e. deep (i.told.depth t ∙ e)))

  -- an owner that is another region has ended
  pub owner_ended : (o : ℕ) → s.born o ≡ true → listed o b.tables.regions ≡ true → is_foreign_open t o b.tables ≡ false
      → eqb o (current t b.tables) ≡ false → s.over o ≡ true
  owner_ended o bo li fo ne =
      test (s.over o) (λ d. d)
      (λ d. let z = (i.told.open_last o (record { began = bo; goes_on = d })).0 in
      test (eqb (thread_of o) t)
      (λ x. never (eq-eqb o (current t b.tables) (z ∙ rw (eqb-true (thread_of o) t x, ← current_is))) ne)
      (λ x. let y : not (region_at o b.tables.regions).ended ≡ false = rw (listed_key o b.tables.regions li, x) at fo in
      sym (i.ended o li) ∙ not-false (region_at o b.tables.regions).ended y))

  -- region o, which has ended, joins the dependences of the current region
  join_other : (o : ℕ) → s.over o ≡ true → s.done o ≡ false → eqb o 0 ≡ false → dependence (current t b.tables) l b.tables ≡ o
      → no_room_for_dep o (region_at (current t b.tables) b.tables.regions).deps ≡ false
      → Sim (with_tables (read (current t b.tables) l b.tables) b) es (act s (u.Depend (current t b.tables) o))
      (note h (u.Depend (current t b.tables) o))
  unfolding read act note
  join_other o ov dn nz de room =
      rw de
      (record {
        shape = shape_stored b.tables k r' in' key good_joined (joined_once o r.deps nz room (once_at k i.shape)) i.shape;
        memories = record {
          cur = i.memories.cur;
          med = i.memories.med;
          old = i.memories.old;
          car = i.memories.car;
          cur_lines = i.memories.cur_lines;
          med_lines = i.memories.med_lines;
          old_lines = i.memories.old_lines;
          car_lines = i.memories.car_lines;
        };
        logs = logs_kept (set b.tables.regions (place_of k b.tables.regions) r') b.cur b.med b.car refl refl i.logs;
        told = told_kept (λ t. refl) (λ t. refl) refl (no_event es) refl refl refl i.told.writes
            (λ x q e n. ⊎_elim (λ y. inl (or_right (eqb x k && eqb q o) y)) (λ y. inr y) (i.told.uses x q e n)) i.told.owner i.told;
        cur = i.cur;
        med = i.med;
        lock = i.lock;
        slot = λ l q. i.slot l q ∙ sym (rw (part_stored b.tables k r' in' key (λ x. x.slots) refl q));
        dep = joined_dep;
        live = λ q. listed_stored k b.tables.regions r' in' key q ∙ i.live q;
        ended = λ q e. part_stored b.tables k r' in' key (λ x. x.ended) refl q ∙ i.ended q (sym (listed_stored k b.tables.regions r' in' key q) ∙ e);
        top = λ l. i.top l ∙ sym (owner_stored b.tables k r' in' key l);
        waits = i.waits;
      })
    where
      k : ℕ
      k = current t b.tables

      r : Region
      r = region_at k b.tables.regions

      r' : Region
      r' = with_deps (joined o r.deps) r

      in' : listed k b.tables.regions ≡ true
      in' = open_listed rc i k current_open

      key : is_placed k r' ≡ true
      key = entry_at k b.tables.regions in'

      good_joined : GoodRegion r'
      good_joined =
          let g : GoodRegion r = i.shape.regions.good (place_of k b.tables.regions) in
          record {
            free = λ e. absurd (eqb-false k 0 (listed_key k b.tables.regions in') (sym (key_at k b.tables.regions in') ∙ e));
            deps = length_joined o r.deps ∙ g.deps;
            slots = g.slots;
            distinct = g.distinct;
            finished = g.finished;
          }

      joined_dep : (a d : ℕ) → put k (put o true (s.dep k)) s.dep a d
          ≡ (not (eqb d 0) && any (eqb d) (region_at a (set b.tables.regions (place_of k b.tables.regions) r')).deps)
      joined_dep a d =
          rw (region_stored k b.tables.regions r' in' key a)
          (test (eqb a k)
          (λ x. rw x (test (eqb d 0)
          (λ z. let n : eqb d o ≡ false = rw (eqb-true d 0 z) (flip o 0 nz) in rw (z, n) (i.dep k d ∙ rw z))
          (λ z. rw (z, joined_any o r.deps nz room d z) (test (eqb d o) (λ y. rw y) (λ y. rw y (i.dep k d ∙ rw z))))))
          (λ x. rw x (i.dep a d)))

module _ {m : ℕ → List ℕ} {b : Board} {es : List Account} {s : u.State (List ℕ)} {h : v.History (List ℕ)} (t l : ℕ) (w : Watched m b es s h) (i : Sim b es s h)
    (deep : depth_of t b.tables ≢ 0) where
  open' : u.Open s (current t b.tables)
  open' = current_open t l (reach w) i deep

  -- an access of line l that is not refused with 17 or 19
  pub join : is_foreign_open t (owner_of l b.tables) b.tables ≡ false
      → no_room_for_dep (dependence (current t b.tables) l b.tables) (region_at (current t b.tables) b.tables.regions).deps ≡ false
      → Joined m (with_tables (read (current t b.tables) l b.tables) b) es (current t b.tables) l
  unfolding act read
  join fo room = go (owner_is (reach w) i l)
    where
      k : ℕ
      k = current t b.tables

      nothing : dependence k l b.tables ≡ 0 → (u.owns k (s.chain l) || u.follows s.dep k (s.chain l)) ≡ true
          → Joined m (with_tables (read k l b.tables) b) es k l
      nothing e f = rw (read_none k l b.tables e) (joins s h w i open' f)

      go : Owner b s l → Joined m (with_tables (read k l b.tables) b) es k l
      go (unowned q o) = nothing (rw o (test (eqb 0 k) (λ d. rw d) (λ d. rw d))) (rw q)
      go (owned e c q o bo dn li) =
          test (eqb e.rid k)
          (λ d. nothing (rw (o, d)) (rw (q, eqb-true e.rid k d, is_same k)))
          (λ d. let ov : s.over e.rid ≡ true = owner_ended t l (reach w) i deep e.rid bo li (rw o at fo) d in
          let de : dependence k l b.tables ≡ e.rid = rw (o, d) in
          joins (act s (u.Depend k e.rid)) (note h (u.Depend k e.rid)) (acted_same w (λ x. refl) (u.Depend k e.rid) (u.depends open' ov dn) refl)
          (join_other t l (reach w) i deep e.rid ov dn (listed_key e.rid b.tables.regions li) de (rw de at room))
          (still_open e) (follows_it e c q d))
        where
          still_open : (e : u.Entry (List ℕ)) → u.Open (act s (u.Depend k e.rid)) k
          still_open e = record { began = open'.began; goes_on = open'.goes_on }

          follows_it : (e : u.Entry (List ℕ)) (c : List (u.Entry (List ℕ))) → s.chain l ≡ e ∷ c → eqb e.rid k ≡ false
              → (u.owns k ((act s (u.Depend k e.rid)).chain l) || u.follows (act s (u.Depend k e.rid)).dep k ((act s (u.Depend k e.rid)).chain l)) ≡ true
          follows_it e c q d = rw (q, flip e.rid k d, is_same k, is_same e.rid)

-- ---- what an access draws on, in both histories

-- region k draws on the last writer of line l
module _ {b : Board} {es : List Account} {s : u.State (List ℕ)} {h : v.History (List ℕ)} (k l : ℕ) (i : Told b es s h) (x q : ℕ) (n : q ≢ 0) where
  uses_later : (w : o.Option ℕ) → v.used x q h.uses ≡ true → v.used x q (v.drawing k w h.uses) ≡ true
  uses_later o.none y = y
  uses_later (o.some p) y = or_right (eqb x k && eqb q p) y

  uses_drawn : (w : o.Option ℕ) → or_zero w ≡ q → x ≡ k → v.used x q (v.drawing k w h.uses) ≡ true
  uses_drawn o.none y z = absurd (n (sym y))
  uses_drawn (o.some p) y z = rw (y, z, is_same k, is_same q)

  pub uses_access : (eqb k x && eqb (last_writer l (writes_in es)) q || draws_on x q (uses_in es)) ≡ true
      → (v.used x q (v.drawing k (v.last_writer l h.writes) h.uses) ≡ true) ⊎ (s.done q ≡ true)
  uses_access d =
      ⊎_elim (λ z. inl (here z)) (λ z. ⊎_elim (λ y. inl (uses_later (v.last_writer l h.writes) y)) (λ y. inr y) (i.uses x q z n))
      (or_true (eqb k x && eqb (last_writer l (writes_in es)) q) (draws_on x q (uses_in es)) d)
    where
      here : (eqb k x && eqb (last_writer l (writes_in es)) q) ≡ true → v.used x q (v.drawing k (v.last_writer l h.writes) h.uses) ≡ true
      here z =
          let y = and_true (eqb k x) (eqb (last_writer l (writes_in es)) q) z in
          uses_drawn (v.last_writer l h.writes)
          (rw i.writes (sym (writer_same l (writes_in es)) ∙ eqb-true (last_writer l (writes_in es)) q y.1)) (sym (eqb-true k x y.0))

-- ---- a read

told_read : {b : Board} {es : List Account} {s : u.State (List ℕ)} {h : v.History (List ℕ)} (t l : ℕ) → Told b es s h
    → Told b (Uses t l ∷ es) (act s (u.Read (region_in t es) l)) (note h (u.Read (region_in t es) l))
unfolding act note depth_in opened_in lines_in ends_in writes_in uses_in
told_read {es = es} t l i =
    told_kept (λ t. refl) (λ t. refl) refl (record { depth = λ t. refl; opened = λ t. refl; lines = refl; ends = refl }) refl refl refl
    i.writes (λ x q d n. uses_access (region_in t es) l i x q n d) i.owner i

read_sim : {b : Board} {es : List Account} {s : u.State (List ℕ)} {h : v.History (List ℕ)} (t l : ℕ) → Sim b es s h
    → Sim b (Uses t l ∷ es) (act s (u.Read (region_in t es) l)) (note h (u.Read (region_in t es) l))
unfolding act
read_sim t l i =
    record {
      shape = i.shape;
      memories = i.memories;
      logs = i.logs;
      told = told_read t l i.told;
      cur = i.cur;
      med = i.med;
      lock = i.lock;
      slot = i.slot;
      dep = i.dep;
      live = i.live;
      ended = i.ended;
      top = i.top;
      waits = i.waits;
    }

pub undone_stays : (r : Region) → r.done ≡ false → commits r ≡ false
unfolding commits
undone_stays r d = test (is_held r) (λ e. rw (e, d)) (λ e. rw e)

-- an open region is not done
pub open_undone : {b : Board} {es : List Account} {s : u.State (List ℕ)} {h : v.History (List ℕ)} (k : ℕ) → Sim b es s h → u.Open s k
    → listed k b.tables.regions ≡ true → (region_at k b.tables.regions).done ≡ false
open_undone {b} k i o in' =
    test (region_at k b.tables.regions).done
    (λ d. never (sym (i.ended k in') ∙ ((i.shape.regions.good (place_of k b.tables.regions)).finished d).0) (o).goes_on)
    (λ d. d)

-- the current region stores other dependences
pub rest_read : {b : Board} {es : List Account} {s : u.State (List ℕ)} {h : v.History (List ℕ)} (k l : ℕ) → Sim b es s h → u.Open s k
    → listed k b.tables.regions ≡ true → Rest b → Rest (with_tables (read k l b.tables) b)
unfolding read
rest_read {b} k l i o in' r =
    record {
      flown = λ q x c e w. r.flown q x c
          (ap (λ y. eqb c ripe_count || y) (sym (part_stored b.tables k r' in' (entry_at k b.tables.regions in') (λ y. y.ended) refl q)) ∙ e)
          (ap (state_of x) (sym (part_stored b.tables k r' in' (entry_at k b.tables.regions in') (λ y. y.slots) refl q)) ∙ w);
      finished = each_set Finished b.tables.regions (place_of k b.tables.regions) r' no_region
          (λ e n. never e (i.ended k in' ∙ (o).goes_on)) r.finished;
      settled = each_set (λ y. commits y ≡ false) b.tables.regions (place_of k b.tables.regions) r' no_region
          (undone_stays r' (open_undone k i o in')) r.settled;
    }
  where
    r' : Region
    r' = with_deps (joined (dependence k l b.tables) (region_at k b.tables.regions).deps) (region_at k b.tables.regions)

-- the line is marked: nothing else changes
marked_sim : {b : Board} {es : List Account} {s : u.State (List ℕ)} {h : v.History (List ℕ)} (t l : ℕ) → t < length b.tables.threads → t < b.tables.size.threads
    → Sim b es s h → Sim (with_tables (note_read t l b.tables) b) es s h
unfolding note_read
marked_sim {b} {es} t l g lt i =
    sim_alter {b = b} b.tables.size b.tables.cut b.tables.clock (set b.tables.threads t th)
    (shape_thread t th b.tables lt (i.shape.threads.logs t) i.shape)
    (logs_same {b = b} (λ x. rw (at x) (test (eqb x t) (λ d. rw (d, eqb-true x t d)) (λ d. rw d))) refl refl i.logs)
    (told_alike {b = b} (no_change es)
    (λ x. rw (at x) (test (eqb x t) (λ d. rw (d, eqb-true x t d) (i.told.depth t)) (λ d. rw d (i.told.depth x))))
    (λ x. rw (at x) (test (eqb x t) (λ d. rw (d, eqb-true x t d)) (λ d. rw d)))
    i.told.lines refl i.told) i
  where
    th : Thread
    th = with_reads (also_read l (thread_at t b.tables).reads) (thread_at t b.tables)

    at : (x : ℕ) → thread_at x (with_thread t th b.tables) ≡ cond (eqb x t) th (thread_at x b.tables)
    at = thread_stored t th b.tables g

pub read_keeps : (t l w : ℕ) → Keeps (Read t l w)
unfolding apply tests_of read note_read
read_keeps t l w m b es ref kept = go kept.simulated
  where
    p : (n : ℕ) → bad_at n (tests_of b.tables (Read t l w)) ≡ false
    p = passed b.tables (Read t l w) ref

    deep : depth_of t b.tables ≢ 0
    deep = eqb-false (depth_of t b.tables) 0 (p 12)

    shape : Shape b.tables
    shape = shape_of kept.simulated

    lt : t < length b.tables.threads
    lt = omega (arith, leb-false b.tables.size.threads t (p 3), threads_8 b.tables shape, shape.threads.count)

    inside : l < 256
    inside = omega (arith, leb-false b.tables.size.lines l (p 4), lines_256 b.tables (not-false (is_set_up b.tables) (p 6)))

    -- the tables after the join, before the mark
    joined' : Tables
    joined' = read (current t b.tables) l b.tables

    after : current t b.tables ≡ region_in t es → Joined (λ x. line_of x (start_lines m)) (with_tables joined' b) es (current t b.tables) l
        → Simulated m (with_tables (note_read t l joined') b) (Uses t l ∷ es)
    after q (joins s h watched i op f) =
        by (act s (u.Read (region_in t es) l)) (note h (u.Read (region_in t es) l))
        (watched_read t l watched i (rw q at op) (u.reads {r = region_in t es} {l = l} (rw q at f)) (marks_read t l inside lt (λ e. deep (depth_of_lem kept.simulated t ∙ e)) i.told.numbers watched.marks))
        (read_sim t l (marked_sim t l lt (leb-false b.tables.size.threads t (p 3)) i))

    go : Simulated m b es → Kept m (with_tables (note_read t l joined') b) (Uses t l ∷ es)
    go (by s h watched i) =
        let o : u.Open s (current t b.tables) = current_open t l (reach watched) i deep in
        record {
          simulated = after (current_is t l (reach watched) i deep) (join t l watched i deep (p 17) (p 19));
          rest = rest_alter {b = with_tables joined' b} b.tables.size b.tables.cut b.tables.clock (note_read t l joined').threads
              (rest_read (current t b.tables) l i o (open_listed (reach watched) i (current t b.tables) o) kept.rest);
        }
