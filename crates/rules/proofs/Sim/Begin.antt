-- A begin at depth 0 keeps the relation.
use Rattle.undo.specs.Machine as u
use Rattle.undo.specs.History as v
use Prim.Native.Nat.{◌+◌, ◌<◌, suc, zero, ℕ}
use mathlib.Core.Path.{◌∙◌, ◌≡◌, ap, refl, sym}
use mathlib.Core.Logic.{◌≢◌, ◌⊎◌, inl, inr, ⊎_elim}
use mathlib.Core.Bool.{Bool, ◌&&◌, ◌||◌, cond, false, false≢true, not, true, true≢false}
use mathlib.Core.List.{List, ◌∷◌}
use lib.Dec.{eqb, leb, ltb}
use lib.ListN.{get_or, replicate, set}
use native.Mathlib.Omega.{arith}
use borrow.Author.Tests.{eqb-false, eqb-true, le-leb, leb-false, leb-true, lt-leb, ltb-true, ne_eqb, not-false, not-true}
use Rattle.rules.proofs.Lists.{count_room, each_set, get_or_set}
use Rattle.rules.proofs.Places.{eqb_swap, good_free, listed_key, listed_new, once_one, region_new, region_none, regions_new, room_left, unlisted_any}
use Rattle.rules.proofs.Sim.State.{Distinct, Finished, GoodRegion, Keeps, Kept, Rest, Shape, Sim, Simulated, Told, Watched, by, more, none, other}
use Rattle.rules.proofs.Sim.Base.{key_number, key_split, key_thread, logs_over, logs_same, memories_same, owner_born, shape_kept, threads_8, threads_stored}
use Rattle.rules.proofs.Views.{is_opened, state_of}
use Rattle.rules.specs.Begin.{begin, begun, opened}
use Rattle.rules.specs.Commit.{commits}
use Rattle.rules.specs.History.{Account, Opens, depth_in, draws_on, ends_in, has_read_in, lines_in, opened_in, read_in, region_in, uses_in, writes_in}
use Rattle.rules.specs.Lists.{count}
use Rattle.rules.specs.Refusal.{depth_of, refusal, tests_of}
use Rattle.rules.specs.Step.{apply}
use Rattle.rules.specs.Tables.{channel_of, current, free_place, in_channel, is_held, is_key, is_placed, key_of, listed, no_region, no_slot, no_thread, number_of, owner_of, region_at, thread_at, thread_of, with_depth, with_last, with_tables}
use Rattle.rules.specs.declared.Board.{Board}
use Rattle.rules.specs.declared.Event.TheVariants.{Begin}
use Rattle.rules.specs.declared.Region.{Region}
use Rattle.rules.specs.declared.SlotState.TheVariants.{Empty, Waiting}
use Rattle.rules.specs.declared.Tables.{Tables}
use Rattle.rules.specs.declared.Thread.{Thread}
use Rattle.undo.proofs.Laws.{and_true, is_same, never, or_right, or_true, test}
use Rattle.undo.proofs.Main.{structured}
use Rattle.rules.proofs.Sim.OneMore.{depth_opens, opened_opens, read_opens}
use Rattle.rules.proofs.Sim.Looks.{acted, acted_same, marks_same, reach, unread_yet}
use Rattle.undo.specs.Claim.{Reach, Structure}
use Rattle.undo.specs.Machine.{ends}
use Rattle.undo.specs.Table.{any, put}
use Rattle.rules.proofs.Tests.{channel_room, passed}
use Rattle.rules.proofs.Sim.Depth.{keeps_deeper}
use Rattle.rules.specs.Measures.{most_in_channel}

-- ---- begin at depth 0

pub free_slots : (n : ℕ) → Distinct (replicate n no_slot)
free_slots zero = none
free_slots (suc n) = more (λ e. refl) (λ e. absurd (true≢false e)) (omega arith) (free_slots n)

pub state_free : (l : ℕ) → state_of l (replicate 8 no_slot) ≡ Empty
unfolding state_of
state_free l = refl

abbrev pub new_key : ℕ → Tables → ℕ
new_key t ts = key_of t ((thread_at t ts).last + 1)

abbrev pub new_region : ℕ → Tables → Region
new_region t ts = begun (new_key t ts) (current t ts) ts.regions

-- a begin that opens a region has a free entry for it in its channel
pub new_room : (ts : Tables) (t : ℕ) → refusal ts (Begin t) ≡ 0 → eqb (depth_of t ts) 0 ≡ true
    → count (in_channel (new_region t ts).channel) ts.regions < most_in_channel
unfolding tests_of
new_room ts t r d =
    rw (key_number t ((thread_at t ts).last + 1) (omega (arith, leb-false 65535 (thread_at t ts).last (rw d at (passed ts (Begin t) r 14)))))
    (channel_room ts t r d)

module _ {m : ℕ → List ℕ} {b : Board} {es : List Account} {s : u.State (List ℕ)} {h : v.History (List ℕ)} (rc : Reach m s h) (i : Sim b es s h) where
  st : Structure s h
  st = structured m s h rc

  module _ (t : ℕ) (lt : t < b.tables.size.threads) (d0 : depth_in t es ≡ 0) (few : opened_in t es < 65535)
      (room : count (in_channel (new_region t b.tables).channel) b.tables.regions < most_in_channel) where
    k_thread : thread_of (new_key t b.tables) ≡ t
    k_thread = rw (i.told.last t) (key_thread t (opened_in t es + 1) (omega arith))

    k_number : number_of (new_key t b.tables) ≡ opened_in t es + 1
    k_number = rw (i.told.last t) (key_number t (opened_in t es + 1) (omega arith))

    k_nz : eqb (new_key t b.tables) 0 ≡ false
    k_nz = ne_eqb (new_key t b.tables) 0 (λ q. omega arith)

    pub unborn : s.born (new_key t b.tables) ≡ false
    unborn =
        rw (i.told.born (new_key t b.tables), k_number, k_thread)
        (test (eqb (opened_in t es + 1) 0) (λ e. rw e) (λ e. rw e (lt-leb (opened_in t es + 1) (opened_in t es) (omega arith))))

    unover : s.over (new_key t b.tables) ≡ false
    unover = test (s.over (new_key t b.tables)) (λ d. never (st.begun (new_key t b.tables) d) unborn) (λ d. d)

    uncommitted : s.done (new_key t b.tables) ≡ false
    uncommitted = test (s.done (new_key t b.tables)) (λ d. never (st.committed (new_key t b.tables) d) unover) (λ d. d)

    unlisted : listed (new_key t b.tables) b.tables.regions ≡ false
    unlisted = i.live (new_key t b.tables) ∙ rw unborn

    new : any (is_placed (new_key t b.tables)) b.tables.regions ≡ false
    new = unlisted_any (new_key t b.tables) b.tables.regions k_nz unlisted

    free : any (is_key 0) b.tables.regions ≡ true
    free = count_room is_held (is_key 0) b.tables.regions (λ r e. not-false (eqb r.key 0) e)
        (rw i.shape.regions.count (room_left b.tables.regions i.shape.regions (number_of (new_key t b.tables)) room))

    begun_placed : is_placed (new_key t b.tables) (new_region t b.tables) ≡ true
    begun_placed = rw (is_same (new_key t b.tables)) (is_same (channel_of (number_of (new_key t b.tables))))

    good_begun : GoodRegion (new_region t b.tables)
    good_begun =
        record {
          free = λ e. absurd (eqb-false (new_key t b.tables) 0 k_nz e);
          deps = refl;
          slots = refl;
          distinct = free_slots 8;
          finished = λ e. absurd (false≢true e);
        }

    region_begun : (j : ℕ) → region_at j (set b.tables.regions (free_place b.tables.regions) (new_region t b.tables))
        ≡ cond (eqb j (new_key t b.tables)) (new_region t b.tables) (region_at j b.tables.regions)
    region_begun = region_new (new_key t b.tables) b.tables.regions (new_region t b.tables) new k_nz free begun_placed good_begun i.shape.regions.good

    pub listed_begun : (j : ℕ) → listed j (set b.tables.regions (free_place b.tables.regions) (new_region t b.tables))
        ≡ (eqb j (new_key t b.tables) || listed j b.tables.regions)
    listed_begun = listed_new (new_key t b.tables) b.tables.regions (new_region t b.tables) new k_nz free begun_placed

    abbrev opener : Thread
    opener = with_depth 1 (with_last ((thread_at t b.tables).last + 1) (thread_at t b.tables))

    thread_begun : (j : ℕ) → thread_at j (opened t b.tables) ≡ cond (eqb j t) opener (thread_at j b.tables)
    unfolding opened
    thread_begun j = get_or_set b.tables.threads t j opener no_thread (omega (arith, threads_8 b.tables i.shape, i.shape.threads.count))

    shape_begun : Shape (opened t b.tables)
    unfolding opened
    shape_begun =
        let sh : Shape b.tables = i.shape in
        shape_kept b.tables _ refl refl
        (regions_new (new_key t b.tables) b.tables.regions (new_region t b.tables) new k_nz free begun_placed good_begun
        (once_one (cond (listed (current t b.tables) b.tables.regions) (current t b.tables) 0) 3) room sh.regions)
        (threads_stored t opener b.tables lt (sh.threads.logs t) sh) sh.owner sh.lock sh

    depth_begun : (j : ℕ) → depth_in j (Opens t ∷ es) ≡ cond (eqb j t) 1 (depth_in j es)
    depth_begun j = rw (depth_opens t j es, eqb_swap t j) (test (eqb j t) (λ d. rw (d, eqb-true j t d, d0)) (λ d. rw d))

    number_begun : (j : ℕ) → opened_in j (Opens t ∷ es) ≡ cond (eqb j t) (opened_in t es + 1) (opened_in j es)
    number_begun j = rw (opened_opens t j es, eqb_swap t j) (test (eqb j t) (λ d. rw (d, eqb-true j t d, d0)) (λ d. rw d))

    pub born_begun : (j : ℕ) → put (new_key t b.tables) true s.born j ≡ is_opened (Opens t ∷ es) j
    born_begun j =
        rw (number_begun (thread_of j))
        (test (eqb j (new_key t b.tables))
        (λ d. let y : number_of j ≡ opened_in t es + 1 = rw (eqb-true j (new_key t b.tables) d) k_number in
        let x : thread_of j ≡ t = rw (eqb-true j (new_key t b.tables) d) k_thread in
        rw (d, x, is_same t, y, ne_eqb (opened_in t es + 1) 0 (λ q. omega arith)) (sym (le-leb (opened_in t es + 1) (opened_in t es + 1) (omega arith))))
        (λ d. rw d (i.told.born j ∙ test (eqb (thread_of j) t)
        (λ x. rw (x, eqb-true (thread_of j) t x)
        (ap {A = Bool} (λ y. not (eqb (number_of j) 0) && y) (same_below (number_of j) (opened_in t es)
        (λ y. eqb-false j (new_key t b.tables) d (sym (key_split j) ∙ rw (eqb-true (thread_of j) t x, y, i.told.last t))))))
        (λ x. rw x))))
      where
        same_below : (a n : ℕ) → a ≢ n + 1 → leb a n ≡ leb a (n + 1)
        same_below a n ne =
            test (leb a n)
            (λ e. let z = leb-true a n e in rw (e, le-leb a (n + 1) (omega arith)))
            (λ e. let z = leb-false a n e in rw (e, lt-leb a (n + 1) (omega (arith, ne))))

    told_begun : (D : ℕ → ℕ → Bool) (us : List v.Use)
        → ((x q : ℕ) → draws_on x q (uses_in (Opens t ∷ es)) ≡ true → q ≢ 0 → (v.used x q us ≡ true) ⊎ (s.done q ≡ true))
        → Told (with_tables (opened t b.tables) b) (Opens t ∷ es) (u.with_dep D (u.with_born (put (new_key t b.tables) true s.born) s))
        (record { writes = h.writes; ends = h.ends; uses = us })
    unfolding ends_in writes_in lines_in opened
    told_begun D us f =
        record {
          depth = λ j. rw (thread_begun j, depth_begun j) (test (eqb j t) (λ d. rw d) (λ d. rw d (i.told.depth j)));
          last = λ j. rw (thread_begun j, number_begun j) (test (eqb j t) (λ d. rw (d, i.told.last t)) (λ d. rw d (i.told.last j)));
          numbers = λ j. rw (number_begun j) (test (eqb j t) (λ d. rw d (omega arith)) (λ d. rw d (i.told.numbers j)));
          lines = i.told.lines;
          born = born_begun;
          ends = i.told.ends;
          writes = i.told.writes;
          uses = f;
          open_last = λ k p. test (eqb k (new_key t b.tables))
              (λ d. let x : thread_of k ≡ t = rw (eqb-true k (new_key t b.tables) d) k_thread in
              rw (x, number_begun t, depth_begun t, is_same t) (eqb-true k (new_key t b.tables) d ∙ rw (i.told.last t), λ e. omega arith))
              (λ d. let z = i.told.open_last k (record { began = rw d at p.began; goes_on = p.goes_on }) in
              let x : eqb (thread_of k) t ≡ false = ne_eqb (thread_of k) t (λ q. z.1 (rw q d0)) in
              rw (number_begun (thread_of k), depth_begun (thread_of k), x) z);
          last_open = λ j p. test (eqb j t)
              (λ d. rw (eqb-true j t d, number_begun t, is_same t, ← i.told.last t) (record { began = rw (is_same (new_key t b.tables)); goes_on = unover }))
              (λ d. let z = i.told.last_open j (rw (depth_begun j, d) at p) in
              rw (number_begun j, d) (record { began = test (eqb (region_in j es) (new_key t b.tables)) (λ x. rw x) (λ x. rw x z.began); goes_on = z.goes_on }));
          owner = i.told.owner;
        }

    sim_begun : (D : ℕ → ℕ → Bool) (us : List v.Use)
        → ((a q : ℕ) → D a q ≡ cond (eqb a (new_key t b.tables))
        (not (eqb q 0) && eqb q (cond (listed (current t b.tables) b.tables.regions) (current t b.tables) 0)) (s.dep a q))
        → ((x q : ℕ) → draws_on x q (uses_in (Opens t ∷ es)) ≡ true → q ≢ 0 → (v.used x q us ≡ true) ⊎ (s.done q ≡ true))
        → Sim (with_tables (opened t b.tables) b) (Opens t ∷ es) (u.with_dep D (u.with_born (put (new_key t b.tables) true s.born) s))
        (record { writes = h.writes; ends = h.ends; uses = us })
    unfolding opened owner_of
    sim_begun D us g f =
        record {
          shape = shape_begun;
          memories = memories_same (opened t b.tables) i.memories;
          logs = logs_over (λ l. refl) (λ l. refl) (logs_same {b = b}
              (λ j. rw (thread_begun j) (test (eqb j t) (λ y. rw (y, eqb-true j t y)) (λ y. rw y))) refl refl i.logs);
          told = told_begun D us f;
          cur = i.cur;
          med = i.med;
          lock = i.lock;
          slot = λ l j. rw (region_begun j) (test (eqb j (new_key t b.tables))
              (λ d. rw (d, state_free l, eqb-true j (new_key t b.tables) d)
              (i.slot l (new_key t b.tables)
              ∙ rw (region_none (new_key t b.tables) b.tables.regions (good_free b.tables.regions i.shape.regions.good) unlisted, state_free l)))
              (λ d. rw d (i.slot l j)));
          dep = λ a q. rw (g a q, region_begun a) (test (eqb a (new_key t b.tables))
              (λ d. rw d (only q (cond (listed (current t b.tables) b.tables.regions) (current t b.tables) 0)))
              (λ d. rw d (i.dep a q)));
          live = λ j. rw (listed_begun j) (test (eqb j (new_key t b.tables))
              (λ d. rw (d, eqb-true j (new_key t b.tables) d, uncommitted))
              (λ d. rw d (i.live j)));
          ended = λ j p. rw (region_begun j) (test (eqb j (new_key t b.tables))
              (λ d. rw (d, eqb-true j (new_key t b.tables) d) (sym unover))
              (λ d. rw d (i.ended j (rw (listed_begun j, d) at p))));
          top = λ l. rw (listed_begun (get_or b.tables.owner l 0), older l) (i.top l);
          waits = i.waits;
        }
      where
        only : (q d : ℕ) → (not (eqb q 0) && eqb q d) ≡ (not (eqb q 0) && any (eqb q) (d ∷ replicate 3 0))
        only q d = test (eqb q 0) (λ z. rw z) (λ z. rw z (test (eqb q d) (λ y. rw y) (λ y. rw y)))

        -- the new region owns no line
        older : (l : ℕ) → eqb (get_or b.tables.owner l 0) (new_key t b.tables) ≡ false
        older l =
            ne_eqb (get_or b.tables.owner l 0) (new_key t b.tables)
            (λ q. ⊎_elim (λ z. eqb-false (new_key t b.tables) 0 k_nz (sym q ∙ z)) (λ z. never (rw q at z) unborn) (owner_born rc i l))

    -- what the begin adds to the uses
    use_begun : (x q : ℕ) → draws_on x q (uses_in (Opens t ∷ es)) ≡ true
        → ((x ≡ new_key t b.tables) × (q ≡ current t b.tables) × (0 < opened_in t es)) ⊎ (draws_on x q (uses_in es) ≡ true)
    unfolding uses_in
    use_begun x q e =
        test (ltb 0 (opened_in t es))
        (λ d. ⊎_elim
        (λ y. let z = and_true (eqb (key_of t (opened_in t es + 1)) x) (eqb (region_in t es) q) y in
        inl (sym (rw (i.told.last t) (eqb-true (key_of t (opened_in t es + 1)) x z.0)), sym (rw (i.told.last t) (eqb-true (region_in t es) q z.1)), ltb-true 0 (opened_in t es) d))
        (λ y. inr y)
        (or_true (eqb (key_of t (opened_in t es + 1)) x && eqb (region_in t es) q) (draws_on x q (uses_in es)) (rw (d0, d) at e)))
        (λ d. inr (rw (d0, d) at e))

    no_dep : (q : ℕ) → s.dep (new_key t b.tables) q ≡ false
    no_dep q = test (s.dep (new_key t b.tables) q) (λ d. never (st.of_uncommitted (new_key t b.tables) q d).0 unborn) (λ d. d)

    p_thread : thread_of (current t b.tables) ≡ t
    p_thread = rw (i.told.last t) (key_thread t (opened_in t es) (omega arith))

    -- the predecessor, if it is listed, has ended
    p_over : s.born (current t b.tables) ≡ true → s.over (current t b.tables) ≡ true
    p_over z =
        test (s.over (current t b.tables))
        (λ d. d)
        (λ d. absurd ((i.told.open_last (current t b.tables) (record { began = z; goes_on = d })).1 (rw (p_thread, d0))))

    abbrev Opened : Type 0
    Opened =
        (s' : u.State (List ℕ)) × (h' : v.History (List ℕ))
        × (Watched m (with_tables (opened t b.tables) b) (Opens t ∷ es) s' h' × Sim (with_tables (opened t b.tables) b) (Opens t ∷ es) s' h')

    unread : (j l : ℕ) → read_in j l (Opens t ∷ es) ≡ read_in j l es
    unread j l = rw (read_opens t (region_in j (Opens t ∷ es)) l es, depth_begun j, number_begun j) (test (eqb j t)
        (λ d. rw (d, eqb-true j t d, d0) (unread_yet es i.told.numbers t (opened_in t es + 1) l (omega arith) (omega arith)))
        (λ d. rw d))

    -- the new region begins, and the thread's marks stay, which are none
    watched_begun : Watched m b es s h → Watched m (with_tables (opened t b.tables) b) (Opens t ∷ es) (u.act s (u.Begin (new_key t b.tables))) h
    unfolding v.note has_read_in
    watched_begun w =
        acted w (λ ks x. other refl x)
        (marks_same (λ j. rw (thread_begun j) (test (eqb j t) (λ d. rw (d, eqb-true j t d)) (λ d. rw d)))
        (λ j l. unread j l))
        (u.Begin (new_key t b.tables)) u.begins refl

    opens_after : Watched m b es s h → listed (current t b.tables) b.tables.regions ≡ true → Opened
    unfolding u.act v.note
    opens_after w y =
        let z = and_true (s.born (current t b.tables)) (not (s.done (current t b.tables))) (sym (i.live (current t b.tables)) ∙ y) in (
          _,
          _,
          (
            acted_same (watched_begun w) (λ j. refl) (u.Depend (new_key t b.tables) (current t b.tables))
                (u.depends {r = new_key t b.tables} (record { began = rw (is_same (new_key t b.tables)); goes_on = unover }) (p_over z.0) (not-true (s.done (current t b.tables)) z.1)) refl,
            sim_begun (put (new_key t b.tables) (put (current t b.tables) true (s.dep (new_key t b.tables))) s.dep)
                (record { from = new_key t b.tables; on = current t b.tables } ∷ h.uses)
                (λ a q. test (eqb a (new_key t b.tables))
                (λ d. rw (d, y) (test (eqb q (current t b.tables))
                (λ x. rw (x, eqb-true q (current t b.tables) x, listed_key (current t b.tables) b.tables.regions y))
                (λ x. rw (x, no_dep q) (test (eqb q 0) (λ w. rw w) (λ w. rw w)))))
                (λ d. rw d))
                (λ x q e n. ⊎_elim
                (λ w. inl (rw (w.0, w.1, is_same (new_key t b.tables), is_same (current t b.tables))))
                (λ w. ⊎_elim (λ v. inl (or_right (eqb x (new_key t b.tables) && eqb q (current t b.tables)) v)) (λ v. inr v) (i.told.uses x q w n))
                (use_begun x q e)),
          ),
        )

    opens_alone : Watched m b es s h → listed (current t b.tables) b.tables.regions ≡ false → Opened
    unfolding u.act v.note
    opens_alone w y = (
      _,
      _,
      (
        watched_begun w,
        sim_begun s.dep h.uses
            (λ a q. test (eqb a (new_key t b.tables))
            (λ d. rw (d, y, eqb-true a (new_key t b.tables) d, no_dep q) (test (eqb q 0) (λ w. rw w) (λ w. rw w)))
            (λ d. rw d))
            (λ x q e n. ⊎_elim
            (λ w. inr (rw w.1 (old w.2)))
            (λ w. i.told.uses x q w n)
            (use_begun x q e)),
      ),
    )
      where
        old : 0 < opened_in t es → s.done (current t b.tables) ≡ true
        old g =
            let nm : number_of (current t b.tables) ≡ opened_in t es = rw (i.told.last t) (key_number t (opened_in t es) (omega arith)) in
            let bn : s.born (current t b.tables) ≡ true
            = rw (i.told.born (current t b.tables), nm, p_thread, ne_eqb (opened_in t es) 0 (λ q. omega arith)) (le-leb (opened_in t es) (opened_in t es) (omega arith)) in
            let no_more : (s.born (current t b.tables) && not (s.done (current t b.tables))) ≡ false = sym (i.live (current t b.tables)) ∙ y in
            not-false (s.done (current t b.tables)) (rw bn at no_more)

    rest_begun : Rest b → Rest (with_tables (opened t b.tables) b)
    unfolding opened commits
    rest_begun r =
        record {
          flown = λ k l c e w. test (eqb k (new_key t b.tables))
              (λ d. let v : Empty ≡ Waiting c = sym (state_free l) ∙ (rw (region_begun k, d) at w) in let z : ◌≡◌ {A = ℕ} 0 1 = cc in absurd (omega arith))
              (λ d. r.flown k l c (rw (region_begun k, d) at e) (rw (region_begun k, d) at w));
          finished = each_set Finished b.tables.regions (free_place b.tables.regions) (new_region t b.tables) no_region
              (λ e n. absurd (false≢true e)) r.finished;
          settled = each_set (λ x. commits x ≡ false) b.tables.regions (free_place b.tables.regions) (new_region t b.tables) no_region
              (test (is_held (new_region t b.tables)) (λ d. rw d) (λ d. rw d)) r.settled;
        }

pub keeps_begin : (t : ℕ) → Keeps (Begin t)
unfolding apply begin tests_of
keeps_begin t m b es r k =
    test (eqb (depth_of t b.tables) 0)
    (λ d. rw d (opens d k.simulated k.rest))
    (λ d. rw d (keeps_deeper t m b es lt d k))
  where
    lt : t < b.tables.size.threads
    lt = leb-false b.tables.size.threads t (passed b.tables (Begin t) r 3)

    opens : eqb (depth_of t b.tables) 0 ≡ true → Simulated m b es → Rest b → Kept m (with_tables (opened t b.tables) b) (Opens t ∷ es)
    opens d (by s h w i) rt =
        let rc = reach w in
        let d0 : depth_in t es ≡ 0 = sym (i.told.depth t) ∙ eqb-true (depth_of t b.tables) 0 d in
        let few : opened_in t es < 65535 = rw (i.told.last t) at (leb-false 65535 (thread_at t b.tables).last (rw d at (passed b.tables (Begin t) r 14))) in
        let room = new_room b.tables t r d in
        record {
          simulated = test (listed (current t b.tables) b.tables.regions)
              (λ y. let z = opens_after rc i t lt d0 few room w y in by z.0 z.1 z.2.0 z.2.1)
              (λ y. let z = opens_alone rc i t lt d0 few room w y in by z.0 z.1 z.2.0 z.2.1);
          rest = rest_begun rc i t lt d0 few room rt;
        }
