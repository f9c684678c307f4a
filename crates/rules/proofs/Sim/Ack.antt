-- A log acknowledgement as actions of the undo log: `LogAck` of the line's owner, then its flights.
use Rattle.undo.specs.Machine as u
use Rattle.undo.specs.History as v
use Rattle.undo.specs.Machine.{act}
use Rattle.undo.specs.History.{note}
use Prim.Native.Nat.{◌<◌, ℕ}
use mathlib.Core.Path.{◌∙◌, ◌≡◌, ap, refl, sym}
use mathlib.Core.Bool.{◌||◌, cond, false, true}
use mathlib.Core.List.{List, ◌∷◌, map}
use lib.Dec.{eqb, ltb}
use lib.ListN.{get_or, length-map, length-set}
use native.Mathlib.Omega.{arith}
use borrow.Author.Tests.{eq-eqb, eqb-false, eqb-true, leb-false, ltb-false, ltb-true, ne_eqb, not-false}
use Rattle.rules.proofs.Places.{Good, good_free, key_at, listed_key, listed_mapped, region_mapped, region_none, regions_mapped}
use Rattle.rules.proofs.Lists.{any_map, count_map, get_or_map, get_or_set}
use Rattle.rules.proofs.Sim.State.{GoodEntry, GoodRegion, Kept, Logs, Rest, Shape, Sim, Simulated, Told, Watched, by, other}
use Rattle.rules.proofs.Sim.Base.{clear_waits, lines_256, memories_same, shape_kept, thread_stored, threads_8, threads_stored}
use Rattle.rules.proofs.Sim.Flight.{flights, flown_rest}
use Rattle.rules.proofs.Sim.Looks.{acted, marks_same, reach}
use Rattle.rules.proofs.Sim.Parts.{Flown, Owner, owned, owner_is, told_kept, unowned}
use Rattle.rules.proofs.Sim.Write.{top_owner}
use Rattle.rules.proofs.SlotLaws.{distinct_dropped, dropped_none, state_dropped, state_dropped_other}
use Rattle.rules.proofs.Views.{carry_of, entry_at, newest, state_of}
use Rattle.rules.specs.Access.{is_of}
use Rattle.rules.specs.Acknowledge.{dropped, dropped_slot, is_entry, kept, kept_entry, log_ack, unlocked}
use Rattle.rules.specs.History.{Account, Nothing, depth_in, ends_in, has_read_in, lines_in, opened_in, uses_in, writes_in}
use Rattle.rules.specs.Lists.{count}
use Rattle.rules.specs.Refusal.{is_set_up, refusal, tests_of}
use Rattle.rules.specs.Slots.{is_flight}
use Rattle.rules.specs.Tables.{Memory, is_key, line_of, listed, no_entry, no_region, no_thread, owner_of, place_of, region_at, start_lines, thread_at, thread_of, with_slots, with_tables}
use Rattle.rules.specs.declared.Board.{Board}
use Rattle.rules.specs.declared.Entry.{Entry}
use Rattle.rules.specs.declared.Event.TheVariants.{LogAck}
use Rattle.rules.specs.declared.Region.{Region}
use Rattle.rules.specs.declared.SlotState.{SlotState}
use Rattle.rules.specs.declared.SlotState.TheVariants.{Empty, InFlight, Waiting}
use Rattle.rules.specs.declared.Tables.{Tables}
use Rattle.undo.proofs.Laws.{and_true, flip, is_same, never, test}
use Rattle.undo.proofs.Main.{structured}
use Rattle.undo.specs.Table.{any, put}
use Rattle.rules.proofs.Tests.{bad_at, passed}
use Rattle.rules.specs.Measures.{ripe_count}

-- ---- the other regions' flights are dropped

module _ (k l : ℕ) (nz : eqb k 0 ≡ false) where
  dropped_none' : dropped k l no_region ≡ no_region
  unfolding dropped
  dropped_none' = rw (flip k 0 nz)

  dropped_key : (r : Region) → ((dropped k l r).key ≡ r.key) × ((dropped k l r).channel ≡ r.channel)
  unfolding dropped
  dropped_key r = test (is_key k r) (λ d. rw d (refl, refl)) (λ d. rw d (refl, refl))

  dropped_deps : (r : Region) → (dropped k l r).deps ≡ r.deps
  unfolding dropped
  dropped_deps r = test (is_key k r) (λ d. rw d) (λ d. rw d)

  dropped_ended : (r : Region) → (dropped k l r).ended ≡ r.ended
  unfolding dropped
  dropped_ended r = test (is_key k r) (λ d. rw d) (λ d. rw d)

  dropped_good : (r : Region) → GoodRegion r → GoodRegion (dropped k l r)
  unfolding dropped
  dropped_good r g =
      test (is_key k r)
      (λ d. rw d g)
      (λ d. rw d
      (record {
        free = λ e. ap (λ x. with_slots (map (dropped_slot l) x.slots) x) (g.free e);
        deps = g.deps;
        slots = length-map r.slots (dropped_slot l) ∙ g.slots;
        distinct = distinct_dropped l g.distinct;
        finished = λ e. let z = g.finished e in (z.0, dropped_none l r.slots z.1);
      }))

  -- what the slots of region q say after it
  dropped_slots : (q : ℕ) (rs : List Region) → Good rs → listed k rs ≡ true
      → (region_at q (map (dropped k l) rs)).slots ≡ cond (eqb q k) (region_at q rs).slots (map (dropped_slot l) (region_at q rs).slots)
  unfolding dropped
  dropped_slots q rs g in' =
      rw (region_mapped (dropped k l) rs dropped_none' dropped_key q)
      (test (eqb q k) (λ d. rw (d, key ∙ d)) (λ d. rw (d, key ∙ d)))
    where
      key : is_key k (region_at q rs) ≡ eqb q k
      key =
          test (listed q rs)
          (λ e. rw (key_at q rs e))
          (λ e. rw (region_none q rs (good_free rs g) e) (flip k 0 nz ∙ sym (ne_eqb q k (λ p. never (rw p in') e))))

  -- ---- the log entry is persistent

  kept_none : kept_entry k l no_entry ≡ no_entry
  unfolding kept_entry
  kept_none = rw (flip k 0 nz)

  kept_key : (e : Entry) → (kept_entry k l e).key ≡ e.key
  unfolding kept_entry
  kept_key e = test (is_entry k l e) (λ d. rw d) (λ d. rw d)

  kept_line : (e : Entry) → (kept_entry k l e).line ≡ e.line
  unfolding kept_entry
  kept_line e = test (is_entry k l e) (λ d. rw d) (λ d. rw d)

  kept_rank : (e : Entry) → (kept_entry k l e).rank ≡ e.rank
  unfolding kept_entry
  kept_rank e = test (is_entry k l e) (λ d. rw d) (λ d. rw d)

-- the entries of thread x, if that is thread t, and of the others
abbrev kept_in : ℕ → ℕ → ℕ → ℕ → Entry → Entry
kept_in t k l x e = cond (eqb x t) (kept_entry k l e) e

module _ {ts : Tables} (k l : ℕ) (nz : eqb k 0 ≡ false) (sh : Shape ts) (in_t : thread_of k < ts.size.threads) where
  unlocked_thread : (x : ℕ) → thread_at x (unlocked k l ts) ≡ cond (eqb x (thread_of k)) (kept k l (thread_at (thread_of k) ts)) (thread_at x ts)
  unfolding unlocked
  unlocked_thread x = thread_stored (thread_of k) (kept k l (thread_at (thread_of k) ts)) ts (omega (arith, threads_8 ts sh, sh.threads.count)) x

  unlocked_entry : (x j : ℕ) → entry_at x j (unlocked k l ts) ≡ kept_in (thread_of k) k l x (entry_at x j ts)
  unfolding kept
  unlocked_entry x j =
      rw (unlocked_thread x)
      (test (eqb x (thread_of k))
      (λ d. rw (d, eqb-true x (thread_of k) d) (get_or_map (kept_entry k l) (thread_at (thread_of k) ts).log j no_entry no_entry (kept_none k l nz)))
      (λ d. rw d))

  unlocked_count : (x q : ℕ) → count (is_of q) (thread_at x (unlocked k l ts)).log ≡ count (is_of q) (thread_at x ts).log
  unfolding kept
  unlocked_count x q =
      rw (unlocked_thread x)
      (test (eqb x (thread_of k))
      (λ d. rw (d, eqb-true x (thread_of k) d) (count_map (is_of q) (is_of q) (kept_entry k l) (thread_at (thread_of k) ts).log (λ e. rw (kept_key k l nz e))))
      (λ d. rw d))

  unlocked_any : (x q z : ℕ) → any (is_entry q z) (thread_at x (unlocked k l ts)).log ≡ any (is_entry q z) (thread_at x ts).log
  unfolding kept
  unlocked_any x q z =
      rw (unlocked_thread x)
      (test (eqb x (thread_of k))
      (λ d. rw (d, eqb-true x (thread_of k) d)
      (any_map (is_entry q z) (is_entry q z) (kept_entry k l) (thread_at (thread_of k) ts).log (λ e. rw (kept_key k l nz e, kept_line k l nz e))))
      (λ d. rw d))

  kept_in_key : (x : ℕ) (e : Entry) → (kept_in (thread_of k) k l x e).key ≡ e.key
  kept_in_key x e = test (eqb x (thread_of k)) (λ d. rw d (kept_key k l nz e)) (λ d. rw d)

  kept_in_line : (x : ℕ) (e : Entry) → (kept_in (thread_of k) k l x e).line ≡ e.line
  kept_in_line x e = test (eqb x (thread_of k)) (λ d. rw d (kept_line k l nz e)) (λ d. rw d)

  kept_in_rank : (x : ℕ) (e : Entry) → (kept_in (thread_of k) k l x e).rank ≡ e.rank
  kept_in_rank x e = test (eqb x (thread_of k)) (λ d. rw d (kept_rank k l nz e)) (λ d. rw d)

  unlocked_shape : Shape (unlocked k l ts)
  unfolding unlocked kept
  unlocked_shape =
      shape_kept ts _ refl refl
      (regions_mapped (dropped k l) ts.regions (dropped_none' k l nz) (dropped_key k l nz) (dropped_good k l nz) (dropped_deps k l nz) sh.regions)
      (threads_stored (thread_of k) (kept k l (thread_at (thread_of k) ts)) ts in_t (length-map (thread_at (thread_of k) ts).log (kept_entry k l) ∙ sh.threads.logs (thread_of k)) sh)
      sh.owner (length-set ts.lock l false ∙ sh.lock) sh

-- ---- the line is unlocked

-- no slot waits, so nothing is left of a line's other slots
emptied : (car : List (List ℕ)) (l : ℕ) (st : SlotState) → (carry_of car l st ≡ u.Waits → ⊥) → carry_of car l (cond (is_flight st) Empty st) ≡ u.Clear
emptied car l Empty h = refl
emptied car l (Waiting c) h = absurd (h refl)
emptied car l InFlight h = refl

waiting_stays : (st : SlotState) (c : ℕ) → cond (is_flight st) Empty st ≡ Waiting c → st ≡ Waiting c
waiting_stays Empty c e = e
waiting_stays (Waiting n) c e = e
waiting_stays InFlight c e = let z : ◌≡◌ {A = ℕ} 0 1 = cc in absurd (omega arith)

module _ {b : Board} {es : List Account} {s : u.State (List ℕ)} {h : v.History (List ℕ)} (l : ℕ) (e : u.Entry (List ℕ)) (ch : List (u.Entry (List ℕ)))
    (i : Sim b es s h) (is : s.chain l ≡ e ∷ ch) (in' : listed e.rid b.tables.regions ≡ true) (loc : get_or b.tables.lock l false ≡ true)
    (inside : l < 256) where
  rid_nz : eqb e.rid 0 ≡ false
  rid_nz = listed_key e.rid b.tables.regions in'

  -- the thread of a region that has an entry
  rid_thread : thread_of e.rid < b.tables.size.threads
  rid_thread =
      test (ltb (thread_of e.rid) b.tables.size.threads)
      (λ d. ltb-true (thread_of e.rid) b.tables.size.threads d)
      (λ d. let z : thread_at (thread_of e.rid) b.tables ≡ no_thread
      = i.shape.threads.range (thread_of e.rid) (ltb-false (thread_of e.rid) b.tables.size.threads d) in
      let y : any (is_entry e.rid l) (thread_at (thread_of e.rid) b.tables).log ≡ true = i.logs.present e.rid l (rw (is, is_same e.rid)) in
      never (rw z at y) (rw (flip e.rid 0 rid_nz)))

  -- another region's slot of the line does not wait
  others_calm : (q : ℕ) → eqb q e.rid ≡ false → s.slot l q ≡ u.Waits → ⊥
  others_calm q n w = eqb-false q e.rid n (sym (rw is at (i.waits l q w)))

  ack_slot : (x q : ℕ) → put l (λ a. cond (eqb a e.rid) (s.slot l a) u.Clear) s.slot x q
      ≡ carry_of b.car x (state_of x (region_at q (map (dropped e.rid l) b.tables.regions)).slots)
  ack_slot x q =
      rw (dropped_slots e.rid l rid_nz q b.tables.regions i.shape.regions.good in')
      (test (eqb x l)
      (λ d. rw (d, eqb-true x l d) (test (eqb q e.rid)
      (λ f. rw f (i.slot l q))
      (λ f. rw (f, state_dropped l (i.shape.regions.good (place_of q b.tables.regions)).distinct)
      (sym (emptied b.car l (state_of l (region_at q b.tables.regions).slots) (λ w. others_calm q f (i.slot l q ∙ w)))))))
      (λ d. rw d (test (eqb q e.rid)
      (λ f. rw f (i.slot x q))
      (λ f. rw (f, state_dropped_other l x (region_at q b.tables.regions).slots d) (i.slot x q)))))

  ack_waits : (x q : ℕ) → put l (λ a. cond (eqb a e.rid) (s.slot l a) u.Clear) s.slot x q ≡ u.Waits → newest (s.chain x) ≡ q
  ack_waits x q w =
      test (eqb x l)
      (λ d. test (eqb q e.rid)
      (λ f. i.waits x q (rw (eqb-true x l d) (rw (d, f) at w)))
      (λ f. absurd (clear_waits (rw (d, f) at w))))
      (λ d. i.waits x q (rw d at w))

  ack_other : (x j : ℕ) (a : Entry) → (a.line ≡ l → eqb a.key e.rid ≡ false) → GoodEntry b s x j a
      → GoodEntry (with_tables (unlocked e.rid l b.tables) b) (act s (u.LogAck e.rid l)) x j a
  unfolding act unlocked
  ack_other x j a n g =
      record {
        thread = g.thread;
        line = g.line;
        rank = rw (unlocked_count e.rid l rid_nz i.shape rid_thread x a.key) g.rank;
        old = g.old;
        flight = g.flight ∙ test (eqb a.line l)
            (λ d. let q : a.line ≡ l = eqb-true a.line l d in
            let o : u.owns a.key (s.chain a.line) ≡ false = rw (q, is) (n q) in
            rw (o, d) (test (s.lock a.line) (λ f. rw f) (λ f. rw f)))
            (λ d. rw d);
      }

  ack_own : (x j : ℕ) (a : Entry) → is_entry e.rid l a ≡ true → GoodEntry b s x j a
      → GoodEntry (with_tables (unlocked e.rid l b.tables) b) (act s (u.LogAck e.rid l)) x j (kept_entry e.rid l a)
  unfolding act unlocked kept_entry
  ack_own x j a d g =
      rw d
      (record {
        thread = g.thread;
        line = g.line;
        rank = rw (unlocked_count e.rid l rid_nz i.shape rid_thread x a.key) g.rank;
        old = g.old;
        flight = rw (and_true (eqb a.key e.rid) (eqb a.line l) d).1;
      })

  ack_entry : (x j : ℕ) (a : Entry) → GoodEntry b s x j a
      → GoodEntry (with_tables (unlocked e.rid l b.tables) b) (act s (u.LogAck e.rid l)) x j (kept_in (thread_of e.rid) e.rid l x a)
  unfolding kept_entry
  ack_entry x j a g =
      test (eqb x (thread_of e.rid))
      (λ d. rw d (test (is_entry e.rid l a)
      (λ f. ack_own x j a f g)
      (λ f. rw f (ack_other x j a (λ q. test (eqb a.key e.rid) (λ z. never (rw (z, eq-eqb a.line l q)) f) (λ z. z)) g))))
      (λ d. rw d (ack_other x j a (λ q. ne_eqb a.key e.rid (λ z. eqb-false x (thread_of e.rid) d (sym g.thread ∙ ap thread_of z))) g))

  ack_logs : Logs (with_tables (unlocked e.rid l b.tables) b) (act s (u.LogAck e.rid l))
  unfolding act
  ack_logs =
      record {
        entry = λ x j n. rw (at x j) (ack_entry x j (entry_at x j b.tables) (i.logs.entry x j (rw (at x j, key x j) at n)));
        empty = λ x j z. rw (at x j, i.logs.empty x j (rw (at x j, key x j) at z)) (test (eqb x (thread_of e.rid)) (λ d. rw d (kept_none e.rid l rid_nz)) (λ d. rw d));
        present = λ q x d. rw (unlocked_any e.rid l rid_nz i.shape rid_thread (thread_of q) q x) (i.logs.present q x d);
        once = λ x j j' n d f. i.logs.once x j j' (rw (at x j, key x j) at n) (rw (at x j, key x j, at x j', key x j') at d) (rw (at x j, line x j, at x j', line x j') at f);
        ranks = λ x j j' n d f. i.logs.ranks x j j' (rw (at x j, key x j) at n) (rw (at x j, key x j, at x j', key x j') at d) (rw (at x j, rank x j, at x j', rank x j') at f);
      }
    where
      at : (x j : ℕ) → entry_at x j (unlocked e.rid l b.tables) ≡ kept_in (thread_of e.rid) e.rid l x (entry_at x j b.tables)
      at = unlocked_entry e.rid l rid_nz i.shape rid_thread

      key : (x j : ℕ) → (kept_in (thread_of e.rid) e.rid l x (entry_at x j b.tables)).key ≡ (entry_at x j b.tables).key
      key x j = kept_in_key e.rid l rid_nz i.shape rid_thread x (entry_at x j b.tables)

      line : (x j : ℕ) → (kept_in (thread_of e.rid) e.rid l x (entry_at x j b.tables)).line ≡ (entry_at x j b.tables).line
      line x j = kept_in_line e.rid l rid_nz i.shape rid_thread x (entry_at x j b.tables)

      rank : (x j : ℕ) → (kept_in (thread_of e.rid) e.rid l x (entry_at x j b.tables)).rank ≡ (entry_at x j b.tables).rank
      rank x j = kept_in_rank e.rid l rid_nz i.shape rid_thread x (entry_at x j b.tables)

  ack_told : Told (with_tables (unlocked e.rid l b.tables) b) (Nothing ∷ es) (act s (u.LogAck e.rid l)) h
  unfolding act unlocked kept depth_in opened_in lines_in ends_in writes_in uses_in
  ack_told =
      told_kept
      (λ x. rw (unlocked_thread e.rid l rid_nz i.shape rid_thread x) (test (eqb x (thread_of e.rid)) (λ d. rw (d, eqb-true x (thread_of e.rid) d)) (λ d. rw d)))
      (λ x. rw (unlocked_thread e.rid l rid_nz i.shape rid_thread x) (test (eqb x (thread_of e.rid)) (λ d. rw (d, eqb-true x (thread_of e.rid) d)) (λ d. rw d)))
      refl (record { depth = λ t. refl; opened = λ t. refl; lines = refl; ends = refl }) refl refl refl i.told.writes i.told.uses i.told.owner i.told

  ack_reads : (x : ℕ) → (thread_at x (unlocked e.rid l b.tables)).reads ≡ (thread_at x b.tables).reads
  unfolding unlocked kept
  ack_reads x = rw (unlocked_thread e.rid l rid_nz i.shape rid_thread x) (test (eqb x (thread_of e.rid)) (λ d. rw (d, eqb-true x (thread_of e.rid) d)) (λ d. rw d))

  ack_sim : Sim (with_tables (unlocked e.rid l b.tables) b) (Nothing ∷ es) (act s (u.LogAck e.rid l)) h
  unfolding act unlocked owner_of
  ack_sim =
      record {
        shape = unlocked_shape e.rid l rid_nz i.shape rid_thread;
        memories = memories_same (unlocked e.rid l b.tables) i.memories;
        logs = ack_logs;
        told = ack_told;
        cur = i.cur;
        med = i.med;
        lock = λ x. rw (get_or_set b.tables.lock l x false false (rw i.shape.lock inside)) (test (eqb x l) (λ d. rw d) (λ d. rw d (i.lock x)));
        slot = ack_slot;
        dep = λ a d. i.dep a d ∙ sym (rw (at a, dropped_deps e.rid l rid_nz (region_at a b.tables.regions)));
        live = λ q. li q ∙ i.live q;
        ended = λ q f. ap (λ r. r.ended) (at q) ∙ dropped_ended e.rid l rid_nz (region_at q b.tables.regions) ∙ i.ended q (sym (li q) ∙ f);
        top = λ x. i.top x ∙ sym (rw (li (get_or b.tables.owner x 0)));
        waits = ack_waits;
      }
    where
      at : (q : ℕ) → region_at q (map (dropped e.rid l) b.tables.regions) ≡ dropped e.rid l (region_at q b.tables.regions)
      at = region_mapped (dropped e.rid l) b.tables.regions (dropped_none' e.rid l rid_nz) (dropped_key e.rid l rid_nz)

      li : (q : ℕ) → listed q (map (dropped e.rid l) b.tables.regions) ≡ listed q b.tables.regions
      li = listed_mapped (dropped e.rid l) b.tables.regions (dropped_none' e.rid l rid_nz) (dropped_key e.rid l rid_nz)

  -- what waits of the other regions waits on a locked line
  ack_rest : Rest b → (q x n : ℕ) → eqb q e.rid ≡ false → (eqb n ripe_count || (region_at q (unlocked e.rid l b.tables).regions).ended) ≡ true
      → state_of x (region_at q (unlocked e.rid l b.tables).regions).slots ≡ Waiting n → get_or (unlocked e.rid l b.tables).lock x false ≡ true
  unfolding unlocked
  ack_rest re q x n ne en w =
      rw (get_or_set b.tables.lock l x false false (rw i.shape.lock inside))
      (test (eqb x l)
      (λ d. absurd (others_calm q ne (i.slot l q ∙ ap (carry_of b.car l) (waiting_stays (state_of l (region_at q b.tables.regions).slots) n
      (sym (state_dropped l (i.shape.regions.good (place_of q b.tables.regions)).distinct) ∙ (rw (slots, ne, eqb-true x l d) at w))))))
      (λ d. rw d (re.flown q x n ended (sym (state_dropped_other l x (region_at q b.tables.regions).slots d) ∙ (rw (slots, ne) at w)))))
    where
      slots : (region_at q (map (dropped e.rid l) b.tables.regions)).slots
          ≡ cond (eqb q e.rid) (region_at q b.tables.regions).slots (map (dropped_slot l) (region_at q b.tables.regions).slots)
      slots = dropped_slots e.rid l rid_nz q b.tables.regions i.shape.regions.good in'

      ended : (eqb n ripe_count || (region_at q b.tables.regions).ended) ≡ true
      ended =
          ap (λ z. eqb n ripe_count || z)
          (sym (ap (λ r. r.ended) (region_mapped (dropped e.rid l) b.tables.regions (dropped_none' e.rid l rid_nz) (dropped_key e.rid l rid_nz) q)
          ∙ dropped_ended e.rid l rid_nz (region_at q b.tables.regions))) ∙ en

  unlocked_listed : listed e.rid (unlocked e.rid l b.tables).regions ≡ true
  unfolding unlocked
  unlocked_listed = rw (listed_mapped (dropped e.rid l) b.tables.regions (dropped_none' e.rid l rid_nz) (dropped_key e.rid l rid_nz) e.rid) in'

-- ---- an accepted log acknowledgement, before what becomes done or commits

pub log_ack_lem : (l : ℕ) (m : Memory) (b : Board) (es : List Account) → refusal b.tables (LogAck l) ≡ 0 → Kept m b es
    → Simulated m (log_ack l b) (Nothing ∷ es) × Flown (log_ack l b)
unfolding tests_of log_ack note depth_in opened_in has_read_in
log_ack_lem l m b es ref kept = go kept.simulated
  where
    p : (n : ℕ) → bad_at n (tests_of b.tables (LogAck l)) ≡ false
    p = passed b.tables (LogAck l) ref

    loc : get_or b.tables.lock l false ≡ true
    loc = not-false (get_or b.tables.lock l false) (p 22)

    inside : l < 256
    inside = omega (arith, leb-false b.tables.size.lines l (p 4), lines_256 b.tables (not-false (is_set_up b.tables) (p 6)))

    go : Simulated m b es → Simulated m (log_ack l b) (Nothing ∷ es) × Flown (log_ack l b)
    go (by s h w i) = pass (owner_is (reach w) i l)
      where
        pass : Owner b s l → Simulated m (log_ack l b) (Nothing ∷ es) × Flown (log_ack l b)
        pass (unowned q o) = absurd ((structured (λ x. line_of x (start_lines m)) s h (reach w)).lock_logged l (i.lock l ∙ loc) q)
        pass (owned e ch q o bo dn in') =
            let k : get_or b.tables.owner l 0 ≡ e.rid = top_owner e.rid l i (listed_key e.rid b.tables.regions in') (rw q) in
            rw k (
              flights e.rid (unlocked_listed l e ch i q in' loc inside)
                  (by (act s (u.LogAck e.rid l)) h (watched e ch q in') (ack_sim l e ch i q in' loc inside)),
              flown_rest e.rid (with_tables (unlocked e.rid l b.tables) b) (unlocked_listed l e ch i q in' loc inside)
                  (ack_rest l e ch i q in' loc inside kept.rest),
            )
          where
            watched : (e : u.Entry (List ℕ)) (ch : List (u.Entry (List ℕ))) → s.chain l ≡ e ∷ ch → listed e.rid b.tables.regions ≡ true
                → Watched (λ x. line_of x (start_lines m)) (with_tables (unlocked e.rid l b.tables) b) (Nothing ∷ es) (act s (u.LogAck e.rid l)) h
            watched e ch q in' =
                acted w (λ ks x. other refl x) (marks_same (ack_reads l e ch i q in' loc inside) (λ t x. refl)) (u.LogAck e.rid l)
                (u.log_acks (rw (q, is_same e.rid)) (i.lock l ∙ loc)) refl
