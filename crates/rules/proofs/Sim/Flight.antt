-- The flights of a region are an action `Launch` of the undo log.
use Rattle.undo.specs.Machine as u
use Rattle.undo.specs.History as v
use Rattle.undo.specs.Machine.{act}
use Rattle.undo.specs.History.{note}
use Prim.Native.Nat.{ℕ}
use mathlib.Core.Path.{◌∙◌, ◌≡◌, ap, refl, sym}
use mathlib.Core.Bool.{Bool, ◌&&◌, ◌||◌, cond, false, false≢true, not, true}
use mathlib.Core.List.{List}
use lib.Dec.{eqb}
use lib.ListN.{get_or, set}
use native.Mathlib.Omega.{arith}
use borrow.Author.Tests.{eqb-false, eqb-true, not-true}
use Rattle.rules.proofs.Places.{entry_at, key_at, listed_key, listed_stored, region_stored}
use Rattle.rules.proofs.Sim.State.{GoodRegion, Memories, Sim, Simulated, by}
use Rattle.rules.proofs.Sim.Looks.{acted_same, reach}
use Rattle.rules.proofs.Sim.Parts.{Flown, logs_kept, no_event, once_at, owner_stored, part_stored, shape_stored, told_kept}
use Rattle.rules.proofs.SlotLaws.{distinct_flown, flight_state, flown_none, length_carried, length_flown, line_carried, off_at, state_flown, takes_off}
use Rattle.rules.proofs.Views.{carry_of, newest, state_of}
use Rattle.rules.specs.Flight.{flown}
use Rattle.rules.specs.Slots.{carried, flown_slots, is_flight, is_ripe}
use Rattle.rules.specs.Tables.{Memory, line_of, listed, place_of, region_at, with_slots}
use Rattle.rules.specs.declared.Board.{Board}
use Rattle.rules.specs.declared.Region.{Region}
use Rattle.rules.specs.declared.SlotState.{SlotState}
use Rattle.rules.specs.declared.SlotState.TheVariants.{Empty, InFlight, Waiting}
use Rattle.undo.proofs.Laws.{and_true, never, test}
use Rattle.undo.proofs.Main.{structured}
use Rattle.undo.specs.Claim.{Reach}
use Rattle.rules.specs.History.{Account}
use Rattle.rules.specs.Measures.{ripe_count}

ripe_waits : (car : List (List ℕ)) (l : ℕ) (ended : Bool) (st : SlotState) → is_ripe ended st ≡ true → carry_of car l st ≡ u.Waits
ripe_waits car l ended Empty e = absurd (false≢true e)
ripe_waits car l ended (Waiting c) e = refl
ripe_waits car l ended InFlight e = absurd (false≢true e)

-- another memory of flights that agrees on the line, where it matters
pub carry_same : (car car' : List (List ℕ)) (l : ℕ) (st : SlotState) → (is_flight st ≡ true → line_of l car' ≡ line_of l car) → carry_of car' l st ≡ carry_of car l st
carry_same car car' l Empty h = refl
carry_same car car' l (Waiting c) h = refl
carry_same car car' l InFlight h = ap u.Flies (h refl)

-- region k's slot for line l flies
abbrev off : ℕ → Board → ℕ → Bool
off k b l = takes_off b.tables.lock (region_at k b.tables.regions).ended l (state_of l (region_at k b.tables.regions).slots)

-- region k after the flights, and the lines that they carry
abbrev flown_region : ℕ → Board → Region
flown_region k b =
    with_slots (flown_slots b.tables.lock (region_at k b.tables.regions).ended (region_at k b.tables.regions).slots) (region_at k b.tables.regions)

abbrev flown_lines : ℕ → Board → List (List ℕ)
flown_lines k b = carried b.tables.lock (region_at k b.tables.regions).ended (region_at k b.tables.regions).slots b.cur b.car

module _ {m : ℕ → List ℕ} {b : Board} {es : List Account} {s : u.State (List ℕ)} {h : v.History (List ℕ)} (k : ℕ)
    (rc : Reach m s h) (i : Sim b es s h) (in' : listed k b.tables.regions ≡ true) where
  good : GoodRegion (region_at k b.tables.regions)
  good = i.shape.regions.good (place_of k b.tables.regions)

  good_flown : GoodRegion (flown_region k b)
  good_flown =
      record {
        free = λ e. absurd (eqb-false k 0 (listed_key k b.tables.regions in') (sym (key_at k b.tables.regions in') ∙ e));
        deps = good.deps;
        slots = length_flown b.tables.lock (region_at k b.tables.regions).ended (region_at k b.tables.regions).slots ∙ good.slots;
        distinct = distinct_flown b.tables.lock (region_at k b.tables.regions).ended good.distinct;
        finished = λ e. let z = good.finished e in
            (z.0, flown_none b.tables.lock (region_at k b.tables.regions).ended (region_at k b.tables.regions).slots z.1);
      }

  line_off : (l : ℕ) → line_of l (flown_lines k b) ≡ cond (off k b l) (line_of l b.cur) (line_of l b.car)
  line_off l = line_carried b.tables.lock (region_at k b.tables.regions).ended b.cur b.car l i.memories.car good.distinct

  off_facts : (l : ℕ) → off k b l ≡ true → (s.slot l k ≡ u.Waits) × (s.lock l ≡ false)
  off_facts l d =
      let z = and_true (is_ripe (region_at k b.tables.regions).ended (state_of l (region_at k b.tables.regions).slots)) (not (get_or b.tables.lock l false)) d in (
        i.slot l k ∙ ripe_waits b.car l (region_at k b.tables.regions).ended (state_of l (region_at k b.tables.regions).slots) z.0,
        i.lock l ∙ not-true (get_or b.tables.lock l false) z.1,
      )

  -- a flight carries the line as it stands, unless the line is locked
  same_line : (l q : ℕ) → state_of l (region_at q b.tables.regions).slots ≡ InFlight → line_of l (flown_lines k b) ≡ line_of l b.car
  same_line l q e =
      rw (line_off l)
      (test (off k b l)
      (λ d. let f : s.slot l q ≡ u.Flies (line_of l b.car) = i.slot l q ∙ ap (carry_of b.car l) e in
      let c : line_of l b.car ≡ s.cur l = (structured m s h rc).flight_current l q (line_of l b.car) (off_facts l d).1 f in
      rw d (sym (c ∙ i.cur l)))
      (λ d. rw d))

  own_slot : (l : ℕ) → cond (off k b l) (u.Flies (s.cur l)) (s.slot l k)
      ≡ carry_of (flown_lines k b) l (cond (off k b l) InFlight (state_of l (region_at k b.tables.regions).slots))
  own_slot l =
      test (off k b l)
      (λ d. rw d (ap u.Flies (i.cur l ∙ sym (line_off l ∙ rw d))))
      (λ d. rw d (i.slot l k ∙ sym (carry_same b.car (flown_lines k b) l (state_of l (region_at k b.tables.regions).slots) (λ f. line_off l ∙ rw d))))

  slot_off : (l q : ℕ) → cond (eqb q k && off k b l) (u.Flies (s.cur l)) (s.slot l q)
      ≡ carry_of (flown_lines k b) l (state_of l (region_at q (set b.tables.regions (place_of k b.tables.regions) (flown_region k b))).slots)
  slot_off l q =
      rw (region_stored k b.tables.regions (flown_region k b) in' (entry_at k b.tables.regions in') q)
      (test (eqb q k)
      (λ d. rw (d, eqb-true q k d, state_flown b.tables.lock (region_at k b.tables.regions).ended l (region_at k b.tables.regions).slots) (own_slot l))
      (λ d. rw d (i.slot l q ∙ sym (carry_same b.car (flown_lines k b) l (state_of l (region_at q b.tables.regions).slots)
      (λ f. same_line l q (flight_state (state_of l (region_at q b.tables.regions).slots) f))))))

  -- a flight that takes off carries a line of current memory
  flown_memories : Memories (flown k b)
  unfolding flown
  flown_memories =
      record {
        cur = i.memories.cur;
        med = i.memories.med;
        old = i.memories.old;
        car = length_carried b.tables.lock (region_at k b.tables.regions).ended (region_at k b.tables.regions).slots b.cur b.car
            ∙ i.memories.car;
        cur_lines = i.memories.cur_lines;
        med_lines = i.memories.med_lines;
        old_lines = i.memories.old_lines;
        car_lines = λ l n. rw (line_off l) (test (off k b l) (λ d. rw d (i.memories.cur_lines l n)) (λ d. rw d (i.memories.car_lines l n)));
      }

  flown_waits : (l q : ℕ) → cond (eqb q k && off k b l) (u.Flies (s.cur l)) (s.slot l q) ≡ u.Waits → newest (s.chain l) ≡ q
  flown_waits l q e = test (eqb q k && off k b l) (λ d. let z : ◌≡◌ {A = ℕ} 0 1 = no_wait (rw d at e) in absurd (omega arith)) (λ d. i.waits l q (rw d at e))
    where
      no_wait : {x : List ℕ} → u.Flies x ≡ u.Waits → ◌≡◌ {A = ℕ} 0 1
      no_wait e = cc

  flown_sim : Sim (flown k b) es (act s (u.Launch (λ l q. eqb q k && off k b l))) h
  unfolding flown act
  flown_sim =
      record {
        shape = shape_stored b.tables k (flown_region k b) in' (entry_at k b.tables.regions in') good_flown (once_at k i.shape) i.shape;
        memories = flown_memories;
        logs = logs_kept (set b.tables.regions (place_of k b.tables.regions) (flown_region k b)) b.cur b.med (flown_lines k b) refl refl i.logs;
        told = told_kept (λ t. refl) (λ t. refl) refl (no_event es) refl refl refl i.told.writes i.told.uses i.told.owner i.told;
        cur = i.cur;
        med = i.med;
        lock = i.lock;
        slot = slot_off;
        dep = λ a d. i.dep a d ∙ sym (rw (part_stored b.tables k (flown_region k b) in' (entry_at k b.tables.regions in') (λ x. x.deps) refl a));
        live = λ q. listed_stored k b.tables.regions (flown_region k b) in' (entry_at k b.tables.regions in') q ∙ i.live q;
        ended = λ q e. part_stored b.tables k (flown_region k b) in' (entry_at k b.tables.regions in') (λ x. x.ended) refl q
            ∙ i.ended q (sym (listed_stored k b.tables.regions (flown_region k b) in' (entry_at k b.tables.regions in') q) ∙ e);
        top = λ l. i.top l ∙ sym (owner_stored b.tables k (flown_region k b) in' (entry_at k b.tables.regions in') l);
        waits = flown_waits;
      }

  flown_allowed : u.Allowed s (u.Launch (λ l q. eqb q k && off k b l))
  flown_allowed = u.launches (λ l q e. (allowed l q e).0) (λ l q e. (allowed l q e).1)
    where
      allowed : (l q : ℕ) → (eqb q k && off k b l) ≡ true → (s.slot l q ≡ u.Waits) × (s.lock l ≡ false)
      allowed l q e = let z = and_true (eqb q k) (off k b l) e in rw (eqb-true q k z.0) (off_facts l z.1)

-- region k's slots fly where they can
pub flights : {m : Memory} {b : Board} {es : List Account} (k : ℕ) → listed k b.tables.regions ≡ true → Simulated m b es → Simulated m (flown k b) es
unfolding flown note
flights {b = b} k in' (by s h w i) =
    by (act s (u.Launch (λ l q. eqb q k && off k b l))) h
    (acted_same w (λ t. refl) (u.Launch (λ l q. eqb q k && off k b l)) (flown_allowed k (reach w) i in') refl) (flown_sim k (reach w) i in')

-- after it no slot of region k that could fly waits
pub flown_rest : (k : ℕ) (b : Board) → listed k b.tables.regions ≡ true
    → ((q l c : ℕ) → eqb q k ≡ false → (eqb c ripe_count || (region_at q b.tables.regions).ended) ≡ true → state_of l (region_at q b.tables.regions).slots ≡ Waiting c
    → get_or b.tables.lock l false ≡ true)
    → Flown (flown k b)
unfolding flown
flown_rest k b in' others q l c en w =
    test (eqb q k)
    (λ d. own (rw (at, d) at en) (rw (at, d, state_flown b.tables.lock (region_at k b.tables.regions).ended l (region_at k b.tables.regions).slots) at w))
    (λ d. others q l c d (rw (at, d) at en) (rw (at, d) at w))
  where
    at : region_at q (set b.tables.regions (place_of k b.tables.regions) (flown_region k b)) ≡ cond (eqb q k) (flown_region k b) (region_at q b.tables.regions)
    at = region_stored k b.tables.regions (flown_region k b) in' (entry_at k b.tables.regions in') q

    stays : (st : SlotState) (e x : Bool) → (eqb c ripe_count || e) ≡ true → cond (is_ripe e st && not x) InFlight st ≡ Waiting c → x ≡ true
    stays st e true d w = refl
    stays Empty e false d w = let z : ◌≡◌ {A = ℕ} 0 1 = cc in absurd (omega arith)
    stays InFlight e false d w = let z : ◌≡◌ {A = ℕ} 0 1 = cc in absurd (omega arith)
    stays (Waiting n) e false d w =
        test (eqb n ripe_count || e)
        (λ y. let v = rw y at w in let z : ◌≡◌ {A = ℕ} 0 1 = cc in absurd (omega arith))
        (λ y. let v : Waiting n ≡ Waiting c = rw y at w in let z : n ≡ c = cc in never d (ap (λ x. eqb x ripe_count || e) (sym z) ∙ y))

    own : (eqb c ripe_count || (region_at k b.tables.regions).ended) ≡ true
        → off_at b.tables.lock (region_at k b.tables.regions).ended l (state_of l (region_at k b.tables.regions).slots) ≡ Waiting c
        → get_or b.tables.lock l false ≡ true
    own d w = stays (state_of l (region_at k b.tables.regions).slots) (region_at k b.tables.regions).ended (get_or b.tables.lock l false) d w
