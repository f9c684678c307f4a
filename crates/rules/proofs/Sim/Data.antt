-- A data acknowledgement is the undo log's DataAck.
use Rattle.undo.specs.Machine as u
use Rattle.undo.specs.History as v
use Prim.Native.Nat.{◌<◌, ℕ}
use mathlib.Core.Path.{◌∙◌, ◌≡◌, ap, refl, sym}
use mathlib.Core.Logic.{◌≢◌}
use mathlib.Core.Bool.{cond, false, false≢true, true}
use mathlib.Core.List.{List, [], ◌∷◌, map}
use lib.Dec.{eqb}
use lib.ListN.{get_or, length-map, length-set, set}
use native.Mathlib.Omega.{arith}
use borrow.Author.Tests.{eqb-false, eqb-true, leb-false, not-false}
use Rattle.rules.proofs.Places.{Good, Unique, entry_at, key_at, listed_at, listed_key, listed_stored, region_stored}
use Rattle.rules.proofs.Lists.{get_or_set, place_lt, place_true}
use Rattle.rules.proofs.Sim.State.{GoodRegion, Keeps, Kept, Memories, Sim, Simulated, by, other}
use Rattle.rules.proofs.Sim.Base.{clear_waits, lines_256}
use Rattle.rules.proofs.Sim.Commit.{settles}
use Rattle.rules.proofs.Sim.Looks.{acted, marks_same, reach}
use Rattle.rules.proofs.Sim.Parts.{Flown, Quiet, logs_kept, once_at, owner_stored, part_stored, rebuilt, shape_stored, told_kept}
use Rattle.rules.proofs.SlotLaws.{distinct_dropped, dropped_none, flight_carried, flight_state, landed_dropped, state_dropped, state_dropped_other}
use Rattle.rules.proofs.Views.{carry_of, newest, slot_view, state_of}
use Rattle.rules.specs.Acknowledge.{data_ack, dropped_slot, flight_place, kept, landed}
use Rattle.rules.specs.History.{Account, Nothing, depth_in, ends_in, has_read_in, lines_in, opened_in, uses_in, writes_in}
use Rattle.rules.specs.Refusal.{in_flight, is_set_up, refusal, tests_of}
use Rattle.rules.specs.Slots.{carries, is_flight}
use Rattle.rules.specs.Step.{apply}
use Rattle.rules.specs.Tables.{Memory, is_placed, line_of, listed, no_region, place_of, region_at, with_slots}
use Rattle.rules.specs.declared.Board.{Board}
use Rattle.rules.specs.declared.Event.TheVariants.{DataAck}
use Rattle.rules.specs.declared.Region.{Region}
use Rattle.rules.specs.declared.SlotState.TheVariants.{Empty, Waiting}
use Rattle.undo.proofs.Laws.{is_same, test}
use Rattle.undo.specs.Claim.{Reach}
use Rattle.undo.specs.Table.{any, put}
use Rattle.rules.proofs.Tests.{bad_at, passed}

-- region k after the flight of line l has landed, and the board
abbrev landed_region : ℕ → ℕ → Board → Region
landed_region k l b = with_slots (map (dropped_slot l) (region_at k b.tables.regions).slots) (region_at k b.tables.regions)

abbrev landed_board : ℕ → ℕ → Board → Board
landed_board k l b =
    rebuilt (set b.tables.regions (place_of k b.tables.regions) (landed_region k l b)) b.cur (set b.med l (line_of l b.car)) b.car b

quiet_data : (l : ℕ) (es : List Account) → Quiet es (Nothing ∷ es)
unfolding depth_in opened_in lines_in ends_in
quiet_data l es = record { depth = λ t. refl; opened = λ t. refl; lines = refl; ends = refl }

module _ {m : ℕ → List ℕ} {b : Board} {es : List Account} {s : u.State (List ℕ)} {h : v.History (List ℕ)} (k l : ℕ) (rc : Reach m s h) (i : Sim b es s h)
    (ln : l < 256) (in' : listed k b.tables.regions ≡ true) (fl : any (carries l) (region_at k b.tables.regions).slots ≡ true) where
  good_at : GoodRegion (region_at k b.tables.regions)
  good_at = i.shape.regions.good (place_of k b.tables.regions)

  key : is_placed k (landed_region k l b) ≡ true
  key = entry_at k b.tables.regions in'

  in_flight_lem : is_flight (state_of l (region_at k b.tables.regions).slots) ≡ true
  in_flight_lem = sym (flight_carried l good_at.distinct) ∙ fl

  pub flies_here : s.slot l k ≡ u.Flies (line_of l b.car)
  flies_here = i.slot l k ∙ ap (carry_of b.car l) (flight_state (state_of l (region_at k b.tables.regions).slots) in_flight_lem)

  good_landed : GoodRegion (landed_region k l b)
  good_landed =
      record {
        free = λ e. absurd (eqb-false k 0 (listed_key k b.tables.regions in') (sym (key_at k b.tables.regions in') ∙ e));
        deps = good_at.deps;
        slots = length-map (region_at k b.tables.regions).slots (dropped_slot l) ∙ good_at.slots;
        distinct = distinct_dropped l good_at.distinct;
        finished = λ e. let z = good_at.finished e in (z.0, dropped_none l (region_at k b.tables.regions).slots z.1);
      }

  stored_at : (q : ℕ) → region_at q (landed_board k l b).tables.regions ≡ cond (eqb q k) (landed_region k l b) (region_at q b.tables.regions)
  stored_at = region_stored k b.tables.regions (landed_region k l b) in' key

  landed_line : (j : ℕ) → line_of j (landed_board k l b).med ≡ cond (eqb j l) (line_of l b.car) (line_of j b.med)
  landed_line j = get_or_set b.med l j (line_of l b.car) [] (omega (arith, i.memories.med))

  landed_memories : Memories (landed_board k l b)
  landed_memories =
      record {
        cur = i.memories.cur;
        med = length-set b.med l (line_of l b.car) ∙ i.memories.med;
        old = i.memories.old;
        car = i.memories.car;
        cur_lines = i.memories.cur_lines;
        med_lines = λ j n. rw (landed_line j) (test (eqb j l) (λ d. rw d (i.memories.car_lines l ln)) (λ d. rw d (i.memories.med_lines j n)));
        old_lines = i.memories.old_lines;
        car_lines = i.memories.car_lines;
      }

  landed_slot : (j q : ℕ) → put l (put k u.Clear (s.slot l)) s.slot j q ≡ slot_view (landed_board k l b) j q
  landed_slot j q =
      rw (stored_at q)
      (test (eqb q k)
      (λ d. rw (d, eqb-true q k d) (test (eqb j l)
      (λ e. rw (e, eqb-true j l e, state_dropped l good_at.distinct, in_flight_lem, is_same k))
      (λ e. rw (e, state_dropped_other l j (region_at k b.tables.regions).slots e) (i.slot j k))))
      (λ d. rw d (test (eqb j l) (λ e. rw (e, d, eqb-true j l e) (i.slot l q)) (λ e. rw e (i.slot j q)))))

  landed_waits : (j q : ℕ) → put l (put k u.Clear (s.slot l)) s.slot j q ≡ u.Waits → newest (s.chain j) ≡ q
  landed_waits j q w =
      test (eqb j l)
      (λ e. test (eqb q k)
      (λ d. absurd (clear_waits (rw (e, d) at w)))
      (λ d. rw (eqb-true j l e) (i.waits l q (rw (e, d) at w))))
      (λ e. i.waits j q (rw e at w))

  landed_sim : Sim (landed_board k l b) (Nothing ∷ es) (u.act s (u.DataAck k l (line_of l b.car))) h
  unfolding u.act writes_in uses_in
  landed_sim =
      record {
        shape = shape_stored b.tables k (landed_region k l b) in' key good_landed (once_at k i.shape) i.shape;
        memories = landed_memories;
        logs = logs_kept (set b.tables.regions (place_of k b.tables.regions) (landed_region k l b)) b.cur (set b.med l (line_of l b.car)) b.car
            refl refl i.logs;
        told = told_kept (λ t. refl) (λ t. refl) refl (quiet_data l es) refl refl refl i.told.writes i.told.uses i.told.owner i.told;
        cur = i.cur;
        med = λ j. rw (landed_line j) (test (eqb j l) (λ d. rw d) (λ d. rw d (i.med j)));
        lock = i.lock;
        slot = landed_slot;
        dep = λ a d. i.dep a d ∙ sym (rw (part_stored b.tables k (landed_region k l b) in' key (λ x. x.deps) refl a));
        live = λ q. listed_stored k b.tables.regions (landed_region k l b) in' key q ∙ i.live q;
        ended = λ q e. part_stored b.tables k (landed_region k l b) in' key (λ x. x.ended) refl q
            ∙ i.ended q (sym (listed_stored k b.tables.regions (landed_region k l b) in' key q) ∙ e);
        top = λ j. i.top j ∙ sym (owner_stored b.tables k (landed_region k l b) in' key j);
        waits = landed_waits;
      }

  landed_allowed : u.Allowed s (u.DataAck k l (line_of l b.car))
  landed_allowed = u.data_acks flies_here

  landed_flown : Flown b → Flown (landed_board k l b)
  landed_flown f q j c e w =
      test (eqb q k)
      (λ d. test (eqb j l)
      (λ x. absurd (empty_waits (sym (rw (stored_at q, d, eqb-true j l x, state_dropped l good_at.distinct, in_flight_lem)) ∙ w)))
      (λ x. f k j c (rw (stored_at q, d) at e) (rw (stored_at q, d, state_dropped_other l j (region_at k b.tables.regions).slots x) at w)))
      (λ d. f q j c (rw (stored_at q, d) at e) (rw (stored_at q, d) at w))
    where
      empty_waits : Empty ≡ Waiting c → ⊥
      empty_waits e = let z : ◌≡◌ {A = ℕ} 0 1 = cc in omega arith

  -- the region that is found by its flight is region k
  ack_is : flight_place l b.tables.regions ≡ place_of k b.tables.regions → data_ack l b ≡ landed_board k l b
  unfolding data_ack landed
  ack_is q = rw (q, landed_dropped l good_at.distinct fl)

-- where a flight of line l is found
module _ (rs : List Region) (l : ℕ) (g : Good rs) (e : any (λ r. any (carries l) r.slots) rs ≡ true) where
  pub found_flight : any (carries l) (get_or rs (flight_place l rs) no_region).slots ≡ true
  found_flight = place_true (λ r. any (carries l) r.slots) rs no_region e

  pub found_key : (get_or rs (flight_place l rs) no_region).key ≢ 0
  found_key z = false≢true (rw ((g (flight_place l rs)).free z) at found_flight)

  pub found_listed : Unique rs → listed (get_or rs (flight_place l rs) no_region).key rs ≡ true
  found_listed un = listed_at (flight_place l rs) rs un found_key (place_lt (λ r. any (carries l) r.slots) rs e)

pub lands : (l : ℕ) (m : Memory) (b : Board) (es : List Account) → refusal b.tables (DataAck l) ≡ 0 → Kept m b es
    → Simulated m (data_ack l b) (Nothing ∷ es) × Flown (data_ack l b)
unfolding tests_of v.note depth_in opened_in has_read_in
lands l m b es r kept = go kept.simulated
  where
    p : (n : ℕ) → bad_at n (tests_of b.tables (DataAck l)) ≡ false
    p = passed b.tables (DataAck l) r

    ln : l < 256
    ln =
        let z : l < b.tables.size.lines = leb-false b.tables.size.lines l (p 4) in
        omega (arith, lines_256 b.tables (not-false (is_set_up b.tables) (p 6)))

    flying : any (λ r. any (carries l) r.slots) b.tables.regions ≡ true
    flying = not-false (in_flight l b.tables) (p 22)

    -- the region that carries the line
    k : ℕ
    k = (get_or b.tables.regions (flight_place l b.tables.regions) no_region).key

    go : Simulated m b es → Simulated m (data_ack l b) (Nothing ∷ es) × Flown (data_ack l b)
    go (by s h w i) =
        let rc = reach w in
        let in' : listed k b.tables.regions ≡ true = found_listed b.tables.regions l i.shape.regions.good flying i.shape.regions.unique in
        let at : place_of k b.tables.regions ≡ flight_place l b.tables.regions
        = i.shape.regions.unique (flight_place l b.tables.regions) (found_key b.tables.regions l i.shape.regions.good flying) in
        let fl : any (carries l) (region_at k b.tables.regions).slots ≡ true = rw at (found_flight b.tables.regions l i.shape.regions.good flying) in
        rw (ack_is k l rc i ln in' fl (sym at)) (
          by _ _ (acted w (λ ks x. other refl x) (marks_same (λ t. refl) (λ t x. refl)) (u.DataAck k l (line_of l b.car)) (landed_allowed k l rc i ln in' fl) refl)
              (landed_sim k l rc i ln in' fl),
          landed_flown k l rc i ln in' fl kept.rest.flown,
        )

pub keeps_data : (l : ℕ) → Keeps (DataAck l)
unfolding apply
keeps_data l m b es r k = let z = lands l m b es r k in settles z.0 z.1
