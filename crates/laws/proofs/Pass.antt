-- What one pass over a region's slots gives a write: its slot by two searches, and for every list the answer and the slots of a write behind it.
use Rattle.std.specs.Prelude.{None, Option, Some, Ok}
use Prim.Native.Nat.{◌<◌, ℕ}
use mathlib.Core.Path.{◌∙◌, ◌≡◌, ap, refl, sym}
use mathlib.Core.Logic.{◌≢◌}
use mathlib.Core.Bool.{◌||◌, false, false≢true, true, true≢false}
use mathlib.Core.List.{List, [], ◌∷◌}
use lib.ListN.{get_or, length, length-map, set, take}
use lib.Seq.{get_or-set_other, get_or-set_same}
use native.Mathlib.Nat.{zero-add}
use native.Mathlib.Omega.{arith}
use borrow.Author.Tests.{eqb-false}
use Rattle.laws.proofs.Flights.{one_slot}
use Rattle.laws.proofs.Masks.{none_first}
use Rattle.laws.proofs.Reserves.{answered, says}
use Rattle.laws.specs.Laws.{slot_is}
use Rattle.laws.specs.Pass.{ByPass, CountedAt, PassTells, by_two, counts_given, is_free, is_of_line, slot_given, slots_of}
use Rattle.rules.proofs.Lists.{get_or_map, or_none, place_lt}
use Rattle.rules.proofs.Places.{entry_at, listed_stored, region_stored}
use Rattle.rules.proofs.Sim.Access.{current_open}
use Rattle.rules.proofs.Sim.All.{every}
use Rattle.rules.proofs.Sim.Parts.{open_listed}
use Rattle.rules.proofs.Sim.State.{Simulated, by}
use Rattle.rules.proofs.Sim.Looks.{reach}
use Rattle.rules.proofs.SlotWrites.{search_free, search_named}
use Rattle.rules.proofs.Tests.{passed}
use Rattle.rules.specs.Access.{logged, needs_log, stored, stored_in, write, wrote}
use Rattle.rules.specs.Flight.{flown}
use Rattle.rules.specs.History.{Account}
use Rattle.rules.specs.Record.{read_record}
use Rattle.rules.specs.Refusal.{depth_of, first_bad, refusal, tests_of}
use Rattle.rules.specs.Slots.{counted_slot, flown_slot, flown_slots, is_full, renewed, slot_for, written}
use Rattle.rules.specs.Step.{apply, step, step_by, step_event}
use Rattle.rules.specs.Tables.{Memory, current, is_placed, listed, no_slot, place_of, region_at, with_line, with_slots, with_state}
use Rattle.rules.specs.declared.Board.{Board}
use Rattle.rules.specs.declared.Event.TheVariants.{Write}
use Rattle.rules.specs.declared.Region.{Region}
use Rattle.rules.specs.declared.Slot.{Slot}
use Rattle.rules.specs.declared.SlotState.TheVariants.{Waiting}
use Rattle.rules.specs.declared.Tables.{Tables}
use Rattle.undo.proofs.Laws.{is_same, test}
use Rattle.undo.specs.Table.{any}

-- ---- the slot

by_two_lem : (l : ℕ) (ss : List Slot) → slot_for l ss ≡ by_two l ss
by_two_lem l ss =
    test (any (is_of_line l) ss)
    (λ e. rw e (search_named l None 0 ss e ∙ ap Some (zero-add _)))
    (λ e. rw e (search_free l 0 ss e ∙ test (any is_free ss) (λ f. rw f (ap Some (zero-add _))) (λ f. rw f)))

is_full_lem : (f : Option ℕ) → is_full f ≡ true → f ≡ None
is_full_lem (Some k) e = absurd (false≢true e)
is_full_lem None e = refl

-- a slot found is one of the slots
found_below : (l j : ℕ) (ss : List Slot) → slot_for l ss ≡ Some j → j < length ss
found_below l j ss e =
    test (any (is_of_line l) ss)
    (λ d. at (place_lt (is_of_line l) ss d) (sym (search_named l None 0 ss d ∙ ap Some (zero-add _)) ∙ e))
    (λ d. test (any is_free ss)
    (λ f. at (place_lt is_free ss f) (rw (d, f) at (sym (by_two_lem l ss) ∙ e)))
    (λ f. absurd (true≢false (ap is_full (rw (d, f) at (sym (by_two_lem l ss) ∙ e))))))
  where
    at : {i : ℕ} → i < length ss → Some i ≡ Some j → j < length ss
    at {i} h q = let z : i ≡ j = cc in omega arith

-- ---- the answer

module _ (ts : Tables) (t l w mask v : ℕ) where
  abbrev slot : Option ℕ
  slot = slot_for l (region_at (current t ts) ts.regions).slots

  none_left : refusal ts (Write t l w mask v) ≡ 20 → slot ≡ None
  unfolding refusal tests_of
  none_left e =
      let z : (is_full slot || false) ≡ true = says 20 (tests_of ts (Write t l w mask v)) (λ n. omega arith) e in
      is_full_lem slot (sym (or_none (is_full slot)) ∙ z)

  -- where there is none, no test behind 20 is asked
  not_unlogged : slot ≡ None → refusal ts (Write t l w mask v) ≢ 21
  unfolding refusal tests_of
  not_unlogged f e =
      let z : refusal ts (Write t l w mask v) ≡ first_bad (take 12 (tests_of ts (Write t l w mask v))) = rw f in
      eqb-false (first_bad (take 12 (tests_of ts (Write t l w mask v)))) 21
      (sym (or_none _) ∙ none_first (21 ∷ []) (take 12 (tests_of ts (Write t l w mask v))) refl refl)
      (sym z ∙ e)

  not_accepted : slot ≡ None → refusal ts (Write t l w mask v) ≢ 0
  unfolding tests_of
  not_accepted f e = true≢false (sym (ap is_full f) ∙ passed ts (Write t l w mask v) e 20)

-- ---- the slots after an accepted write

flown_slots_lem : (k : ℕ) (b : Board) → listed k b.tables.regions ≡ true
    → slots_of k (flown k b) ≡ flown_slots b.tables.lock (region_at k b.tables.regions).ended (slots_of k b)
unfolding flown
flown_slots_lem k b in' = ap (λ (x : Region). x.slots) here
  where
    rs : List Region
    rs = b.tables.regions

    r : Region
    r = with_slots (flown_slots b.tables.lock (region_at k rs).ended (slots_of k b)) (region_at k rs)

    here : region_at k (set rs (place_of k rs) r) ≡ r
    here = region_stored k rs r in' (entry_at k rs in') k ∙ rw (is_same k)

module _ (t l : ℕ) (f : List ℕ → List ℕ) (b : Board) (in' : listed (current t b.tables) b.tables.regions ≡ true) where
  abbrev k : ℕ
  k = current t b.tables

  abbrev rs : List Region
  rs = b.tables.regions

  abbrev r' : Region
  r' = wrote k l b.tables (region_at k rs)

  placed : is_placed k r' ≡ true
  unfolding wrote
  placed = entry_at k rs in'

  stored_at : region_at k (set rs (place_of k rs) r') ≡ r'
  stored_at = region_stored k rs r' in' placed k ∙ rw (is_same k)

  still_in : listed k (set rs (place_of k rs) r') ≡ true
  still_in = listed_stored k rs r' in' placed k ∙ in'

  abbrev slots' : List Slot
  slots' = written (renewed l (region_at k rs).recent) l (slots_of k b)

  flown_wrote : (b' : Board) → b'.tables.regions ≡ set rs (place_of k rs) r' → (region_at k rs).ended ≡ false
      → slots_of k (flown k b') ≡ flown_slots b'.tables.lock false slots'
  unfolding wrote
  flown_wrote b' e going =
      flown_slots_lem k b' (rw e still_in)
      ∙ ap (λ (x : Region). flown_slots b'.tables.lock x.ended x.slots) (ap (region_at k) e ∙ stored_at)
      ∙ ap (λ x. flown_slots b'.tables.lock x slots') going

  write_slots : (region_at k rs).ended ≡ false → slots_of k (write t l f b) ≡ flown_slots (write t l f b).tables.lock false slots'
  unfolding write stored logged flown
  write_slots going =
      test (needs_log k l b.tables)
      (λ d. rw d (flown_wrote (stored k r' l f (logged t k l b)) refl going))
      (λ d. rw d (flown_wrote (stored k r' l f b) refl going))

  module _ (going : (region_at k rs).ended ≡ false) (j : ℕ) (e : slot_given k l b ≡ Some j) where
    abbrev waiting : Slot
    waiting = with_state (Waiting 0) (with_line l no_slot)

    taken : slots' ≡ set (counts_given k l b) j waiting
    unfolding written
    taken = rw e

    -- the slot at place i
    slot_after : (i : ℕ) → get_or (slots_of k (write t l f b)) i no_slot ≡ flown_slot (write t l f b).tables.lock false (get_or (set (counts_given k l b) j waiting) i no_slot)
    unfolding flown_slots
    slot_after i =
        ap (λ ss. get_or ss i no_slot) (write_slots going ∙ ap (flown_slots (write t l f b).tables.lock false) taken)
        ∙ get_or_map (flown_slot (write t l f b).tables.lock false) (set (counts_given k l b) j waiting) i no_slot no_slot refl

    found_waits : get_or (slots_of k (write t l f b)) j no_slot ≡ waiting
    found_waits = slot_after j ∙ rw (get_or-set_same (counts_given k l b) j waiting no_slot (rw (length-map (slots_of k b) (counted_slot (renewed l (region_at k rs).recent))) (found_below l j (slots_of k b) e)))

    others_count : (i : ℕ) → i ≢ j → CountedAt k l i b (write t l f b)
    others_count i n = slot_after i ∙ rw (get_or-set_other (counts_given k l b) j i waiting no_slot n)

-- ---- the law

-- a write that is accepted is done, and its region is open
stepped : (b : Board) (r : List ℕ) (t l w mask v : ℕ) → read_record r ≡ Ok (Write t l w mask v) → refusal b.tables (Write t l w mask v) ≡ 0
    → (step b r).board ≡ write t l (stored_in w mask v) b
unfolding step step_event step_by apply
stepped b r t l w mask v q e = rw (q, e)

by_pass : {m : Memory} {b : Board} {es : List Account} (r : List ℕ) (t l w mask v : ℕ) → Simulated m b es → read_record r ≡ Ok (Write t l w mask v)
    → ByPass (current t b.tables) l (step b r).answer.refusal b (step b r).board
unfolding tests_of
by_pass {m} {b} {es} r t l w mask v (by s h x sim) q =
    record {
      none = λ e. none_left ts t l w mask v (says_it e);
      full = λ f. (λ e. not_accepted ts t l w mask v f (says_it e), λ e. not_unlogged ts t l w mask v f (says_it e));
      found = λ e j g. rw (stepped b r t l w mask v q (says_it e)) (found_waits t l change b (in' (says_it e)) (going (says_it e)) j g);
      before = λ e i j g n. other e i j g (λ z. omega arith);
      behind = λ e i j g n. other e i j g (λ z. omega arith);
    }
  where
    ts : Tables
    ts = b.tables

    change : List ℕ → List ℕ
    change = stored_in w mask v

    says_it : {n : ℕ} → (step b r).answer.refusal ≡ n → refusal ts (Write t l w mask v) ≡ n
    says_it e = sym (answered b r (Write t l w mask v) q) ∙ e

    deep : refusal ts (Write t l w mask v) ≡ 0 → depth_of t ts ≢ 0
    deep e = eqb-false (depth_of t ts) 0 (passed ts (Write t l w mask v) e 12)

    in' : refusal ts (Write t l w mask v) ≡ 0 → listed (current t ts) ts.regions ≡ true
    in' e = open_listed (reach x) sim (current t ts) (current_open t l (reach x) sim (deep e))

    going : refusal ts (Write t l w mask v) ≡ 0 → (region_at (current t ts) ts.regions).ended ≡ false
    going e = sim.ended (current t ts) (in' e) ∙ (current_open t l (reach x) sim (deep e)).goes_on

    other : (step b r).answer.refusal ≡ 0 → (i j : ℕ) → slot_given (current t ts) l b ≡ Some j → i ≢ j → CountedAt (current t ts) l i b (step b r).board
    other e i j g n =
        rw (stepped b r t l w mask v q (says_it e)) (others_count t l change b (in' (says_it e)) (going (says_it e)) j g i n)

apart : {m : Memory} {b : Board} {es : List Account} → Simulated m b es → (i p q : ℕ) → is_free (slot_is i p b) ≡ false → is_free (slot_is i q b) ≡ false
    → (slot_is i p b).line ≡ (slot_is i q b).line → p ≡ q
apart (by s h x sim) i p q = one_slot (sim.shape.regions.good i).distinct p q

pub pass_tells : PassTells
pass_tells =
    record {
      slot = by_two_lem;
      always = λ m rs bm br r t l w mask v. by_pass r t l w mask v (every m rs bm).simulated;
      one = λ m rs bm br. apart (every m rs bm).simulated;
    }
