-- The slots of a region, seen by line: what a write, a flight, a dropped and a landed flight make of them.
use Prim.Native.Nat.{◌<◌, ℕ}
use mathlib.Core.Path.{◌∙◌, ◌≡◌, ap, refl, sym}
use mathlib.Core.Bool.{Bool, ◌&&◌, cond, false, false≢true, not, true, true≢false}
use mathlib.Core.List.{List, [], ◌∷◌, map}
use lib.Dec.{eqb, lit<}
use lib.ListN.{get_or, length, length-map, length-set, set}
use borrow.Author.Tests.{eq-eqb, eqb-false, eqb-true, not-false}
use lib.Seq.{get_or-set_other, get_or-set_same}
use Rattle.rules.proofs.Sim.State.{Distinct, more, none}
use Rattle.rules.proofs.Views.{carry_of, state_of}
use Rattle.rules.specs.Acknowledge.{dropped_slot}
use Rattle.rules.specs.Lists.{place}
use Rattle.rules.specs.Slots.{carried, carries, counted, counted_slot, flies, flown_slot, flown_slots, is_empty, is_flight, is_ripe, names}
use Rattle.rules.specs.Tables.{line_of, no_slot}
use Rattle.rules.specs.declared.Slot.{Slot}
use Rattle.rules.specs.declared.SlotState.{SlotState}
use Rattle.rules.specs.declared.SlotState.TheVariants.{Empty, InFlight, Waiting}
use Rattle.undo.proofs.Laws.{and_true, flip, is_same, never, or_false, test}
use Rattle.undo.specs.Table.{any}
use Rattle.rules.proofs.Lists.{or_none}

-- ---- a slot that names a line

abbrev pub named : ℕ → Slot → Bool
named l s = names l s.state s.line

abbrev pub empties : Slot → Bool
empties s = is_empty s.state

pub names_here : (l : ℕ) (st : SlotState) (k : ℕ) → is_empty st ≡ false → eqb k l ≡ true → names l st k ≡ true
names_here l Empty k n e = absurd (true≢false n)
names_here l (Waiting c) k n e = e
names_here l InFlight k n e = e

pub names_other : (l : ℕ) (st : SlotState) (k : ℕ) → eqb k l ≡ false → names l st k ≡ false
names_other l Empty k e = refl
names_other l (Waiting c) k e = e
names_other l InFlight k e = e

pub names_true : (l : ℕ) (st : SlotState) (k : ℕ) → names l st k ≡ true → (is_empty st ≡ false) × (k ≡ l)
names_true l Empty k e = absurd (false≢true e)
names_true l (Waiting c) k e = (refl, eqb-true k l e)
names_true l InFlight k e = (refl, eqb-true k l e)

pub names_empty : (l : ℕ) (st : SlotState) (k : ℕ) → is_empty st ≡ true → names l st k ≡ false
names_empty l Empty k e = refl
names_empty l (Waiting c) k e = absurd (false≢true e)
names_empty l InFlight k e = absurd (false≢true e)

pub flight_state : (st : SlotState) → is_flight st ≡ true → st ≡ InFlight
flight_state Empty e = absurd (false≢true e)
flight_state (Waiting c) e = absurd (false≢true e)
flight_state InFlight e = refl

pub empty_state : (st : SlotState) → is_empty st ≡ true → st ≡ Empty
empty_state Empty e = refl
empty_state (Waiting c) e = absurd (false≢true e)
empty_state InFlight e = absurd (false≢true e)

-- ---- what the slots say of a line

-- no slot names the line
absent : (l : ℕ) (s : Slot) (ss : List Slot) → state_of l (s ∷ ss) ≡ Empty → (named l s ≡ false) × (state_of l ss ≡ Empty)
unfolding state_of
absent l s ss e =
    test (named l s)
    (λ d. let n : is_empty s.state ≡ true = ap is_empty (rw d at e) in never n (names_true l s.state s.line d).0)
    (λ d. (d, rw d at e))

pub state_named : (l : ℕ) (ss : List Slot) → is_empty (state_of l ss) ≡ not (any (named l) ss)
unfolding state_of
state_named l [] = refl
state_named l (s ∷ ss) =
    let ih : is_empty (state_of l ss) ≡ not (any (named l) ss) = state_named l ss in
    test (named l s) (λ d. rw d (names_true l s.state s.line d).0) (λ d. rw d ih)

-- a line without a slot that names it
pub state_none : (l : ℕ) (ss : List Slot) → any (named l) ss ≡ false → state_of l ss ≡ Empty
state_none l ss e = empty_state (state_of l ss) (state_named l ss ∙ ap not e)

-- a region without slots has none for any line, and the other way round
pub no_slots : (l : ℕ) (ss : List Slot) → any (λ s. not (is_empty s.state)) ss ≡ false → state_of l ss ≡ Empty
unfolding state_of
no_slots l [] e = refl
no_slots l (s ∷ ss) e =
    let z = or_false (not (is_empty s.state)) (any (λ s. not (is_empty s.state)) ss) e in
    rw (names_empty l s.state s.line (not-false (is_empty s.state) z.0)) (no_slots l ss z.1)

pub all_clear : (ss : List Slot) → ((l : ℕ) → state_of l ss ≡ Empty) → any (λ s. not (is_empty s.state)) ss ≡ false
unfolding state_of
all_clear [] h = refl
all_clear (s ∷ ss) h =
    test (is_empty s.state)
    (λ d. rw d (all_clear ss (λ l. (absent l s ss (h l)).1)))
    (λ d. never (names_here s.line s.state s.line d (is_same s.line)) (absent s.line s ss (h s.line)).0)

-- ---- a flight

carries_named : (l : ℕ) (s : Slot) → carries l s ≡ true → named l s ≡ true
carries_named l s e =
    let z = and_true (is_flight s.state) (eqb s.line l) e in
    rw (flight_state s.state z.0) z.1

none_carried : (l : ℕ) (ss : List Slot) → state_of l ss ≡ Empty → any (carries l) ss ≡ false
none_carried l [] e = refl
none_carried l (s ∷ ss) e =
    let z = absent l s ss e in
    test (carries l s) (λ d. never (carries_named l s d) z.0) (λ d. rw d (none_carried l ss z.1))

named_carries : (l : ℕ) (s : Slot) → named l s ≡ true → carries l s ≡ is_flight s.state
named_carries l s d = go s.state (eq-eqb s.line l (names_true l s.state s.line d).1)
  where
    go : (st : SlotState) → eqb s.line l ≡ true → (is_flight st && eqb s.line l) ≡ is_flight st
    go Empty e = refl
    go (Waiting c) e = refl
    go InFlight e = e

-- the rest of the slots does not name what the first names
pub rest_absent : {s : Slot} {ss : List Slot} (l : ℕ) → named l s ≡ true → Distinct (s ∷ ss) → state_of l ss ≡ Empty
rest_absent {s} {ss} l d (more a n r ds) =
    let z = names_true l s.state s.line d in
    rw (← z.1) (n z.0)

pub flight_carried : {ss : List Slot} (l : ℕ) → Distinct ss → any (carries l) ss ≡ is_flight (state_of l ss)
unfolding state_of
flight_carried l none = refl
flight_carried l (more {s = s} {ss = ss} a n r ds) =
    test (named l s)
    (λ d. let z : any (carries l) ss ≡ false = none_carried l ss (rest_absent l d (more {s = s} {ss = ss} a n r ds)) in
    rw (d, named_carries l s d, z) (or_none (is_flight s.state)))
    (λ d. let f : carries l s ≡ false = test (carries l s) (λ e. never (carries_named l s e) d) (λ e. e) in
    rw (d, f) (flight_carried l ds))

-- ---- a change of each slot

-- what the change makes of a slot that names line l
pub state_map : (l : ℕ) (f : Slot → Slot) (g : SlotState → SlotState) (ss : List Slot) → ((s : Slot) → named l (f s) ≡ named l s)
    → ((s : Slot) → named l s ≡ true → (f s).state ≡ g s.state) → g Empty ≡ Empty → state_of l (map f ss) ≡ g (state_of l ss)
unfolding state_of
state_map l f g [] h k e = sym e
state_map l f g (s ∷ ss) h k e =
    let ih : state_of l (map f ss) ≡ g (state_of l ss) = state_map l f g ss h k e in
    test (named l s) (λ d. rw (h s, d) (k s d)) (λ d. rw (h s, d) ih)

-- a change that keeps the lines of slots, and empties them whole
pub record Mends (f : Slot → Slot) : Type 0 where
  pub lines : (s : Slot) → is_empty (f s).state ≡ false → (is_empty s.state ≡ false) × ((f s).line ≡ s.line)
  pub whole : (s : Slot) → (is_empty s.state ≡ true → s ≡ no_slot) → is_empty (f s).state ≡ true → f s ≡ no_slot

pub mend_absent : {f : Slot → Slot} (l : ℕ) (ss : List Slot) → Mends f → state_of l ss ≡ Empty → state_of l (map f ss) ≡ Empty
unfolding state_of
mend_absent l [] m e = refl
mend_absent {f} l (s ∷ ss) m e =
    let z = absent l s ss e in
    let n : named l (f s) ≡ false
    = test (named l (f s))
    (λ d. let y = names_true l (f s).state (f s).line d in
    let x = m.lines s y.0 in
    never (names_here l s.state s.line x.0 (eq-eqb s.line l (sym x.1 ∙ y.1))) z.0)
    (λ d. d) in
    rw n (mend_absent l ss m z.1)

pub distinct_map : {f : Slot → Slot} {ss : List Slot} → Mends f → Distinct ss → Distinct (map f ss)
distinct_map m none = none
distinct_map {f} m (more {s = s} {ss = ss} a n r ds) =
    more {s = f s} {ss = map f ss} (m.whole s a)
    (λ e. let x = m.lines s e in rw x.1 (mend_absent s.line ss m (n x.0)))
    (test (is_empty (f s).state) (λ e. rw (m.whole s a e) (lit< tt)) (λ e. rw (m.lines s e).1 r))
    (distinct_map m ds)

-- a region without slots has none after it
pub mend_none : {f : Slot → Slot} (ss : List Slot) → Mends f → any (λ s. not (is_empty s.state)) ss ≡ false
    → any (λ s. not (is_empty s.state)) (map f ss) ≡ false
mend_none ss m e = all_clear (map _ ss) (λ l. mend_absent l ss m (no_slots l ss e))

-- ---- counting, by the last four different lines ls of the region

pub counted_empty : (ls : List ℕ) (k : ℕ) (st : SlotState) → is_empty (counted ls k st) ≡ is_empty st
counted_empty ls k Empty = refl
counted_empty ls k (Waiting c) = refl
counted_empty ls k InFlight = refl

pub counted_names : (ls : List ℕ) (l : ℕ) (st : SlotState) (k : ℕ) → names l (counted ls k st) k ≡ names l st k
counted_names ls l Empty k = refl
counted_names ls l (Waiting c) k = refl
counted_names ls l InFlight k = refl

pub counted_view : (ls : List ℕ) (car : List (List ℕ)) (l : ℕ) (st : SlotState) → carry_of car l (counted ls l st) ≡ carry_of car l st
counted_view ls car l Empty = refl
counted_view ls car l (Waiting c) = refl
counted_view ls car l InFlight = refl

pub counted_mends : (ls : List ℕ) → Mends (counted_slot ls)
counted_mends ls =
    record {
      lines = λ s e. (sym (counted_empty ls s.line s.state) ∙ e, refl);
      whole = λ s a e. rw (a (sym (counted_empty ls s.line s.state) ∙ e));
    }

pub state_counted : (ls : List ℕ) (l : ℕ) (ss : List Slot) → state_of l (map (counted_slot ls) ss) ≡ counted ls l (state_of l ss)
state_counted ls l ss =
    state_map l (counted_slot ls) (counted ls l) ss (λ s. counted_names ls l s.state s.line)
    (λ s d. ap (λ x. counted ls x s.state) (names_true l s.state s.line d).1) refl

-- ---- flights

-- what stands for line l once the slots have flown
abbrev pub takes_off : List Bool → Bool → ℕ → SlotState → Bool
takes_off lock ended l st = is_ripe ended st && not (get_or lock l false)

abbrev pub off_at : List Bool → Bool → ℕ → SlotState → SlotState
off_at lock ended l st = cond (takes_off lock ended l st) InFlight st

ripe_full : (ended : Bool) (st : SlotState) → is_ripe ended st ≡ true → is_empty st ≡ false
ripe_full ended Empty e = absurd (false≢true e)
ripe_full ended (Waiting c) e = refl
ripe_full ended InFlight e = refl

flies_full : (lock : List Bool) (ended : Bool) (s : Slot) → flies lock ended s ≡ true → is_empty s.state ≡ false
flies_full lock ended s e = ripe_full ended s.state (and_true (is_ripe ended s.state) (not (get_or lock s.line false)) e).0

names_flight : (l : ℕ) (st : SlotState) (k : ℕ) → is_empty st ≡ false → names l InFlight k ≡ names l st k
names_flight l Empty k e = absurd (true≢false e)
names_flight l (Waiting c) k e = refl
names_flight l InFlight k e = refl

flown_names : (lock : List Bool) (ended : Bool) (l : ℕ) (s : Slot) → named l (flown_slot lock ended s) ≡ named l s
flown_names lock ended l s =
    test (flies lock ended s)
    (λ d. rw d (names_flight l s.state s.line (flies_full lock ended s d)))
    (λ d. rw d)

flown_mends : (lock : List Bool) (ended : Bool) → Mends (flown_slot lock ended)
flown_mends lock ended =
    record {
      lines = λ s e. test (flies lock ended s) (λ d. (flies_full lock ended s d, rw d)) (λ d. (rw d at e, rw d));
      whole = λ s a e. test (flies lock ended s) (λ d. absurd (false≢true (rw d at e))) (λ d. rw d (a (rw d at e)));
    }

pub state_flown : (lock : List Bool) (ended : Bool) (l : ℕ) (ss : List Slot) → state_of l (flown_slots lock ended ss) ≡ off_at lock ended l (state_of l ss)
unfolding flown_slots
state_flown lock ended l ss =
    state_map l (flown_slot lock ended) (off_at lock ended l) ss (flown_names lock ended l)
    (λ s d. let q : s.line ≡ l = (names_true l s.state s.line d).1 in
    let z : flies lock ended s ≡ takes_off lock ended l s.state = rw q in
    test (flies lock ended s) (λ f. rw (f, sym z ∙ f)) (λ f. rw (f, sym z ∙ f)))
    refl

pub distinct_flown : (lock : List Bool) (ended : Bool) {ss : List Slot} → Distinct ss → Distinct (flown_slots lock ended ss)
unfolding flown_slots
distinct_flown lock ended ds = distinct_map (flown_mends lock ended) ds

pub length_flown : (lock : List Bool) (ended : Bool) (ss : List Slot) → length (flown_slots lock ended ss) ≡ length ss
unfolding flown_slots
length_flown lock ended ss = length-map ss (flown_slot lock ended)

pub flown_none : (lock : List Bool) (ended : Bool) (ss : List Slot) → any (λ s. not (is_empty s.state)) ss ≡ false
    → any (λ s. not (is_empty s.state)) (flown_slots lock ended ss) ≡ false
unfolding flown_slots
flown_none lock ended ss e = mend_none ss (flown_mends lock ended) e

-- the lines that the flights carry
pub length_carried : (lock : List Bool) (ended : Bool) (ss : List Slot) (cur car : List (List ℕ)) → length (carried lock ended ss cur car) ≡ length car
unfolding carried
length_carried lock ended [] cur car = refl
length_carried lock ended (s ∷ ss) cur car =
    test (flies lock ended s)
    (λ d. rw d (length_carried lock ended ss cur (set car s.line (line_of s.line cur)) ∙ length-set car s.line (line_of s.line cur)))
    (λ d. rw d (length_carried lock ended ss cur car))

pub line_carried : (lock : List Bool) (ended : Bool) {ss : List Slot} (cur car : List (List ℕ)) (l : ℕ) → length car ≡ 256 → Distinct ss
    → line_of l (carried lock ended ss cur car) ≡ cond (takes_off lock ended l (state_of l ss)) (line_of l cur) (line_of l car)
unfolding carried state_of
line_carried lock ended cur car l n none = refl
line_carried lock ended cur car l n (more {s = s} {ss = ss} a f r ds) =
    let ih : line_of l (carried lock ended ss cur car') ≡ cond (takes_off lock ended l (state_of l ss)) (line_of l cur) (line_of l car')
    = line_carried lock ended cur car' l n' ds in
    test (named l s)
    (λ d. let q : s.line ≡ l = (names_true l s.state s.line d).1 in
    let z : state_of l ss ≡ Empty = rest_absent l d (more {s = s} {ss = ss} a f r ds) in
    rw (ih, z, d) (here q))
    (λ d. rw (ih, d, there d))
  where
    car' : List (List ℕ)
    car' = cond (flies lock ended s) (set car s.line (line_of s.line cur)) car

    n' : length car' ≡ 256
    n' = test (flies lock ended s) (λ d. rw d (length-set car s.line (line_of s.line cur) ∙ n)) (λ d. rw d n)

    here : s.line ≡ l → line_of l car' ≡ cond (takes_off lock ended l s.state) (line_of l cur) (line_of l car)
    here q =
        let z : flies lock ended s ≡ takes_off lock ended l s.state = rw q in
        let inside : l < length car = rw (n, ← q) r in
        test (flies lock ended s)
        (λ e. rw (e, sym z ∙ e, q) (get_or-set_same car l (line_of l cur) [] inside))
        (λ e. rw (e, sym z ∙ e))

    there : named l s ≡ false → line_of l car' ≡ line_of l car
    there d =
        test (flies lock ended s)
        (λ e. let m : eqb s.line l ≡ false
        = test (eqb s.line l) (λ g. never (names_here l s.state s.line (flies_full lock ended s e) g) d) (λ g. g) in
        rw e (get_or-set_other car s.line l (line_of s.line cur) [] (λ g. eqb-false s.line l m (sym g))))
        (λ e. rw e)

-- ---- a dropped and a landed flight

dropped_mends : (l : ℕ) → Mends (dropped_slot l)
dropped_mends l =
    record {
      lines = λ s e. test (carries l s) (λ d. absurd (true≢false (rw d at e))) (λ d. (rw d at e, rw d));
      whole = λ s a e. test (carries l s) (λ d. rw d) (λ d. rw d (a (rw d at e)));
    }

pub distinct_dropped : (l : ℕ) {ss : List Slot} → Distinct ss → Distinct (map (dropped_slot l) ss)
distinct_dropped l ds = distinct_map (dropped_mends l) ds

pub dropped_none : (l : ℕ) (ss : List Slot) → any (λ s. not (is_empty s.state)) ss ≡ false
    → any (λ s. not (is_empty s.state)) (map (dropped_slot l) ss) ≡ false
dropped_none l ss e = mend_none ss (dropped_mends l) e

pub state_dropped_other : (l k : ℕ) (ss : List Slot) → eqb k l ≡ false → state_of k (map (dropped_slot l) ss) ≡ state_of k ss
state_dropped_other l k ss n =
    state_map k (dropped_slot l) (λ st. st) ss
    (λ s. test (carries l s) (λ d. rw d (sym (away s d))) (λ d. rw d))
    (λ s e. test (carries l s) (λ d. never e (away s d)) (λ d. rw d))
    refl
  where
    away : (s : Slot) → carries l s ≡ true → named k s ≡ false
    away s d =
        let q : s.line ≡ l = eqb-true s.line l (and_true (is_flight s.state) (eqb s.line l) d).1 in
        names_other k s.state s.line (rw q (flip k l n))

-- a flight is dropped, a waiting slot stays
pub state_dropped : (l : ℕ) {ss : List Slot} → Distinct ss
    → state_of l (map (dropped_slot l) ss) ≡ cond (is_flight (state_of l ss)) Empty (state_of l ss)
unfolding state_of
state_dropped l none = refl
state_dropped l (more {s = s} {ss = ss} a n r ds) =
    test (named l s)
    (λ d. let z : state_of l ss ≡ Empty = rest_absent l d (more {s = s} {ss = ss} a n r ds) in
    let y : state_of l (map (dropped_slot l) ss) ≡ Empty = mend_absent l ss (dropped_mends l) z in
    let c : carries l s ≡ is_flight s.state = named_carries l s d in
    test (is_flight s.state) (λ e. rw (c, d, e, y)) (λ e. rw (c, d, e, d)))
    (λ d. let f : carries l s ≡ false = test (carries l s) (λ e. never (carries_named l s e) d) (λ e. e) in
    rw (f, d) (state_dropped l ds))

pub dropped_same : (l : ℕ) (ss : List Slot) → any (carries l) ss ≡ false → map (dropped_slot l) ss ≡ ss
dropped_same l [] e = refl
dropped_same l (s ∷ ss) e =
    let z = or_false (carries l s) (any (carries l) ss) e in
    rw (z.0, dropped_same l ss z.1)

-- the flight that lands is the only one of its line
pub landed_dropped : (l : ℕ) {ss : List Slot} → Distinct ss → any (carries l) ss ≡ true → set ss (place (carries l) ss) no_slot ≡ map (dropped_slot l) ss
unfolding place
landed_dropped l none e = absurd (false≢true e)
landed_dropped l (more {s = s} {ss = ss} a n r ds) e =
    test (carries l s)
    (λ d. let z : state_of l ss ≡ Empty = rest_absent l (carries_named l s d) (more {s = s} {ss = ss} a n r ds) in
    rw (d, dropped_same l ss (none_carried l ss z)))
    (λ d. rw (d, landed_dropped l ds (rw d at e)))
