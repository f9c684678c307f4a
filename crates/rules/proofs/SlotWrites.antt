-- The slot that a write takes.
use Rattle.std.specs.Prelude.{None, Option, Some}
use Prim.Native.Nat.{◌+◌, ◌<◌, suc, ℕ}
use mathlib.Core.Path.{◌∙◌, ◌≡◌, refl}
use mathlib.Core.Bool.{cond, false, false≢true, true, true≢false}
use mathlib.Core.List.{List, [], ◌∷◌, map}
use lib.Dec.{eqb}
use lib.ListN.{length, length-map, length-set, set}
use native.Mathlib.Omega.{arith}
use native.Mathlib.Nat.{add-zero, zero-add}
use Rattle.rules.proofs.Sim.State.{Distinct, more}
use Rattle.rules.proofs.Views.{state_of}
use Rattle.rules.specs.Lists.{place}
use Rattle.rules.specs.Slots.{counted, counted_slot, is_empty, is_full, or_at, slot_for, slot_from, written, written_at}
use Rattle.rules.specs.Tables.{no_slot, with_line, with_state}
use Rattle.rules.specs.declared.Slot.{Slot}
use Rattle.rules.specs.declared.SlotState.TheVariants.{Empty, Waiting}
use Rattle.undo.proofs.Laws.{flip, is_same, never, or_false, test}
use Rattle.undo.specs.Table.{any}
use Rattle.rules.proofs.SlotLaws.{counted_empty, counted_mends, counted_names, distinct_map, empties, mend_absent, named, names_empty, names_here, names_other, names_true, rest_absent, state_counted, state_none}

-- ---- the slot that a write takes

-- place p is line l's slot, or an empty one where no slot names the line
data Fits (l : ℕ) : List Slot → ℕ → Type 0 where
  is_named : {s : Slot} {ss : List Slot} → named l s ≡ true → Fits l (s ∷ ss) 0
  is_free : {s : Slot} {ss : List Slot} → is_empty s.state ≡ true → state_of l ss ≡ Empty → Fits l (s ∷ ss) 0
  later : {s : Slot} {ss : List Slot} {p : ℕ} → named l s ≡ false → Fits l ss p → Fits l (s ∷ ss) (suc p)

fits_counted : (ls : List ℕ) {l p : ℕ} {ss : List Slot} → Fits l ss p → Fits l (map (counted_slot ls) ss) p
fits_counted ls {l} (is_named {s = s} e) = is_named (counted_names ls l s.state s.line ∙ e)
fits_counted ls {l} (is_free {s = s} {ss = ss} e n) = is_free (counted_empty ls s.line s.state ∙ e) (mend_absent l ss (counted_mends ls) n)
fits_counted ls {l} (later {s = s} e f) = later (counted_names ls l s.state s.line ∙ e) (fits_counted ls f)

module _ {l : ℕ} (x : Slot) (own : named l x ≡ true) where
  state_at : {p : ℕ} {ss : List Slot} → Fits l ss p → state_of l (set ss p x) ≡ x.state
  unfolding state_of
  state_at (is_named e) = rw own
  state_at (is_free e n) = rw own
  state_at (later e f) = rw e (state_at f)

  state_beside : {p : ℕ} {ss : List Slot} (k : ℕ) → eqb k l ≡ false → Fits l ss p → state_of k (set ss p x) ≡ state_of k ss
  unfolding state_of
  state_beside k n (is_named {s = s} e) = rw (other x own, other s e)
    where
      other : (y : Slot) → named l y ≡ true → named k y ≡ false
      other y d = names_other k y.state y.line (rw (names_true l y.state y.line d).1 (flip k l n))
  state_beside k n (is_free {s = s} e a) =
      rw (names_other k x.state x.line (rw (names_true l x.state x.line own).1 (flip k l n)), names_empty k s.state s.line e)
  state_beside k n (later {s = s} e f) = test (named k s) (λ d. rw d) (λ d. rw d (state_beside k n f))

  distinct_set : {p : ℕ} {ss : List Slot} → l < 256 → Fits l ss p → Distinct ss → Distinct (set ss p x)
  distinct_set i (is_named {s = s} {ss = ss} e) (more a n r ds) =
      let z = names_true l x.state x.line own in
      more {s = x} {ss = ss} (λ h. never h z.0) (λ h. rw z.1 (rest_absent l e (more {s = s} {ss = ss} a n r ds))) (rw z.1 i) ds
  distinct_set i (is_free {s = s} {ss = ss} e m) (more a n r ds) =
      let z = names_true l x.state x.line own in
      more {s = x} {ss = ss} (λ h. never h z.0) (λ h. rw z.1 m) (rw z.1 i) ds
  distinct_set i (later {s = s} {ss = ss} {p = p} e f) (more a n r ds) =
      more {s = s} {ss = set ss p x} a
      (λ h. let o : eqb s.line l ≡ false = test (eqb s.line l) (λ g. never (names_here l s.state s.line h g) e) (λ g. g) in
      state_beside s.line o f ∙ n h)
      r (distinct_set i f ds)

-- ---- the search for the slot

fits_named : (l : ℕ) (ss : List Slot) → any (named l) ss ≡ true → Fits l ss (place (named l) ss)
unfolding place
fits_named l [] e = absurd (false≢true e)
fits_named l (s ∷ ss) e = test (named l s) (λ d. rw d (is_named d)) (λ d. rw d (later d (fits_named l ss (rw d at e))))

fits_free : (l : ℕ) (ss : List Slot) → any (named l) ss ≡ false → any empties ss ≡ true → Fits l ss (place empties ss)
unfolding place
fits_free l [] n e = absurd (false≢true e)
fits_free l (s ∷ ss) n e =
    let z = or_false (named l s) (any (named l) ss) n in
    test (is_empty s.state)
    (λ d. rw d (is_free d (state_none l ss z.1)))
    (λ d. rw d (later z.0 (fits_free l ss z.1 (rw d at e))))

pub search_named : (l : ℕ) (free : Option ℕ) (i : ℕ) (ss : List Slot) → any (named l) ss ≡ true → slot_from l free i ss ≡ Some (i + place (named l) ss)
unfolding slot_from place
search_named l free i [] e = absurd (false≢true e)
search_named l free i (s ∷ ss) e =
    test (named l s)
    (λ d. rw (d, add-zero i))
    (λ d. let ih : slot_from l (or_at free (is_empty s.state) i) (suc i) ss ≡ Some (suc i + place (named l) ss)
    = search_named l (or_at free (is_empty s.state) i) (suc i) ss (rw d at e) in
    let q : suc i + place (named l) ss ≡ i + suc (place (named l) ss) = omega arith in
    rw (d, ih, q))

search_had : (l k i : ℕ) (ss : List Slot) → any (named l) ss ≡ false → slot_from l (Some k) i ss ≡ Some k
unfolding slot_from
search_had l k i [] e = refl
search_had l k i (s ∷ ss) e = let z = or_false (named l s) (any (named l) ss) e in rw z.0 (search_had l k (suc i) ss z.1)

pub search_free : (l i : ℕ) (ss : List Slot) → any (named l) ss ≡ false → slot_from l None i ss ≡ cond (any empties ss) (Some (i + place empties ss)) None
unfolding slot_from place
search_free l i [] e = refl
search_free l i (s ∷ ss) e =
    let z = or_false (named l s) (any (named l) ss) e in
    test (is_empty s.state)
    (λ d. rw (z.0, d, add-zero i) (search_had l i (suc i) ss z.1))
    (λ d. let q : suc i + place empties ss ≡ i + suc (place empties ss) = omega arith in
    rw (z.0, d, ← q) (search_free l (suc i) ss z.1))

-- a slot that waits with count 0
abbrev pub waiting : ℕ → Slot
waiting l = with_state (Waiting 0) (with_line l no_slot)

-- the slots after a write, where ls are the last four different lines of the region
data Wrote (ls : List ℕ) (l : ℕ) (ss : List Slot) : Type 0 where
  at : (p : ℕ) → Fits l ss p → written ls l ss ≡ set (map (counted_slot ls) ss) p (waiting l) → Wrote ls l ss

wrote_at : (ls : List ℕ) (l : ℕ) (ss : List Slot) → is_full (slot_for l ss) ≡ false → Wrote ls l ss
unfolding written
wrote_at ls l ss e =
    test (any (named l) ss)
    (λ d. at (place (named l) ss) (fits_named l ss d) (rw (search_named l None 0 ss d, zero-add (place (named l) ss))))
    (λ d. test (any empties ss)
    (λ f. at (place empties ss) (fits_free l ss d f) (rw (search_free l 0 ss d, f, zero-add (place empties ss))))
    (λ f. absurd (true≢false (rw (search_free l 0 ss d, f) at e))))

pub length_written : (ls : List ℕ) (l : ℕ) (ss : List Slot) → length (written ls l ss) ≡ length ss
unfolding written
length_written ls l ss = go (slot_for l ss)
  where
    go : (f : Option ℕ) → length (written_at ls l f ss) ≡ length ss
    go (Some p) = length-set (map (counted_slot ls) ss) p (waiting l) ∙ length-map ss (counted_slot ls)
    go None = refl

module _ (ls : List ℕ) (ss : List Slot) (l : ℕ) (room : is_full (slot_for l ss) ≡ false) where
  pub state_written : state_of l (written ls l ss) ≡ Waiting 0
  state_written = go (wrote_at ls l ss room)
    where
      go : Wrote ls l ss → state_of l (written ls l ss) ≡ Waiting 0
      go (at p f e) = rw e (state_at (waiting l) (is_same l) (fits_counted ls f))

  pub state_written_other : (k : ℕ) → eqb k l ≡ false → state_of k (written ls l ss) ≡ counted ls k (state_of k ss)
  state_written_other k n = go (wrote_at ls l ss room)
    where
      go : Wrote ls l ss → state_of k (written ls l ss) ≡ counted ls k (state_of k ss)
      go (at p f e) = rw e (state_beside (waiting l) (is_same l) k n (fits_counted ls f) ∙ state_counted ls k ss)

  pub distinct_written : l < 256 → Distinct ss → Distinct (written ls l ss)
  distinct_written i ds = go (wrote_at ls l ss room)
    where
      go : Wrote ls l ss → Distinct (written ls l ss)
      go (at p f e) = rw e (distinct_set (waiting l) (is_same l) i (fits_counted ls f) (distinct_map (counted_mends ls) ds))
