-- The last four different lines one by one, and one turn of the pass and of the flight, at an index of the array.
use Rattle.std.specs.Prelude.{None, Option, Some}
use Prim.Native.Nat.{◌+◌, ◌<◌, ◌≤◌, suc, ℕ}
use mathlib.Core.Path.{◌≡◌, refl}
use mathlib.Core.Bool.{Bool, ◌||◌, cond, false, true}
use mathlib.Core.List.{List, [], ◌∷◌}
use lib.Dec.{eqb}
use lib.ListN.{drop, drop_of_length-le, get_or, length, set}
use native.Mathlib.Omega.{arith}
use native.Mathlib.Numerals.{add-one}
use lib.Seq.{drop-cons, drop-set-lt}
use Rattle.lookup.proofs.Search.{four}
use Rattle.rules.specs.Lists.{place}
use Rattle.rules.specs.Slots.{carried, flies, is_empty, names, or_at, renewed, slot_from, without_line}
use Rattle.rules.specs.Tables.{line_of}
use Rattle.rules.specs.declared.Slot.{Slot}
use Rattle.slots.specs.Pass.{or_else}
use Rattle.undo.proofs.Laws.{test}

-- The last four lines, by where line l stands among them

module _ (ls : List ℕ) (l : ℕ) (h : length ls ≡ 4) where
  abbrev at : ℕ → ℕ
  at i = get_or ls i 0

  pub renewed_is :
      l
      ∷ cond (eqb (at 0) l) (at 1) (at 0)
      ∷ cond (eqb (at 0) l || eqb (at 1) l) (at 2) (at 1)
      ∷ cond ((eqb (at 0) l || eqb (at 1) l) || eqb (at 2) l) (at 3) (at 2)
      ∷ []
      ≡ renewed l ls
  unfolding renewed without_line
  renewed_is =
      rw (four 0 ls h)
      (test (eqb (at 0) l) (λ a. rw a)
      (λ a. rw a (test (eqb (at 1) l) (λ b. rw b) (λ b. rw b (test (eqb (at 2) l) (λ e. rw e) (λ e. rw e))))))

  pub place_is : cond (eqb l (at 0)) 0 (cond (eqb l (at 1)) 1 (cond (eqb l (at 2)) 2 (cond (eqb l (at 3)) 3 4))) ≡ place (eqb l) ls
  unfolding place
  place_is =
      rw (four 0 ls h)
      (test (eqb l (at 0)) (λ a. rw a)
      (λ a. rw a (test (eqb l (at 1)) (λ b. rw b)
      (λ b. rw b (test (eqb l (at 2)) (λ e. rw e) (λ e. rw e (test (eqb l (at 3)) (λ f. rw f) (λ f. rw f))))))))

-- The slot for line l: `named` and `free` are what the slots below i gave, and q differs from the slots at the start only there

or_turn : (f : Option ℕ) (hit : Bool) (i : ℕ) (rest : Option ℕ) → or_else f (cond hit (Some i) rest) ≡ or_else (or_at f hit i) rest
or_turn (Some k) hit i rest = refl
or_turn None true i rest = refl
or_turn None false i rest = refl

module _ (l : ℕ) (named free : Option ℕ) (i : ℕ) (q : List Slot) where
  pub found_more : (d x : Slot) → i < length q →
      or_else named (slot_from l free i (drop i q))
      ≡ or_else (or_at named (names l (get_or q i d).state (get_or q i d).line) i)
      (slot_from l (or_at free (is_empty (get_or q i d).state) i) (i + 1) (drop (i + 1) (set q i x)))
  unfolding slot_from
  found_more d x h = rw (add-one, drop-set-lt (suc i) q i x (omega arith), drop-cons q i d h) (or_turn named _ i _)

  pub found_end : length q ≤ i → or_else named (slot_from l free i (drop i q)) ≡ or_else named free
  unfolding slot_from
  found_end h = rw (drop_of_length-le q h)

-- The lines that the flights carry: the slots below i have flown, and q differs from the slots at the start only there

module _ (lock : List Bool) (ended : Bool) (i : ℕ) (q : List Slot) (cur car : List (List ℕ)) where
  pub carried_more : (d x : Slot) → i < length q →
      carried lock ended (drop i q) cur car
      ≡ carried lock ended (drop (i + 1) (set q i x)) cur
      (cond (flies lock ended (get_or q i d)) (set car (get_or q i d).line (line_of (get_or q i d).line cur)) car)
  unfolding carried
  carried_more d x h = rw (add-one, drop-set-lt (suc i) q i x (omega arith), drop-cons q i d h)

  pub carried_end : length q ≤ i → carried lock ended (drop i q) cur car ≡ car
  unfolding carried
  carried_end h = rw (drop_of_length-le q h)
