-- One turn and the end of the search for a place in a list, for any element type and any test: a loop at index i still has `drop i xs` before it.
use lib.Dec.{ltb, leb-suc-suc}
use Prim.Native.Nat.{◌+◌, ◌<◌, ◌≤◌, suc, ℕ}
use mathlib.Core.Path.{◌∙◌, ◌≡◌, refl, sym}
use mathlib.Core.Bool.{Bool, false, true}
use mathlib.Core.List.{List, [], ◌∷◌}
use lib.ListN.{drop, drop_of_length-le, get_or, length}
use native.Mathlib.Omega.{arith}
use native.Mathlib.Numerals.{add-one}
use borrow.Author.Tests.{lt-ltb}
use lib.Seq.{drop-cons}
use Rattle.rules.specs.Lists.{place}
use Rattle.undo.proofs.Laws.{test}
use Rattle.undo.specs.Table.{any}

module _ {A : Type 0} (p : A → Bool) where
  -- some element passes where the place of the first is inside the list
  pub any_place : (xs : List A) → any p xs ≡ ltb (place p xs) (length xs)
  unfolding place
  any_place [] = refl
  any_place (x ∷ xs) = test (p x) (λ e. rw e (sym (lt-ltb 0 (suc (length xs)) (omega arith)))) (λ e. rw e (any_place xs ∙ sym (leb-suc-suc (suc (place p xs)) (length xs))))

  pub place_end : (i : ℕ) (xs : List A) → length xs ≤ i → i + place p (drop i xs) ≡ i
  unfolding place
  place_end i xs h = rw (drop_of_length-le xs h) (omega arith)

  module _ (i : ℕ) (xs : List A) (d : A) (h : i < length xs) where
    pub place_hit : p (get_or xs i d) ≡ true → i + place p (drop i xs) ≡ i
    unfolding place
    place_hit e = rw (drop-cons xs i d h, e) (omega arith)

    pub place_on : p (get_or xs i d) ≡ false → (i + 1) + place p (drop (i + 1) xs) ≡ i + place p (drop i xs)
    unfolding place
    place_on e = rw (add-one i, drop-cons xs i d h, e) (omega arith)

-- ---- lists of four

module _ {A : Type 0} (d : A) where
  pub four : (xs : List A) → length xs ≡ 4 → xs ≡ get_or xs 0 d ∷ get_or xs 1 d ∷ get_or xs 2 d ∷ get_or xs 3 d ∷ []
  four [] h = absurd (omega arith)
  four (a ∷ []) h = absurd (omega arith)
  four (a ∷ (b ∷ [])) h = absurd (omega arith)
  four (a ∷ (b ∷ (c ∷ []))) h = absurd (omega arith)
  four (a ∷ (b ∷ (c ∷ (e ∷ [])))) h = refl
  four (a ∷ (b ∷ (c ∷ (e ∷ (f ∷ r))))) h = absurd (omega arith)
