-- The first element that passes a test: its place or none, and the number that the definitions have for it.
use Rattle.std.proofs.Common.{◌≡◌, ◌∙◌, ℕ, ◌+◌, ◌<◌, Bool, Option, None, Some, position, is_some, false, ltb, cond, List, [], ◌∷◌, length, refl, ap, sym, arith}
use Rattle.std.specs.List.{position_or_len}
use Rattle.std.specs.Option.{unwrap_or}
use Rattle.std.proofs.lemmas.List.Recursion.{is_position_or_len}
use mathlib.Core.Bool.{false≢true}
use borrow.Author.Tests.{ltb-false, ltb-true}
use Rattle.rules.proofs.Lists.{place_le}
use Rattle.rules.specs.Lists.{place}
use Rattle.undo.proofs.Laws.{test}

none_some : (r : Option ℕ) (i : ℕ) → r ≡ None → r ≡ Some i → ⊥
none_some r i n s = false≢true (ap is_some (sym n ∙ s))

module _ {A : Type 0} (p : A → Bool) where
  place-step : (x : A) (xs : List A) → place p (x ∷ xs) ≡ cond (p x) 0 (1 + place p xs)
  unfolding place
  place-step x xs = ap (λ n. cond (p x) 0 n) (omega arith)

  place-none : place p [] ≡ 0
  unfolding place
  place-none = refl

  pub place_is : (xs : List A) → place p xs ≡ position_or_len p xs
  place_is xs = is_position_or_len (place p) p place-none place-step xs

  module _ (xs : List A) where
    pub place_or_length : unwrap_or (position p xs) (length xs) ≡ place p xs
    place_or_length =
        rw (← place_is xs)
        (test (ltb (place p xs) (length xs))
        (λ h. rw h refl)
        (λ h. let low = ltb-false _ _ h in let high = place_le p xs in rw h (omega arith)))

    module _ (r : Option ℕ) (e : r ≡ position p xs) where
      pub at_none : r ≡ None → length xs ≡ place p xs
      at_none f = rw (sym e ∙ f) at place_or_length

      pub at_some : (i : ℕ) → r ≡ Some i → (i ≡ place p xs) × (i < length xs)
      at_some i f =
          let same : i ≡ place p xs = rw (sym e ∙ f) at place_or_length in
          (same, test (ltb (place p xs) (length xs)) (λ h. let low = ltb-true _ _ h in omega arith) (λ h. absurd (none_some (position p xs) i (none h) (sym e ∙ f))))
        where
          none : ltb (place p xs) (length xs) ≡ false → position p xs ≡ None
          none h = rw (← place_is xs, h)
