-- What std has not: the searches of `rules` in std's words, and one turn of a loop that changes each element of a list of structs where it stands.
use Rattle.std.proofs.Common.{◌≡◌, ◌∙◌, ℕ, ◌+◌, ◌<◌, ◌≤◌, Bool, Option, count_by, position, ltb, cond, List, [], ◌∷◌, ◌++◌, length, get_or, set, map, take, drop, refl, ap, arith}
use Rattle.std.specs.List.{position_or_len}
use Rattle.std.proofs.lemmas.List.{get_or_default, length-append, length-drop, length-map, length-take, append-nil}
use Rattle.std.proofs.lemmas.List.Edits.{map_over_more}
use Rattle.std.proofs.lemmas.List.Recursion.{is_count_by, is_position_or_len}
use Rattle.rules.specs.Lists.{count, place}
use lib.ListN.{drop_of_length-le}
use lib.Seq.{take_all}
use Rattle.undo.proofs.Laws.{test}
use borrow.Author.Tests.{ltb-false, ltb-true}
use Rattle.lookup.specs.Place.{IsPlace}

module _ {A : Type 0} (p : A → Bool) where
  place-step : (x : A) (xs : List A) → place p (x ∷ xs) ≡ cond (p x) 0 (1 + place p xs)
  unfolding place
  place-step x xs = ap (λ n. cond (p x) 0 n) (omega arith)

  place-none : place p [] ≡ 0
  unfolding place
  place-none = refl

  pub place_is : (xs : List A) → place p xs ≡ position_or_len p xs
  place_is xs = is_position_or_len (place p) p place-none place-step xs

  pub is_place : (xs : List A) (r : Option ℕ) → r ≡ position p xs → IsPlace p xs r
  is_place xs r e =
      rw (e, ← place_is xs)
      (test (ltb (place p xs) (length xs)) (λ h. rw h (refl, ltb-true _ _ h)) (λ h. rw h (ltb-false _ _ h)))

  count-step : (x : A) (xs : List A) → count p (x ∷ xs) ≡ cond (p x) (1 + count p xs) (count p xs)
  unfolding count
  count-step x xs = ap (λ n. cond (p x) n (count p xs)) (omega arith)

  count-none : count p [] ≡ 0
  unfolding count
  count-none = refl

  pub count_is : (xs : List A) → count p xs ≡ count_by p xs
  count_is xs = is_count_by (count p) p count-none count-step xs

module _ {A : Type 0} where
  pub same_length : (f : A → A) (xs ys : List A) (i : ℕ) → ys ≡ map f (take i xs) ++ drop i xs → length ys ≡ length xs
  same_length f xs ys i e = rw e (rw (length-append, length-map, length-take, length-drop) (omega arith))

  -- the last one
  pub turned : (f : A → A) (xs ys : List A) (i : ℕ) → length xs ≤ i → ys ≡ map f (take i xs) ++ drop i xs → ys ≡ map f xs
  turned f xs ys i h e = e ∙ rw (take_all i xs h, drop_of_length-le xs h, append-nil)

  pub turn : (f : A → A) (xs ys : List A) (i : ℕ) (d y : A)
      → i < length xs → ys ≡ map f (take i xs) ++ drop i xs → y ≡ f (get_or ys i d) → set ys i y ≡ map f (take (i + 1) xs) ++ drop (i + 1) xs
  turn f xs ys i d y h e r =
      let long = same_length f xs ys i e in
      rw r (map_over_more f xs ys i (get_or ys i d) h e (get_or_default ys i d (get_or ys i d) (omega arith)))
