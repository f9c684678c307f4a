-- One turn and the end of the reading of a line, and a search in it.
use Prim.Native.Nat.{◌+◌, ◌<◌, ◌≤◌, ℕ}
use mathlib.Core.Bool.{Bool, cond}
use mathlib.Core.Path.{◌∙◌, ◌≡◌, ap, refl, sym}
use mathlib.Core.List.{List, [], ◌∷◌}
use lib.ListN.{drop, drop_of_length-le, get_or, length}
use lib.Dec.{ltb}
use lib.Seq.{drop-cons}
use native.Mathlib.Numerals.{add-one}
use native.Mathlib.Omega.{arith}
use borrow.Author.Tests.{ltb-false, ltb-true}
use Rattle.std.proofs.Common.{Some, None, position}
use Rattle.std.specs.List.{position_or_len}
use Rattle.std.proofs.lemmas.List.Recursion.{is_position_or_len}
use Rattle.rules.proofs.Lists.{place_le}
use Rattle.rules.specs.Lists.{place}
use Rattle.undo.proofs.Laws.{test}
use Rattle.trying.specs.Line.{row_byte, row_from}
use Rattle.trying.specs.declared.Row.{Row}

-- a loop at index i still has `drop i line` before it
module _ (r : Row) (line : List ℕ) (i : ℕ) where
  pub row_on : i < length line → row_from (row_byte r (get_or line i 0)) (drop (i + 1) line) ≡ row_from r (drop i line)
  unfolding row_from
  row_on h = rw (add-one i, drop-cons line i 0 h)

  pub row_end : length line ≤ i → row_from r (drop i line) ≡ r
  unfolding row_from
  row_end h = rw (drop_of_length-le line h)

module _ {A : Type 0} (p : A → Bool) where
  place-step : (x : A) (xs : List A) → place p (x ∷ xs) ≡ cond (p x) 0 (1 + place p xs)
  unfolding place
  place-step x xs = ap (λ n. cond (p x) 0 n) (omega arith)

  place-none : place p [] ≡ 0
  unfolding place
  place-none = refl

  place_is : (xs : List A) → place p xs ≡ position_or_len p xs
  place_is xs = is_position_or_len (place p) p place-none place-step xs

  -- the place of the first, or the end
  pub place_found : (xs : List A) (i : ℕ) → Some i ≡ position p xs → (i ≡ place p xs) × (i < length xs)
  place_found xs i e =
      test (ltb (position_or_len p xs) (length xs))
      (λ h. let f : Some i ≡ Some (position_or_len p xs) = rw h at e in let g : i ≡ position_or_len p xs = cc in (g ∙ sym (place_is xs), let k = ltb-true _ _ h in omega arith))
      (λ h. let f : Some i ≡ None = rw h at e in cc)

  pub place_missing : (xs : List A) → None ≡ position p xs → place p xs ≡ length xs
  place_missing xs e =
      test (ltb (position_or_len p xs) (length xs))
      (λ h. let f : None ≡ Some (position_or_len p xs) = rw h at e in cc)
      (λ h. let k = ltb-false _ _ h in let w = place_le p xs in let q = place_is xs in omega arith)

  -- from a place past the end on there is nothing
  pub place_behind : (xs : List A) (i : ℕ) → length xs ≤ i → i ≡ i + place p (drop i xs)
  unfolding place
  place_behind xs i h = rw (drop_of_length-le xs h) (omega arith)
