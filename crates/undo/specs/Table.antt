-- Searches in lists, and tables as functions.
-- Assumes nothing.
use Rattle.std.specs.Prelude.{ℕ, Bool, cond, List, [], ◌∷◌, eqb}
use Rattle.std.specs.List.{list_any}

module _ {A : Type 0} where
  -- the elements that pass a test, and whether one passes
  abbrev pub keep : (A → Bool) → List A → List A
  keep p [] = []
  keep p (x ∷ xs) = cond (p x) (x ∷ keep p xs) (keep p xs)

  abbrev pub any : (A → Bool) → List A → Bool
  any p xs = list_any p xs

  -- table f with x at place l
  abbrev pub put : ℕ → A → (ℕ → A) → ℕ → A
  put l x f k = cond (eqb k l) x (f k)

abbrev pub is_in : ℕ → List ℕ → Bool
is_in x = any (eqb x)
