-- Searches in lists: how many, which one is first, which are different, and numbers in rising order.
use Rattle.std.specs.List.{list_all}
use Rattle.std.specs.Prelude.{suc, zero, ℕ, Bool, ◌&&◌, ◌||◌, cond, false, not, true, List, [], ◌++◌, ◌∷◌, eqb, ltb, length}
use Rattle.undo.specs.Table.{keep}

module _ {A : Type 0} where
  -- how many elements pass a test
  unfoldable pub count : (A → Bool) → List A → ℕ
  count p [] = 0
  count p (x ∷ xs) = cond (p x) (suc (count p xs)) (count p xs)

  -- the index of the first element that passes a test; the length where none does
  unfoldable pub place : (A → Bool) → List A → ℕ
  place p [] = 0
  place p (x ∷ xs) = cond (p x) 0 (suc (place p xs))

  -- every element passes
  abbrev pub all : (A → Bool) → List A → Bool
  all p xs = list_all p xs

-- the different numbers of a list, each where it stands first
unfoldable pub different : List ℕ → List ℕ
different [] = []
different (x ∷ xs) = x ∷ keep (λ y. not (eqb y x)) (different xs)

-- the bytes of each element, one behind the other
unfoldable pub flat : {A : Type 0} → (A → List ℕ) → List A → List ℕ
flat f [] = []
flat f (x ∷ xs) = f x ++ flat f xs

-- of two candidates for the least number above k the better one; 0 is none
abbrev pub nearer : ℕ → ℕ → ℕ → ℕ
nearer k best x = cond (ltb k x && (eqb best 0 || ltb x best)) x best

-- the least number above k, or the one that a walk has found already; 0 if there is none
unfoldable pub above_from : ℕ → ℕ → List ℕ → ℕ
above_from k best [] = best
above_from k best (x ∷ xs) = above_from k (nearer k best x) xs

abbrev pub above : ℕ → List ℕ → ℕ
above k xs = above_from k 0 xs

-- the numbers above k in rising order, each once, at most n of them
unfoldable pub rising_from : ℕ → ℕ → List ℕ → List ℕ
rising_from k zero xs = []
rising_from k (suc n) xs = elim (eqb (above k xs) 0) [ true ↦ [] | false ↦ above k xs ∷ rising_from (above k xs) n xs ]

-- the numbers of a list but 0, in rising order, each once
abbrev pub rising : List ℕ → List ℕ
rising xs = rising_from 0 (length xs) xs
