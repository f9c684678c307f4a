-- What a search answers: the first place that passes, or that there is none.
use Rattle.std.specs.Prelude.{◌≡◌, ◌<◌, ◌≤◌, ℕ, Bool, List, Option, MatchOption, length}
use Rattle.rules.specs.Lists.{place}

abbrev pub IsPlace : {A : Type 0} → (A → Bool) → List A → Option ℕ → Type 0
IsPlace p xs r = MatchOption r (length xs ≤ place p xs) (λ i. (place p xs ≡ i) × (i < length xs))
