-- What is left of a piece goes to the front of its buffer, and what is read comes behind it.
use Rattle.std.specs.Prelude.{◌-◌, ◌≤◌, ℕ, ◌≡◌, Bool, cond, true, List, ◌++◌, leb, drop, length, take}

-- how many bytes stand from `at` up to n; none if the buffer is shorter
unfoldable pub moved : List ℕ → ℕ → ℕ → ℕ
moved d at n = cond (leb n (length d)) (n - at) 0

-- the buffer with k bytes from `at` on at its front, and its other bytes as they were
unfoldable pub shifted : List ℕ → ℕ → ℕ → List ℕ
shifted d at k = take k (drop at d) ++ drop k d

-- the first bytes of a buffer stay, and r of its bytes count then: those, and as many as are read behind them.
-- Which these are, and what stands behind them, is the input's and the system's choice
pub record Refilled (d d' : List ℕ) (have r : ℕ) : Type 0 where
  pub stays : take have d' ≡ take have d
  pub counts : r ≤ length d'
  pub grows : have ≤ length d → have ≤ r
  pub full : length d ≤ have → r ≡ length d

-- bytes are read behind those that are held; none where the input has ended
pub record Filled (d d' : List ℕ) (held : ℕ) (last : Bool) (r : ℕ) : Type 0 where
  pub refilled : Refilled d d' held r
  pub none : last ≡ true → r ≤ held
