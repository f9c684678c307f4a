-- Numbers in decimal.
use Rattle.std.specs.Prelude.{◌%◌, ◌+◌, ◌/◌, suc, zero, ℕ, cond, List, [], ◌++◌, ◌∷◌, ltb}

-- the decimal digits of n, at most f of them, the highest first
unfoldable pub digits : ℕ → ℕ → List ℕ
digits zero n = []
digits (suc f) n = cond (ltb n 10) ((48 + n) ∷ []) (digits f (n / 10) ++ ((48 + n % 10) ∷ []))

-- a number below 2^64 has at most 20
unfoldable pub decimal : ℕ → List ℕ
decimal n = digits 20 n
