-- A line of a case: where a byte stands in it, and its numbers.
use Rattle.std.specs.Prelude.{◌*◌, ◌+◌, ◌-◌, ◌/◌, ◌≤◌, ℕ, ◌≡◌, Bool, ◌&&◌, cond, false, true, List, [], ◌∷◌, eqb, leb, ltb, drop, get_or, length, replicate, set}
use Rattle.rules.specs.Lists.{place}
use Rattle.trying.specs.declared.Due.{Due}
use Rattle.trying.specs.declared.Row.{Row}

-- r is the first place of the byte from `from` on, or the end
pub record Finds (s : List ℕ) (from b r : ℕ) : Type 0 where
  pub first : r ≡ «from» + place (λ c. eqb c b) (drop «from» s)
  pub behind : «from» ≤ r
  pub inside : «from» ≤ length s → r ≤ length s

-- a number with one digit more; the largest one where it has no room
unfoldable pub grown : ℕ → ℕ → ℕ
grown v d = cond (leb v ((18446744073709551615 - d) / 10)) (10 * v + d) 18446744073709551615

unfoldable pub number_grown : List ℕ → ℕ → ℕ → List ℕ
number_grown numbers n d = cond (ltb n 20) (set numbers n (grown (get_or numbers n 0) d)) numbers

unfoldable pub row_digit : Row → ℕ → Row
row_digit r d = record { numbers = number_grown r.numbers r.n d; n = r.n; split = r.split; going = true }

-- the numbers that are whole behind a byte that is no digit; from the 20th on they are one
unfoldable pub whole_in : Row → ℕ
whole_in r = cond r.going (cond (ltb r.n 20) (r.n + 1) r.n) r.n

-- '=' splits the numbers
unfoldable pub row_gap : Row → ℕ → Row
row_gap r c = record { numbers = r.numbers; n = whole_in r; split = cond (eqb c 61) (whole_in r) r.split; going = false }

unfoldable pub is_digit : ℕ → Bool
is_digit c = leb 48 c && ltb c 58

unfoldable pub row_byte : Row → ℕ → Row
row_byte r c = cond (is_digit c) (row_digit r (c - 48)) (row_gap r c)

unfoldable pub row_from : Row → List ℕ → Row
row_from r [] = r
row_from r (c ∷ cs) = row_from (row_byte r c) cs

-- the numbers of a line: the runs of digits in it
unfoldable pub row_of : List ℕ → Row
row_of line = row_byte (row_from (record { numbers = replicate 20 0; n = 0; split = 0; going = false }) line) 32

-- behind the '=' stand the refusal and the value; one number alone is the value, and the refusal 0
unfoldable pub due_in : Row → Due
due_in r =
    cond (leb (r.split + 2) r.n)
    (record { refusal = get_or r.numbers r.split 0; value = get_or r.numbers (r.split + 1) 0 })
    (record { refusal = 0; value = get_or r.numbers r.split 0 })
