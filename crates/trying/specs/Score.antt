-- Whether an answer is the one that is due, and how many cases are right.
use Rattle.std.specs.Prelude.{◌+◌, ℕ, Bool, ◌&&◌, cond, eqb, ltb}
use Rattle.rules.specs.declared.Answer.{Answer}
use Rattle.trying.specs.declared.Due.{Due}
use Rattle.trying.specs.declared.Total.{Total}

-- refusal and value are those that are due
unfoldable pub agree : Answer → Due → Bool
agree a d = eqb a.refusal d.refusal && eqb a.value d.value

unfoldable pub more : ℕ → ℕ
more n = cond (ltb n 18446744073709551615) (n + 1) n

-- one case more; it counts as right only if it is
unfoldable pub counted : Total → Bool → Total
counted t right = record { cases = more t.cases; right = cond right (more t.right) t.right }
