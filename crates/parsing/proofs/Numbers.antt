-- Numbers read from their digits.
use Prim.Native.Nat.{◌*◌, ◌-◌, ◌+◌, ◌<◌, ◌≤◌, ℕ}
use mathlib.Core.Path.{◌≡◌, refl}
use mathlib.Core.List.{List, [], ◌∷◌}
use lib.Dec.{eqb}
use lib.ListN.{drop, drop_of_length-le, get_or, length}
use native.Mathlib.Omega.{arith}
use native.Mathlib.Numerals.{add-one}
use borrow.Author.Tests.{le-leb, lt-ltb, ne_eqb}
use lib.Seq.{drop-cons}
use Rattle.std.specs.Prelude.{None, Option, Some}
use Rattle.parsing.specs.Read.{most_of, number_from, number_in, with_digit}
use Rattle.undo.proofs.Laws.{test}

pub is_number : (top v b : ℕ) → 48 ≤ b → b ≤ 57 → 10 * v + (b - 48) ≤ top → with_digit top v b ≡ Some (10 * v + (b - 48))
unfolding with_digit
is_number top v b h k l = rw (le-leb 48 b h, lt-ltb b 58 (omega arith), le-leb (10 * v + (b - 48)) top l)

-- the number that fits w bytes has at least one digit
pub most_room : (w : ℕ) → 9 ≤ most_of w
unfolding most_of
most_room w = test (eqb w 1) (λ e. rw e (omega arith)) (λ e. rw e (test (eqb w 2) (λ f. rw f (omega arith)) (λ f. rw f (omega arith))))

pub digit_next : (m v : ℕ) (s : List ℕ) (i : ℕ) → i < length s → number_from m (Some v) (drop i s) ≡ number_from m (with_digit m v (get_or s i 0)) (drop (i + 1) s)
unfolding number_from
digit_next m v s i h = rw (add-one i, drop-cons s i 0 h)

pub digit_not : (m : ℕ) (s : List ℕ) → number_from m None s ≡ None
unfolding number_from
digit_not m [] = refl
digit_not m (c ∷ s) = refl

pub digit_end : (m : ℕ) (n : Option ℕ) (s : List ℕ) (i : ℕ) → length s ≤ i → number_from m n (drop i s) ≡ n
unfolding number_from
digit_end m n s i h = rw (drop_of_length-le s h)

pub number_some : (w : ℕ) (s : List ℕ) → (w ≡ 0 → ⊥) → number_in w s ≡ number_from (most_of w) (Some 0) s
unfolding number_in
number_some w s h = rw (ne_eqb w 0 h)

pub number_none : (s : List ℕ) → number_in 0 s ≡ None
unfolding number_in
number_none s = refl
