-- Numbers in decimal.
use Prim.Native.Nat.{◌%◌, ◌*◌, ◌+◌, ◌/◌, ◌<◌, ◌^◌, ◌≤◌, suc, zero, ℕ}
use mathlib.Core.Path.{◌∙◌, ◌≡◌}
use mathlib.Core.Bool.{Bool, cond, false, true}
use mathlib.Core.List.{List, [], ◌++◌, ◌∷◌}
use lib.Dec.{ltb}
use lib.ListN.{length, length-append}
use native.Mathlib.Omega.{arith}
use borrow.Author.Tests.{le-ltb, lt-ltb}
use native.Mathlib.Nat.{div-lt_iff_lt-mul, pow-suc}
use Rattle.output.specs.Decimal.{decimal, digits}

-- more room for digits than a number has makes no difference
pub digits_more : (f n : ℕ) → n < 10 ^ f → 0 < f → digits f n ≡ digits (suc f) n
unfolding digits
digits_more zero n h z = absurd (omega arith)
digits_more (suc zero) n h z = let k : n < 10 = omega arith in rw (lt-ltb n 10 k)
digits_more (suc (suc f)) n h z =
    let g : n < 10 ^ suc f * 10 = omega (arith, pow-suc 10 (suc f)) in
    let t : 0 < 10 = omega arith in
    let ih = digits_more (suc f) (n / 10) ((div-lt_iff_lt-mul t).1 g) (omega arith) in
    rw ih

pub decimal_small : (n : ℕ) → n < 10 → decimal n ≡ (48 + n % 10) ∷ []
unfolding decimal digits
decimal_small n h = let e : n % 10 ≡ n = omega arith in rw (lt-ltb n 10 h, e)

last_digit : (n : ℕ) → 10 ≤ n → digits 20 n ≡ digits 19 (n / 10) ++ ((48 + n % 10) ∷ [])
unfolding digits
last_digit n l = rw (le-ltb n 10 l)

-- the digits of a number: those of its tenth, then the last one
pub decimal_more : (n : ℕ) → n < 18446744073709551616 → 10 ≤ n → decimal n ≡ decimal (n / 10) ++ ((48 + n % 10) ∷ [])
unfolding decimal
decimal_more n h l = last_digit n l ∙ rw (digits_more 19 (n / 10) (omega arith) (omega arith))

pub either_short : (b : Bool) (x y : List ℕ) (m : ℕ) → length x ≤ m → length y ≤ m → length (cond b x y) ≤ m
either_short true x y m h k = h
either_short false x y m h k = k

digits_short : (f n : ℕ) → length (digits f n) ≤ f
unfolding digits
digits_short zero n = omega arith
digits_short (suc f) n =
    either_short (ltb n 10) ((48 + n) ∷ []) (digits f (n / 10) ++ ((48 + n % 10) ∷ [])) (suc f) (omega arith)
    (omega (arith, length-append (digits f (n / 10)) ((48 + n % 10) ∷ []), digits_short f (n / 10)))

-- a number below 2^64 has at most twenty digits
pub decimal_short : (n : ℕ) → length (decimal n) ≤ 20
unfolding decimal
decimal_short n = digits_short 20 n
