-- Byte i of a word is what a shift by 8 * i bits leaves lowest.
use Prim.Native.Nat.{◌%◌, ◌*◌, ◌+◌, ◌/◌, ◌<◌, ◌^◌, ◌≤◌, suc, zero, ℕ}
use mathlib.Core.Path.{◌∙◌, ◌≡◌, ap, refl, sym}
use lib.Pow.{pow-add, pow_mono}
use native.Mathlib.Nat.{div-eq_of_lt, lt_of_lt_of_le, pow-succ'}
use native.Mathlib.Omega.{arith}
use Rattle.rules.specs.Bytes.{byte_of}

eights : (i : ℕ) → 2 ^ (8 * i) ≡ 256 ^ i
eights zero = refl
eights (suc i) =
    ap (λ k. 2 ^ k) (let q : 8 * suc i ≡ 8 + 8 * i = omega arith in q)
    ∙ pow-add 2 8 (8 * i) ∙ ap (λ p. 256 * p) (eights i) ∙ sym (pow-succ' 256 i)

pub shifted : (x i : ℕ) → x / 2 ^ (8 * i) % 256 ≡ byte_of i x
shifted x i = ap (λ p. x / p % 256) (eights i)

-- a word has eight
pub none_left : (x i : ℕ) → x < 18446744073709551616 → 8 ≤ i → 0 ≡ byte_of i x
none_left x i h g =
    ap (λ q. q % 256) (sym (div-eq_of_lt (lt_of_lt_of_le h (pow_mono {i = 64} {j = 8 * i} (omega arith))))) ∙ shifted x i
