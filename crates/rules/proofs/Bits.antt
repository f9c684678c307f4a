-- The bits of a number.
use Prim.Native.Nat.{◌%◌, ◌+◌, ◌-◌, ◌/◌, ◌<◌, ◌^◌, ◌≤◌, suc, zero, ℕ}
use mathlib.Core.Path.{◌∙◌, ◌≡◌, ap, refl}
use mathlib.Core.Logic.{◌≢◌}
use mathlib.Core.Bool.{Bool, ◌||◌, false, true}
use lib.Bits.{bit_or, or_mod, or_shr}
use lib.Dec.{eqb, ltb}
use lib.Pow.{pow-add, pow-lt, pow_pos}
use native.Mathlib.Nat.{div-eq_of_lt, div_self, mod-lt, mul-div_cancel, mul-mod_left, zero-div}
use native.Mathlib.Omega.{arith}
use borrow.Author.Tests.{eq-eqb, eqb-false, eqb-true, ltb-false, ltb-true}
use Rattle.rules.specs.Access.{is_set}
use Rattle.undo.proofs.Laws.{test}

pub bit_zero : (b : ℕ) → is_set b 0 ≡ false
bit_zero b = rw (zero-div (2 ^ b))

-- two digits
pub low_or : (s t : ℕ) → s < 2 → t < 2 → eqb (bit_or s t) 1 ≡ (eqb s 1 || eqb t 1)
low_or zero t h k = refl
low_or (suc zero) zero h k = refl
low_or (suc zero) (suc zero) h k = refl
low_or (suc zero) (suc (suc t)) h k = absurd (omega arith)
low_or (suc (suc s)) t h k = absurd (omega arith)

pub bit_or_lem : (x y b : ℕ) → is_set b (bit_or x y) ≡ (is_set b x || is_set b y)
bit_or_lem x y b =
    ap (λ z. eqb (z % 2) 1) (or_shr x y b)
    ∙ ap (λ z. eqb z 1) (or_mod (x / 2 ^ b) (y / 2 ^ b) 1)
    ∙ low_or (x / 2 ^ b % 2) (y / 2 ^ b % 2) (mod-lt (x / 2 ^ b) (omega arith)) (mod-lt (y / 2 ^ b) (omega arith))

pub bit_pow : (q b : ℕ) → is_set b (2 ^ q) ≡ eqb q b
bit_pow q b = test (eqb q b) (λ e. rw (eqb-true q b e, eq-eqb b b refl, div_self (pow_pos b))) (λ e. other (ltb q b) refl e)
  where
    higher : (k : ℕ) → q ≡ k + 1 + b → is_set b (2 ^ q) ≡ false
    higher k s = rw (s, pow-add 2 (k + 1) b, mul-div_cancel (2 ^ (k + 1)) (pow_pos b), pow-add 2 k 1, mul-mod_left (2 ^ k) 2)

    other : (t : Bool) → ltb q b ≡ t → eqb q b ≡ false → is_set b (2 ^ q) ≡ eqb q b
    other true h e = rw (e, div-eq_of_lt (pow-lt (ltb-true q b h)))
    other false h e =
        let g : b ≤ q = ltb-false q b h in
        let n : q ≢ b = eqb-false q b e in
        let s : q ≡ (q - b - 1) + 1 + b = omega arith in
        rw e (higher (q - b - 1) s)
