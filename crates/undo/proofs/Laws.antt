-- Laws of tests, lists and tables.
-- Assumes nothing.
use Prim.Native.Nat.{ℕ}
use mathlib.Core.Path.{◌≡◌, refl, sym, ap, ◌∙◌, subst}
use mathlib.Core.Logic.{◌⊎◌, inl, inr}
use mathlib.Core.Bool.{Bool, true, false, ◌&&◌, ◌||◌, true≢false, false≢true}
use mathlib.Core.List.{List, [], ◌∷◌}
use lib.Dec.{eqb}
use borrow.Author.Tests.{eqb-true, eqb-false, eq-eqb, ne_eqb}
use Rattle.undo.specs.Table.{keep, any}

-- a test, with what it gave
pub test {ℓ} : {C : Type ℓ} (b : Bool) → (b ≡ true → C) → (b ≡ false → C) → C
test true f g = f refl
test false f g = g refl

-- a test gives one answer only
pub never {ℓ} : {C : Type ℓ} {b : Bool} → b ≡ true → b ≡ false → C
never p q = absurd (true≢false (sym p ∙ q))

pub or_true : (a b : Bool) → (a || b) ≡ true → (a ≡ true) ⊎ (b ≡ true)
or_true true b e = inl refl
or_true false b e = inr e

pub or_false : (a b : Bool) → (a || b) ≡ false → (a ≡ false) × (b ≡ false)
or_false true b e = absurd (true≢false e)
or_false false b e = (refl, e)

pub and_true : (a b : Bool) → (a && b) ≡ true → (a ≡ true) × (b ≡ true)
and_true true b e = (refl, e)
and_true false b e = absurd (false≢true e)

pub or_right : (a : Bool) {b : Bool} → b ≡ true → (a || b) ≡ true
or_right true e = refl
or_right false e = e

-- ---- numbers

pub same : {a b : ℕ} → eqb a b ≡ true → a ≡ b
same {a} {b} e = eqb-true a b e

pub is_same : (a : ℕ) → eqb a a ≡ true
is_same a = eq-eqb a a refl

pub flip : (a b : ℕ) → eqb a b ≡ false → eqb b a ≡ false
flip a b e = ne_eqb b a (λ q. eqb-false a b e (sym q))

-- two numbers that one test tells apart
pub differ : (f : ℕ → Bool) (a b : ℕ) → f a ≡ true → f b ≡ false → eqb a b ≡ false
differ f a b p q = ne_eqb a b (λ e. never p (ap f e ∙ q))

-- ---- lists

-- what is kept was there
pub any_of_keep : {A : Type 0} (p q : A → Bool) (xs : List A) → any p (keep q xs) ≡ true → any p xs ≡ true
any_of_keep p q [] e = e
any_of_keep p q (x ∷ xs) e =
    test (p x)
    (λ a. rw a)
    (λ a. rw a (any_of_keep p q xs (test (q x) (λ b. simp (b, a) at e) (λ b. rw b at e))))

pub cons_nil : {A : Type 0} {x : A} {xs : List A} → x ∷ xs ≡ [] → ⊥
cons_nil {A = A} q = true≢false (ap (any (λ (y : A). true)) q)

-- ---- tables

-- what holds at line l, and at the others, holds at each
pub per_line : {P : ℕ → Type 0} (l : ℕ) → P l → ((k : ℕ) → eqb k l ≡ false → P k) → (k : ℕ) → P k
per_line {P} l here there k = test (eqb k l) (λ d. subst P (sym (eqb-true k l d)) here) (λ d. there k d)
