-- Without a circle among its dependences, a list of regions has one on which no other depends, whatever remains of it.
use Prim.Native.Nat.{◌≤◌, suc, zero, ℕ}
use mathlib.Core.Path.{◌≡◌, refl}
use mathlib.Core.Logic.{⊎_elim}
use mathlib.Core.Bool.{Bool, ◌&&◌, ◌||◌, false, false≢true, not, true}
use mathlib.Core.List.{List, [], ◌∷◌, map}
use lib.Dec.{eqb, ltb}
use lib.ListN.{length, length-map}
use native.Mathlib.Omega.{arith}
use borrow.Author.Tests.{eqb-true, ltb-false, ne_eqb}
use Rattle.rules.proofs.Recover.Rising.{Rises, rises_above}
use Rattle.rules.proofs.Recover.Saved.{any_of}
use Rattle.rules.proofs.Recover.Walk.{needed, next_of}
use Rattle.rules.proofs.Lists.{place_lt}
use Rattle.rules.specs.Contradiction.{deps_of, is_circle, reaches, reaches_in}
use Rattle.rules.specs.declared.Listed.{Listed}
use Rattle.undo.proofs.Laws.{is_same, never, or_false, or_right, or_true, test}
use Rattle.undo.specs.Table.{any, is_in}
use Rattle.rules.proofs.AnyOrder.{drop_one, one_fewer, still_in}

-- ---- more numbers than a list has: one comes twice

abbrev pub repeated : List ℕ → Bool
repeated [] = false
repeated (k ∷ ks) = is_in k ks || repeated ks

pub once_fits : (ks js : List ℕ) → ((k : ℕ) → is_in k ks ≡ true → is_in k js ≡ true) → repeated ks ≡ false → length ks ≤ length js
once_fits [] js f e = omega arith
once_fits (k ∷ ks) js f e =
    let o = or_false (is_in k ks) (repeated ks) e in
    let l = one_fewer k js (f k (rw (is_same k))) in
    let ih = once_fits ks (drop_one k js)
    (λ j h. still_in j k js (test (eqb j k) (λ a. never (rw (eqb-true j k a) at h) o.0) (λ a. a)) (f j (or_right (eqb j k) h))) o.1 in
    omega arith

-- ---- regions one behind the other, each a dependence of the one before

pub data Path (rs : List Listed) : List ℕ → Type 0 where
  single : {a : ℕ} → Path rs (a ∷ [])
  longer : {a k : ℕ} {ks : List ℕ} → is_in k (deps_of a rs) ≡ true → eqb k 0 ≡ false → Path rs (k ∷ ks) → Path rs (a ∷ (k ∷ ks))

-- a number that passes a test
pub record Found (p : ℕ → Bool) (xs : List ℕ) : Type 0 where
  pub which : ℕ
  pub within : is_in which xs ≡ true
  pub passes : p which ≡ true

found : (p : ℕ → Bool) (xs : List ℕ) → any p xs ≡ true → Found p xs
found p [] e = absurd (false≢true e)
found p (x ∷ xs) e =
    test (p x) (λ a. record { which = x; within = rw (is_same x); passes = a })
    (λ a. let f = found p xs (rw a at e) in record { which = f.which; within = or_right (eqb f.which x) f.within; passes = f.passes })

module _ (rs : List Listed) where
  -- the first reaches all others
  pub path_reaches : {a : ℕ} {ks : List ℕ} → Path rs (a ∷ ks) → (b n : ℕ) → is_in b ks ≡ true → length ks ≤ n → reaches_in n rs a b ≡ true
  unfolding reaches_in
  path_reaches single b n e h = absurd (false≢true e)
  path_reaches (longer d z q) b zero e h = absurd (omega arith)
  path_reaches (longer {a = a} {k = k} {ks = ks} d z q) b (suc n) e h =
      any_of (λ d. not (eqb d 0) && (eqb d b || reaches_in n rs d b)) (deps_of a rs) k d
      (rw z (test (eqb k b) (λ y. rw y)
      (λ y. or_right (eqb k b) (path_reaches q b n (rw (ne_eqb b k (λ w. never (rw w (is_same k)) y)) at e) (omega arith)))))

  -- where one comes twice, it reaches itself
  pub path_circles : {ks : List ℕ} (n : ℕ) → Path rs ks → repeated ks ≡ true → length ks ≤ suc n → Found (λ a. reaches_in n rs a a) ks
  path_circles n single e h = absurd (false≢true e)
  path_circles n (longer {a = a} {k = k} {ks = ks} d z q) e h =
      ⊎_elim
      (λ y. record { which = a; within = rw (is_same a); passes = path_reaches (longer d z q) a n y (omega arith) })
      (λ y. let f = path_circles n q y (omega arith) in record { which = f.which; within = or_right (eqb f.which a) f.within; passes = f.passes })
      (or_true (is_in a (k ∷ ks)) (repeated (k ∷ ks)) e)

  abbrev pub deps_in : ℕ → List ℕ
  deps_in k = deps_of k rs

  -- a path inside a list, of n steps
  pub record Inside (ks : List ℕ) (n : ℕ) : Type 0 where
    pub start : ℕ
    pub rest : List ℕ
    pub steps : length rest ≡ n
    pub path : Path rs (start ∷ rest)
    pub within : (x : ℕ) → is_in x (start ∷ rest) ≡ true → is_in x ks ≡ true

  -- where each is needed, paths inside are as long as you like
  pub goes_on : (ks : List ℕ) → ((x : ℕ) → is_in x ks ≡ true → eqb x 0 ≡ false) → ((x : ℕ) → is_in x ks ≡ true → needed deps_in ks x ≡ true)
      → (a : ℕ) → is_in a ks ≡ true → (n : ℕ) → Inside ks n
  goes_on ks z f a h zero =
      record {
        start = a;
        rest = [];
        steps = refl;
        path = single;
        within = λ x e. rw (eqb-true x a (⊎_elim (λ y. y) (λ y. absurd (false≢true y)) (or_true (eqb x a) false e))) h;
      }
  goes_on ks z f a h (suc n) =
      let i = goes_on ks z f a h n in
      let s : is_in i.start ks ≡ true = i.within i.start (rw (is_same i.start)) in
      let g = found (λ b. is_in i.start (deps_in b)) ks (f i.start s) in
      let l = i.steps in
      record {
        start = g.which;
        rest = i.start ∷ i.rest;
        steps = omega arith;
        path = longer g.passes (z i.start s) i.path;
        within = λ x e. ⊎_elim (λ y. rw (eqb-true x g.which y) g.within) (λ y. i.within x y)
            (or_true (eqb x g.which) (is_in x (i.start ∷ i.rest)) e);
      }

-- ---- a list of regions without a circle

abbrev pub keys_in : List Listed → List ℕ
keys_in rs = map (λ r. r.key) rs

no_circle : (rs qs : List Listed) (k : ℕ) → any (is_circle rs) qs ≡ false → is_in k (keys_in qs) ≡ true → reaches rs k k ≡ false
no_circle rs [] k c e = absurd (false≢true e)
no_circle rs (q ∷ qs) k c e =
    let o = or_false (is_circle rs q) (any (is_circle rs) qs) c in
    ⊎_elim (λ y. rw (eqb-true k q.key y) o.0) (λ y. no_circle rs qs k o.1 y) (or_true (eqb k q.key) (is_in k (keys_in qs)) e)

module _ (rs : List Listed) (calm : any (is_circle rs) rs ≡ false) where
  all_needed : (ks : List ℕ) → ltb (next_of (deps_in rs) ks) (length ks) ≡ false → (x : ℕ) → is_in x ks ≡ true → needed (deps_in rs) ks x ≡ true
  all_needed ks q x h =
      test (needed (deps_in rs) ks x) (λ a. a)
      (λ a. let lt = place_lt (λ k. not (needed (deps_in rs) ks k)) ks (any_of (λ k. not (needed (deps_in rs) ks k)) ks x h (rw a)) in
      let ge = ltb-false (next_of (deps_in rs) ks) (length ks) q in
      absurd (omega arith))

  pub not_stuck : (ks : List ℕ) (a : ℕ) → Rises 0 ks → ((x : ℕ) → is_in x ks ≡ true → is_in x (keys_in rs) ≡ true) → is_in a ks ≡ true
      → ltb (next_of (deps_in rs) ks) (length ks) ≡ false → ⊥
  unfolding reaches
  not_stuck ks a r f h q =
      let n = length rs in
      let i = goes_on rs ks (λ x e. ne_eqb x 0 (λ w. omega (arith, rises_above r x e))) (all_needed ks q) a h n in
      let l = i.steps in
      let m = length-map rs (λ (r : Listed). r.key) in
      let again : repeated (i.start ∷ i.rest) ≡ true
      = test (repeated (i.start ∷ i.rest)) (λ y. y)
      (λ y. let z = once_fits (i.start ∷ i.rest) (keys_in rs) (λ x e. f x (i.within x e)) y in absurd (omega arith)) in
      let c = path_circles rs n i.path again (omega arith) in
      never {b = reaches_in n rs c.which c.which} c.passes (no_circle rs rs c.which calm (f c.which (i.within c.which c.within)))
