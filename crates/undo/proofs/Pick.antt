-- A recovery walk never comes to a stop: of any regions that are left there is one on which none of them depends.
-- Assumes nothing.
use Prim.Native.Nat.{ℕ, ◌<◌, ◌≤◌}
use native.Mathlib.Omega.{arith}
use mathlib.Core.Path.{◌≡◌, refl, subst, sym}
use mathlib.Core.Logic.{⊎_elim}
use mathlib.Core.Bool.{true, false, cond}
use mathlib.Core.List.{List, [], ◌∷◌}
use lib.Dec.{eqb, ltb}
use borrow.Author.Tests.{eqb-true, ltb-true, ltb-false}
use Rattle.undo.specs.Table.{is_in}
use Rattle.undo.specs.Machine.{State}
use Rattle.undo.specs.History.{History}
use Rattle.undo.specs.Claim.{Structure, age}
use Rattle.undo.proofs.Laws.{test, never, or_true, or_right, is_same}

-- the region of a list g ∷ gs that has the least rank
pub least : (ℕ → ℕ) → ℕ → List ℕ → ℕ
least rank g [] = g
least rank g (k ∷ ks) = cond (ltb (rank k) (rank (least rank g ks))) k (least rank g ks)

module _ (rank : ℕ → ℕ) (g : ℕ) where
  pub least_in : (gs : List ℕ) → is_in (least rank g gs) (g ∷ gs) ≡ true
  unfolding least
  least_in [] = rw (is_same g)
  least_in (k ∷ ks) =
      test (ltb (rank k) (rank (least rank g ks)))
      (λ d. rw (d, is_same k) (or_right (eqb k g) refl))
      (λ d. let e : least rank g (k ∷ ks) ≡ least rank g ks = rw d in
      subst (λ m. is_in m (g ∷ (k ∷ ks)) ≡ true) (sym e) (⊎_elim (λ p. rw p) (λ p. or_right (eqb (least rank g ks) g) (or_right (eqb (least rank g ks) k) p))
      (or_true (eqb (least rank g ks) g) (is_in (least rank g ks) ks) (least_in ks))))

  pub least_below : (gs : List ℕ) (a : ℕ) → is_in a (g ∷ gs) ≡ true → rank (least rank g gs) ≤ rank a
  unfolding least
  least_below [] a h = ⊎_elim (λ p. rw (eqb-true a g p) (omega arith)) (λ p. never p refl) (or_true (eqb a g) false h)
  least_below (k ∷ ks) a h =
      let ih : is_in a (g ∷ ks) ≡ true → rank (least rank g ks) ≤ rank a = least_below ks a in
      test (ltb (rank k) (rank (least rank g ks)))
      (λ d. let lt : rank k < rank (least rank g ks) = ltb-true (rank k) (rank (least rank g ks)) d in
      rw d (cases (λ p. rw (eqb-true a k p) (omega arith)) (λ p. let z = ih p in omega arith)))
      (λ d. let ge : rank (least rank g ks) ≤ rank k = ltb-false (rank k) (rank (least rank g ks)) d in
      rw d (cases (λ p. rw (eqb-true a k p) ge) ih))
    where
      cases : {C : Type 0} → (eqb a k ≡ true → C) → (is_in a (g ∷ ks) ≡ true → C) → C
      cases f t =
          ⊎_elim (λ p. t (rw p)) (λ p. ⊎_elim f (λ q. t (or_right (eqb a g) q)) (or_true (eqb a k) (is_in a ks) p))
          (or_true (eqb a g) (is_in a (k ∷ ks)) h)

-- none of the regions g ∷ gs depends on the least of them by age
pub picks : {Val : Type 0} (s : State Val) (h : History Val) → Structure s h → (g : ℕ) (gs : List ℕ)
    → (a : ℕ) → is_in a (g ∷ gs) ≡ true → s.dep a (least (age h.ends) g gs) ≡ false
picks s h st g gs a k =
    let r = least (age h.ends) g gs in
    test (s.dep a r)
    (λ d. let lt : age h.ends a < age h.ends r = st.acyclic a r d in
    let ge : age h.ends r ≤ age h.ends a = least_below (age h.ends) g gs a k in
    absurd (omega arith))
    (λ d. d)
