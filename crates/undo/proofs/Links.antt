-- The links of a line's entries, the order of the dependences, and what a region drew on are kept by each action.
-- Assumes nothing.
use Prim.Native.Nat.{ℕ}
use mathlib.Core.Path.{◌≡◌, refl}
use mathlib.Core.Logic.{◌⊎◌, inl, inr, ⊎_elim}
use mathlib.Core.Bool.{Bool, true, false, ◌&&◌, false≢true}
use mathlib.Core.Option.{Option, none, some}
use mathlib.Core.List.{List, [], ◌∷◌}
use lib.Dec.{eqb}
use borrow.Author.Tests.{eqb-true}
use Rattle.undo.specs.Table.{put, is_in}
use Rattle.undo.specs.Machine.{Entry, owns, follows, freed}
use Rattle.undo.specs.History.{Use, used, drawing}
use Rattle.undo.proofs.Laws.{test, never, or_true, or_false, and_true, is_same, flip, same, differ, cons_nil}
use Rattle.undo.proofs.Inv.{Link, no_entry, one_entry, entries, Topo, no_region, region, Covered}

-- ---- a dependence more

abbrev pub added : ℕ → ℕ → (ℕ → ℕ → Bool) → ℕ → ℕ → Bool
added r q dep = put r (put q true (dep r)) dep

pub edge_more : (dep : ℕ → ℕ → Bool) (r q a b : ℕ) → dep a b ≡ true → added r q dep a b ≡ true
edge_more dep r q a b h =
    test (eqb a r) (λ d. test (eqb b q) (λ f. rw (d, f)) (λ f. rw (d, f, ← eqb-true a r d) h)) (λ d. rw d h)

pub edge_new : (dep : ℕ → ℕ → Bool) (r q : ℕ) → added r q dep r q ≡ true
edge_new dep r q = rw (is_same r, is_same q)

pub edge_was : (dep : ℕ → ℕ → Bool) (r q a b : ℕ) → added r q dep a b ≡ true → ((a ≡ r) × (b ≡ q)) ⊎ (dep a b ≡ true)
edge_was dep r q a b h =
    test (eqb a r)
    (λ d. test (eqb b q) (λ f. inl (same d, same f)) (λ f. inr (let z : dep r b ≡ true = rw (d, f) at h in rw (eqb-true a r d) z)))
    (λ d. inr (rw d at h))

-- ---- a region commits: the dependences on it vanish

abbrev pub cleared : ℕ → (ℕ → ℕ → Bool) → ℕ → ℕ → Bool
cleared r dep a = put r false (dep a)

pub edge_left : (dep : ℕ → ℕ → Bool) (r a b : ℕ) → cleared r dep a b ≡ true → (eqb b r ≡ false) × (dep a b ≡ true)
edge_left dep r a b h = test (eqb b r) (λ d. absurd (false≢true (rw d at h))) (λ d. (d, rw d at h))

edge_kept : (dep : ℕ → ℕ → Bool) (r a b : ℕ) → eqb r b ≡ false → dep a b ≡ true → cleared r dep a b ≡ true
edge_kept dep r a b n h = rw (flip r b n) h

-- ---- a line's entries

module _ {Val : Type 0} where
  pub link_more : {dep : ℕ → ℕ → Bool} {c : List (Entry Val)} (r q : ℕ) → Link dep c → Link (added r q dep) c
  link_more r q no_entry = no_entry
  link_more r q one_entry = one_entry
  link_more {dep} r q (entries {e = e} {f = f} n g lk) = entries n (edge_more dep r q e.rid f.rid g) (link_more r q lk)

  pub link_first : {dep : ℕ → ℕ → Bool} {c : List (Entry Val)} (r : ℕ) (v : Val) → follows dep r c ≡ true → owns r c ≡ false → Link dep c
      → Link dep (record { rid = r; old = v } ∷ c)
  link_first {c = []} r v h o lk = one_entry
  link_first {c = e ∷ c} r v h o lk = entries {f = e} o h lk

  pub link_tail : {dep : ℕ → ℕ → Bool} {e : Entry Val} {c : List (Entry Val)} → Link dep (e ∷ c) → Link dep c
  link_tail one_entry = no_entry
  link_tail (entries n g lk) = lk

  -- an entry of a region without dependences is the oldest of its line
  pub oldest : {dep : ℕ → ℕ → Bool} {e : Entry Val} {c : List (Entry Val)} (r : ℕ) → ((q : ℕ) → dep r q ≡ false) → eqb r e.rid ≡ true
      → Link dep (e ∷ c) → c ≡ []
  oldest r h d one_entry = refl
  oldest r h d (entries {e = e} {f = f} n g lk) = never g (rw (← eqb-true r e.rid d) (h f.rid))

  pub link_commit : {dep : ℕ → ℕ → Bool} {c : List (Entry Val)} (r : ℕ) → ((q : ℕ) → dep r q ≡ false) → Link dep c → Link (cleared r dep) (freed r c)
  link_commit r h no_entry = no_entry
  link_commit r h (one_entry {e = e}) = test (eqb r e.rid) (λ d. rw d no_entry) (λ d. rw d one_entry)
  link_commit {dep} r h (entries {e = e} {f = f} {c = c} n g lk) =
      let ih : Link (cleared r dep) (freed r (f ∷ c)) = link_commit r h lk in
      test (eqb r e.rid)
      (λ d. absurd (cons_nil (oldest r h d (entries {e = e} n g lk))))
      (λ d. test (eqb r f.rid)
      (λ t. rw (d, t, oldest r h t lk) one_entry)
      (λ t. rw (d, t) (entries n (edge_kept dep r e.rid f.rid t g) (rw t at ih))))

-- ---- the order of ends

-- region r, which has not ended, depends on one more
pub topo_more : {dep : ℕ → ℕ → Bool} {rs : List ℕ} (r q : ℕ) → is_in r rs ≡ false → Topo dep rs → Topo (added r q dep) rs
topo_more r q n no_region = no_region
topo_more r q n (region {r = k} {rs = rs} h tp) =
    region (λ a b. let d : eqb a r ≡ false = differ (λ i. is_in i (k ∷ rs)) a r b n in rw d (h a b)) (topo_more r q (or_false (eqb r k) (is_in r rs) n).1 tp)

pub topo_commit : {dep : ℕ → ℕ → Bool} {rs : List ℕ} (r : ℕ) → Topo dep rs → Topo (cleared r dep) rs
topo_commit r no_region = no_region
topo_commit r (region {r = k} {rs = rs} h tp) = region {r = k} {rs = rs} (λ a b. test (eqb k r) (λ d. rw d) (λ d. rw d (h a b))) (topo_commit r tp)

-- ---- what a region drew on

module _ (dep : ℕ → ℕ → Bool) (done : ℕ → Bool) (us : List Use) where
  pub covered_drawing : (r : ℕ) (o : Option ℕ) → ((q : ℕ) → o ≡ some q → (eqb r q ≡ true) ⊎ ((done q ≡ true) ⊎ (dep r q ≡ true)))
      → Covered dep done us → Covered dep done (drawing r o us)
  covered_drawing r none f k = k
  covered_drawing r (some q) f k = λ a b h.
      ⊎_elim
      (λ p. let z = and_true (eqb a r) (eqb b q) p in rw (eqb-true a r z.0, eqb-true b q z.1) (f q refl))
      (λ p. k a b p)
      (or_true (eqb a r && eqb b q) (used a b us) h)

  pub covered_more : (r q : ℕ) → Covered dep done us → Covered (added r q dep) done us
  covered_more r q k = λ a b h. ⊎_elim (λ p. inl p) (λ p. ⊎_elim (λ t. inr (inl t)) (λ t. inr (inr (edge_more dep r q a b t))) p) (k a b h)

  pub covered_commit : (r : ℕ) → Covered dep done us → Covered (cleared r dep) (put r true done) us
  covered_commit r k = λ a b h.
      test (eqb b r)
      (λ d. inr (inl (rw d)))
      (λ d. rw d (k a b h))
