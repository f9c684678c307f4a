-- Counting: as many places of the list are held as there are opened regions that are listed, and each commit empties one.
use Prim.Native.Nat.{◌+◌, ◌<◌, suc, zero, ℕ}
use mathlib.Core.Path.{◌∙◌, ◌≡◌, ap, refl, sym}
use mathlib.Core.Bool.{Bool, ◌&&◌, ◌||◌, cond, false, not, true}
use mathlib.Core.List.{List, [], ◌∷◌, map}
use lib.Dec.{eqb}
use lib.ListN.{get_or, length}
use native.Mathlib.Nat.{zero-add}
use native.Mathlib.Numerals.{one-add}
use native.Mathlib.Omega.{arith}
use borrow.Author.Tests.{eqb-false, eqb-true, not-true}
use Rattle.laws.proofs.Opened.{Once, more, nothing}
use Rattle.rules.proofs.Places.{Unique, key_of, listed_at, listed_key, placed_at, unique_commit, unique_mapped}
use Rattle.rules.proofs.Lists.{count_map}
use Rattle.rules.proofs.Sim.Done.{ready}
use Rattle.rules.specs.Commit.{Settled, after_commit, before, commit, commits, done_region, earliest, settle, settled}
use Rattle.rules.specs.Lists.{count, place}
use Rattle.rules.specs.Tables.{is_held, is_key, is_placed, listed, no_region, with_regions}
use Rattle.rules.specs.declared.Region.{Region}
use Rattle.rules.specs.declared.Tables.{Tables}
use Rattle.undo.proofs.Laws.{is_same, or_right, test}
use Rattle.undo.specs.Table.{any, is_in}

abbrev bit : Bool → ℕ
bit b = cond b 1 0

one_of : (a b c : Bool) (n k j : ℕ) → bit a ≡ bit b + bit c → n ≡ k + j → cond a (suc n) n ≡ cond b (suc k) k + cond c (suc j) j
one_of true true true n k j e f = omega arith
one_of true true false n k j e f = omega arith
one_of true false true n k j e f = omega arith
one_of true false false n k j e f = omega arith
one_of false true true n k j e f = omega arith
one_of false true false n k j e f = omega arith
one_of false false true n k j e f = omega arith
one_of false false false n k j e f = omega arith

module _ {A : Type 0} where
  -- a test that two others share out
  pub count_parts : (p q w : A → Bool) (xs : List A) → ((x : A) → bit (p x) ≡ bit (q x) + bit (w x)) → count p xs ≡ count q xs + count w xs
  unfolding count
  count_parts p q w [] h = refl
  count_parts p q w (x ∷ xs) h = one_of (p x) (q x) (w x) (count p xs) (count q xs) (count w xs) (h x) (count_parts p q w xs h)

  pub count_not : (p : A → Bool) (xs : List A) → count p xs + count (λ x. not (p x)) xs ≡ length xs
  unfolding count
  count_not p [] = refl
  count_not p (x ∷ xs) = let ih = count_not p xs in test (p x) (λ e. rw e (omega arith)) (λ e. rw e (omega arith))

  count_same : (p q : A → Bool) (xs : List A) → ((x : A) → p x ≡ q x) → count p xs ≡ count q xs
  unfolding count
  count_same p q [] h = refl
  count_same p q (x ∷ xs) h = rw (h x, count_same p q xs h)

  count_never : (p : A → Bool) (xs : List A) → ((x : A) → p x ≡ false) → count p xs ≡ 0
  unfolding count
  count_never p [] h = refl
  count_never p (x ∷ xs) h = rw (h x) (count_never p xs h)

  pub count_at : (p q : A → Bool) (xs : List A) (d : A) → ((i : ℕ) → i < length xs → p (get_or xs i d) ≡ q (get_or xs i d)) → count p xs ≡ count q xs
  unfolding count
  count_at p q [] d h = refl
  count_at p q (x ∷ xs) d h =
      let a : p x ≡ q x = h 0 (omega arith) in
      rw (a, count_at p q xs d (λ i k. h (suc i) (omega arith)))

  -- only the first passes
  count_only : (p : A → Bool) (xs : List A) (d : A) → ((i : ℕ) → i < length xs → p (get_or xs i d) ≡ true → place p xs ≡ i) → count p xs ≡ bit (any p xs)
  unfolding count place
  count_only p [] d h = refl
  count_only p (x ∷ xs) d h =
      test (p x)
      (λ e. rw e (ap suc (count_at p (λ y. false) xs d (λ i k. test (p (get_or xs i d))
      (λ f. let z : 0 ≡ suc i = rw e at (h (suc i) (omega arith) f) in absurd (omega arith))
      (λ f. f)) ∙ count_never (λ y. false) xs (λ y. refl))))
      (λ e. rw e (count_only p xs d (λ i k f. let z : suc (place p xs) ≡ suc i = rw e at (h (suc i) (omega arith) f) in omega arith)))

-- tests that agree on the numbers of a list
pub count_in : (p q : ℕ → Bool) (xs : List ℕ) → ((k : ℕ) → is_in k xs ≡ true → p k ≡ q k) → count p xs ≡ count q xs
unfolding count
count_in p q [] h = refl
count_in p q (x ∷ xs) h =
    let a : p x ≡ q x = h x (rw (is_same x)) in
    rw (a, count_in p q xs (λ k e. h k (or_right (eqb k x) e)))

-- ---- the list of regions

module _ (rs : List Region) (un : Unique rs) where
  held_once : (y : ℕ) → count (λ r. is_held r && is_key y r) rs ≡ bit (listed y rs)
  held_once y =
      test (eqb y 0)
      (λ z. rw z (count_never (λ r. is_held r && is_key y r) rs (λ r. test (eqb r.key y)
      (λ e. rw (eqb-true r.key y e, z))
      (λ e. rw e (test (is_held r) (λ h. rw h) (λ h. rw h))))))
      (λ z. rw z (count_at (λ r. is_held r && is_key y r) (is_placed y) rs no_region (λ i l. let r = get_or rs i no_region in
      (test (is_key y r)
      (λ e. rw (e, eqb-true r.key y e, z))
      (λ e. rw e (test (is_held r) (λ h. rw h) (λ h. rw h))))
      ∙ sym (placed_at y i rs un z))
      ∙ count_only (is_placed y) rs no_region (λ i k e. let q : (get_or rs i no_region).key ≡ y = key_of y (get_or rs i no_region) e in
      rw (← q) (un i (λ w. eqb-false y 0 z (sym q ∙ w))))))

  pub listed_in : {ys : List ℕ} → Once ys → count (λ k. listed k rs) ys ≡ count (λ r. is_held r && is_in r.key ys) rs
  unfolding count
  listed_in nothing = sym (count_never (λ r. is_held r && false) rs (λ r. test (is_held r) (λ h. rw h) (λ h. rw h)))
  listed_in (more {x} {xs} n o) =
      let ih = listed_in o in
      let sp : count (λ r. is_held r && (eqb r.key x || is_in r.key xs)) rs
      ≡ count (λ r. is_held r && is_key x r) rs + count (λ r. is_held r && is_in r.key xs) rs
      = count_parts (λ r. is_held r && (eqb r.key x || is_in r.key xs)) (λ r. is_held r && is_key x r) (λ r. is_held r && is_in r.key xs) rs
      (λ r. test (is_held r)
      (λ h. rw h (test (eqb r.key x)
      (λ e. let f : is_in r.key xs ≡ false = rw (eqb-true r.key x e) n in rw (e, f))
      (λ e. rw e (sym (zero-add (bit (is_in r.key xs)))))))
      (λ h. rw h)) in
      sym (sp ∙ rw (held_once x, ← ih) (test (listed x rs)
      (λ e. rw e (one-add (count (λ k. listed k rs) xs)))
      (λ e. rw e (zero-add (count (λ k. listed k rs) xs)))))

  -- as many places are held as numbers of a list are listed that has them all
  pub held_count : {ys : List ℕ} → Once ys → ((k : ℕ) → listed k rs ≡ true → is_in k ys ≡ true) → count is_held rs ≡ count (λ k. listed k rs) ys
  held_count {ys} o sub =
      count_at is_held (λ r. is_held r && is_in r.key ys) rs no_region
      (λ i h. test (is_held (get_or rs i no_region))
      (λ e. let n = eqb-false (get_or rs i no_region).key 0 (not-true (eqb (get_or rs i no_region).key 0) e) in
      rw (e, sub (get_or rs i no_region).key (listed_at i rs un n h)))
      (λ e. rw e))
      ∙ sym (listed_in o)

  -- a commit empties one
  one_less : (k : ℕ) → listed k rs ≡ true → count is_held rs ≡ suc (count is_held (map (after_commit k) rs))
  unfolding after_commit
  one_less k in' =
      count_parts is_held (λ r. is_held r && is_key k r) (λ r. is_held (after_commit k r)) rs
      (λ r. test (eqb r.key k)
      (λ e. rw (e, eqb-true r.key k e, listed_key k rs in'))
      (λ e. rw e (test (is_held r) (λ h. rw h) (λ h. rw h))))
      ∙ rw (held_once k, in', count_map is_held (λ r. is_held (after_commit k r)) (after_commit k) rs (λ r. refl)) (one-add (count (λ r. is_held (after_commit k r)) rs))

-- ---- the commits of a step

settle_held : (n : ℕ) (ts : Tables) → Unique ts.regions → length (settle n ts).keys + count is_held (settle n ts).tables.regions ≡ count is_held ts.regions
unfolding settle commit
settle_held zero ts un = zero-add (count is_held ts.regions)
settle_held (suc n) ts un = go (commits (earliest ts.regions)) refl (settle_held n (commit (earliest ts.regions).key ts))
  where
    Adds : List Region → Settled → Type 0
    Adds rs x = length x.keys + count is_held x.tables.regions ≡ count is_held rs

    go : (x : Bool) → commits (earliest ts.regions) ≡ x
        → (Unique (map (after_commit (earliest ts.regions).key) ts.regions)
        → Adds (map (after_commit (earliest ts.regions).key) ts.regions) (settle n (commit (earliest ts.regions).key ts)))
        → Adds ts.regions (elim x as (λ y. Settled) [
          | false ↦ record { tables = ts; keys = [] }
          | true ↦ before (earliest ts.regions).key (settle n (commit (earliest ts.regions).key ts))
        ])
    go false e ih = zero-add (count is_held ts.regions)
    go true e ih =
        let r = ready ts.regions un e in
        let z = one_less ts.regions un (earliest ts.regions).key r.0 in
        let y = ih (unique_commit (earliest ts.regions).key ts.regions (listed_key (earliest ts.regions).key ts.regions r.0) un) in
        omega arith

pub settled_held : (ts : Tables) → Unique ts.regions → length (settled ts).keys + count is_held (settled ts).tables.regions ≡ count is_held ts.regions
unfolding settled done_region
settled_held ts un =
    settle_held (length ts.regions) (with_regions (map done_region ts.regions) ts) (unique_mapped done_region ts.regions refl (λ r. (refl, refl)) un)
    ∙ count_map is_held is_held done_region ts.regions (λ r. refl)
