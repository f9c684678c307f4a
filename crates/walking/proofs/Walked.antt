-- The entries of the walk are those at the indices of the walk.
use Rattle.std.proofs.lemmas.List.{drop-map}
use Rattle.std.specs.Prelude.{None, Some}
use Prim.Native.Nat.{◌-◌, ◌<◌, ◌≤◌, suc, zero, ℕ}
use mathlib.Core.Path.{◌∙◌, ◌≡◌, ap, ap₂, refl, sym}
use mathlib.Core.Bool.{Bool, cond}
use mathlib.Core.List.{List, [], ◌++◌, ◌∷◌, append-nil, map, map-append, reverse, reverse-append}
use lib.Dec.{eqb, ltb}
use lib.ListN.{get_or-map, drop, get_or, length, length-map, take}
use lib.Seq.{drop-nil, take-length, take-suc}
use native.Mathlib.Omega.{arith}
use borrow.Author.Tests.{ltb-false, ltb-true}
use Rattle.rules.specs.Image.{Logged, Persistent, no_logged}
use Rattle.rules.specs.Walk.{entries_from, entries_of, walk, walk_entries}
use Rattle.undo.proofs.Laws.{test}
use Rattle.undo.specs.Table.{keep}
use Rattle.walking.proofs.Indices.{nth_behind, nth_front}
use Rattle.walking.specs.Indices.{indices_of, last_first, nth, walk_indices}

-- ---- lists

keep_snoc : {A : Type 0} (p : A → Bool) (xs : List A) (x : A) → keep p (xs ++ (x ∷ [])) ≡ keep p xs ++ cond (p x) (x ∷ []) []
keep_snoc p [] x = test (p x) (λ e. rw e) (λ e. rw e)
keep_snoc p (y ∷ ys) x = test (p y) (λ e. rw e (ap (λ l. y ∷ l) (keep_snoc p ys x))) (λ e. rw e (keep_snoc p ys x))

-- ---- one region, then all

module _ (es : List Logged) where
  last_entries : (k n : ℕ) → n ≤ length es → map (λ i. get_or es i no_logged) (last_first k n (map (λ e. e.key) es)) ≡ reverse (keep (λ e. eqb e.key k) (take n es))
  unfolding last_first
  last_entries k zero h = refl
  last_entries k (suc n) h =
      let ih : map (λ i. get_or es i no_logged) (last_first k n (map (λ e. e.key) es)) ≡ reverse (keep (λ e. eqb e.key k) (take n es)) = last_entries k n (omega arith) in
      rw (take-suc es n no_logged (omega arith), keep_snoc (λ e. eqb e.key k) (take n es) (get_or es n no_logged), get_or-map (λ e. e.key) es n no_logged)
      (test (eqb (get_or es n no_logged).key k)
      (λ e. rw (e, reverse-append (keep (λ x. eqb x.key k) (take n es)) (get_or es n no_logged ∷ [])) (ap (λ l. get_or es n no_logged ∷ l) ih))
      (λ e. rw (e, append-nil) ih))

  region_entries : (k : ℕ) → map (λ i. get_or es i no_logged) (indices_of (map (λ e. e.key) es) k) ≡ entries_of es k
  unfolding entries_of
  region_entries k =
      rw (length-map es (λ e. e.key)) (last_entries k (length es) (omega arith)) ∙ ap (λ l. reverse (keep (λ e. eqb e.key k) l)) (take-length es)

  pub all_entries : (ks : List ℕ) → map (λ i. get_or es i no_logged) (walk_indices ks (map (λ e. e.key) es)) ≡ entries_from es ks
  unfolding walk_indices entries_from
  all_entries [] = refl
  all_entries (k ∷ ks) =
      map-append (λ i. get_or es i no_logged) (indices_of (map (λ e. e.key) es) k) (walk_indices ks (map (λ e. e.key) es)) ∙ ap₂ ◌++◌ (region_entries k) (all_entries ks)

-- the keys of the log, and the indices of the walk
abbrev pub keys_of : Persistent → List ℕ
keys_of p = map (λ e. e.key) p.log

abbrev pub indices_in : Persistent → List ℕ
indices_in p = walk_indices (walk p) (keys_of p)

pub walk_entries_lem : (p : Persistent) → walk_entries p ≡ map (λ i. get_or p.log i no_logged) (indices_in p)
unfolding walk_entries
walk_entries_lem p = sym (all_entries p.log (walk p))

-- ---- what a step restores: the entry found, and whether entries remain after it

nth_drop : (xs : List ℕ) (n i : ℕ) → nth xs n ≡ Some i → drop n xs ≡ i ∷ drop (suc n) xs
unfolding nth
nth_drop [] n i e = let z : ◌≡◌ {A = ℕ} 0 1 = cc in absurd (omega arith)
nth_drop (x ∷ xs) zero i e = let z : x ≡ i = cc in rw z
nth_drop (x ∷ xs) (suc n) i e = nth_drop xs n i e

nth_none : (xs : List ℕ) (n : ℕ) → nth xs n ≡ None → drop n xs ≡ []
unfolding nth
nth_none [] n e = drop-nil n
nth_none (x ∷ xs) zero e = let z : ◌≡◌ {A = ℕ} 0 1 = cc in absurd (omega arith)
nth_none (x ∷ xs) (suc n) e = nth_none xs n e

module _ (p : Persistent) (n : ℕ) where
  pub entry_found : (i : ℕ) → nth (indices_in p) n ≡ Some i → drop n (walk_entries p) ≡ get_or p.log i no_logged ∷ drop (suc n) (walk_entries p)
  entry_found i e =
      rw (
        walk_entries_lem p,
        drop-map (λ j. get_or p.log j no_logged) n (indices_in p),
        drop-map (λ j. get_or p.log j no_logged) (suc n) (indices_in p),
        nth_drop (indices_in p) n i e,
      )

  pub entry_none : nth (indices_in p) n ≡ None → drop n (walk_entries p) ≡ []
  entry_none e = rw (walk_entries_lem p, drop-map (λ j. get_or p.log j no_logged) n (indices_in p), nth_none (indices_in p) n e)

-- ---- an entry found is one of the log

last_below : (k n : ℕ) (ks : List ℕ) (m i : ℕ) → nth (last_first k n ks) m ≡ Some i → i < n
unfolding last_first nth
last_below k zero ks m i e = let z : ◌≡◌ {A = ℕ} 0 1 = cc in absurd (omega arith)
last_below k (suc n) ks m i e =
    test (eqb (get_or ks n 0) k) (λ t. go m (rw t at e) (λ q f. last_below k n ks q i f))
    (λ t. let h : i < n = last_below k n ks m i (rw t at e) in omega arith)
  where
    go : (m : ℕ) → nth (n ∷ last_first k n ks) m ≡ Some i → ((q : ℕ) → nth (last_first k n ks) q ≡ Some i → i < n) → i < suc n
    go zero f ih = let z : n ≡ i = cc in omega arith
    go (suc q) f ih = let z : i < n = ih q f in omega arith

pub found_below : (rs ks : List ℕ) (n i : ℕ) → nth (walk_indices rs ks) n ≡ Some i → i < length ks
unfolding walk_indices nth
found_below [] ks n i e = let z : ◌≡◌ {A = ℕ} 0 1 = cc in absurd (omega arith)
found_below (k ∷ rs) ks n i e =
    test (ltb n (length (indices_of ks k)))
    (λ t. last_below k (length ks) ks n i (sym (nth_front (indices_of ks k) (walk_indices rs ks) n (ltb-true n (length (indices_of ks k)) t)) ∙ e))
    (λ t. found_below rs ks (n - length (indices_of ks k)) i (sym (nth_behind (indices_of ks k) (walk_indices rs ks) n (ltb-false n (length (indices_of ks k)) t)) ∙ e))
