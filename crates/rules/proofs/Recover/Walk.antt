-- The walk of a saved image is a walk over all uncommitted regions, in the sense of the undo log.
use Rattle.undo.specs.Machine as u
use Rattle.undo.specs.History as v
use Rattle.undo.specs.Claim.{Structure, age}
use Rattle.undo.specs.Recovery.{Undo, along, aimed, Walk, next, finished}
use Prim.Native.Nat.{◌+◌, ◌<◌, ◌≤◌, suc, zero, ℕ}
use mathlib.Core.Path.{◌∙◌, ◌≡◌, ap, refl, sym}
use mathlib.Core.Logic.{⊎_elim}
use mathlib.Core.Bool.{Bool, false, false≢true, not, true}
use mathlib.Core.List.{List, [], ◌++◌, ◌∷◌, map, reverse, reverse_aux}
use lib.Dec.{eqb, ltb}
use lib.ListN.{get_or, length, length-append, length-map, length-reverse}
use native.Mathlib.Omega.{arith}
use borrow.Author.Tests.{eqb-true, ltb-false, ltb-true, ne_eqb, not-true}
use native.Mathlib.Nat.{le_refl}
use Rattle.rules.proofs.Recover.Olds.{chosen, chosen_aimed, undos}
use Rattle.rules.proofs.Recover.Rising.{Rises, higher, no_more, rises_above, rises_lower, rises_not}
use Rattle.rules.proofs.Recover.Saved.{any_of, listed_by, none_of}
use Rattle.rules.proofs.Lists.{any_map, any_place, place_lt, place_map, place_true}
use Rattle.rules.specs.Image.{Logged, no_listed}
use Rattle.rules.specs.Lists.{count, place}
use Rattle.rules.specs.Walk.{entries_from, entries_of, is_needed, next_place, walk_from, without}
use Rattle.undo.proofs.Laws.{is_same, never, or_right, or_true, test}
use Rattle.undo.proofs.Pick.{least, least_in, picks}
use Rattle.undo.specs.Table.{any, is_in, keep}

-- ---- a list without the element at an index

pub without_was : (i : ℕ) (xs : List ℕ) (a : ℕ) → is_in a (without i xs) ≡ true → is_in a xs ≡ true
unfolding without
without_was zero [] a h = h
without_was zero (x ∷ xs) a h = or_right (eqb a x) h
without_was (suc i) [] a h = h
without_was (suc i) (x ∷ xs) a h = test (eqb a x) (λ d. rw d) (λ d. rw d (without_was i xs a (rw d at h)))

pub without_left : (i : ℕ) (xs : List ℕ) (a : ℕ) → is_in a xs ≡ true → eqb a (get_or xs i 0) ≡ false → is_in a (without i xs) ≡ true
unfolding without
without_left zero [] a h n = h
without_left zero (x ∷ xs) a h n = rw n at h
without_left (suc i) [] a h n = h
without_left (suc i) (x ∷ xs) a h n = test (eqb a x) (λ d. rw d) (λ d. rw d (without_left i xs a (rw d at h) n))

pub without_rises : {k : ℕ} {xs : List ℕ} (i : ℕ) → Rises k xs → Rises k (without i xs)
unfolding without
without_rises zero no_more = no_more
without_rises zero (higher {x = x} {xs = xs} p q) = rises_lower (omega arith) q
without_rises (suc i) no_more = no_more
without_rises (suc i) (higher {x = x} {xs = xs} p q) = higher p (without_rises i q)

pub at_in : (ys : List ℕ) (j : ℕ) → j < length ys → is_in (get_or ys j 0) ys ≡ true
at_in [] j h = absurd (omega arith)
at_in (y ∷ ys) zero h = rw (is_same y)
at_in (y ∷ ys) (suc j) h = or_right (eqb (get_or ys j 0) y) (at_in ys j (omega arith))

pub without_gone : {k : ℕ} {xs : List ℕ} (i : ℕ) → Rises k xs → i < length xs → is_in (get_or xs i 0) (without i xs) ≡ false
unfolding without
without_gone i no_more h = absurd (omega arith)
without_gone zero (higher {x = x} {xs = xs} p q) h = rises_not q x (le_refl x)
without_gone (suc i) (higher {x = x} {xs = xs} p q) h =
    let j : i < length xs = omega arith in
    let z = rises_above q (get_or xs i 0) (at_in xs i j) in
    rw (ne_eqb (get_or xs i 0) x (λ e. omega arith)) (without_gone i q j)

pub without_length : (i : ℕ) (xs : List ℕ) → i < length xs → suc (length (without i xs)) ≡ length xs
unfolding without
without_length i [] h = absurd (omega arith)
without_length zero (x ∷ xs) h = refl
without_length (suc i) (x ∷ xs) h = ap suc (without_length i xs (omega arith))

-- ---- the walk over the keys

module _ (ds : ℕ → List ℕ) where
  -- some region of the list depends on region k
  abbrev pub needed : List ℕ → ℕ → Bool
  needed ks k = any (λ a. is_in k (ds a)) ks

  abbrev pub next_of : List ℕ → ℕ
  next_of ks = place (λ k. not (needed ks k)) ks

  pub walk_keys : ℕ → List ℕ → List ℕ
  walk_keys zero ks = []
  walk_keys (suc n) ks =
      elim (ltb (next_of ks) (length ks)) [ false ↦ [] | true ↦ get_or ks (next_of ks) 0 ∷ walk_keys n (without (next_of ks) ks) ]

  module _ (st : ℕ → ℕ) where
    next_same : (ks : List ℕ) → next_place (map (listed_by st ds) ks) ≡ next_of ks
    unfolding next_place
    next_same ks =
        place_map (λ r. not (is_needed (map (listed_by st ds) ks) r.key)) (λ k. not (needed ks k)) (listed_by st ds) ks
        (λ k. ap not (any_map (λ r. any (eqb k) r.deps) (λ a. is_in k (ds a)) (listed_by st ds) ks (λ a. refl)))

    key_same : (i : ℕ) (ks : List ℕ) → (get_or (map (listed_by st ds) ks) i no_listed).key ≡ get_or ks i 0
    key_same i [] = refl
    key_same zero (k ∷ ks) = refl
    key_same (suc i) (k ∷ ks) = key_same i ks

    without_same : (i : ℕ) (ks : List ℕ) → without i (map (listed_by st ds) ks) ≡ map (listed_by st ds) (without i ks)
    unfolding without
    without_same zero [] = refl
    without_same zero (k ∷ ks) = refl
    without_same (suc i) [] = refl
    without_same (suc i) (k ∷ ks) = rw (without_same i ks)

    pub walk_same : (n : ℕ) (ks : List ℕ) → walk_from n (map (listed_by st ds) ks) ≡ walk_keys n ks
    unfolding walk_from walk_keys
    walk_same zero ks = refl
    walk_same (suc n) ks =
        let rs = map (listed_by st ds) ks in
        let t : ltb (next_place rs) (length rs) ≡ ltb (next_of ks) (length ks) = rw (next_same ks, length-map ks (listed_by st ds)) in
        let k : (get_or rs (next_place rs) no_listed).key ≡ get_or ks (next_of ks) 0 = rw (next_same ks) (key_same (next_of ks) ks) in
        let r : walk_from n (without (next_place rs) rs) ≡ walk_keys n (without (next_of ks) ks)
        = rw (next_same ks, without_same (next_of ks) ks) (walk_same n (without (next_of ks) ks)) in
        λ j. elim (t j) [ false ↦ [] | true ↦ k j ∷ r j ]

  pub in_walk : (a n : ℕ) (ks : List ℕ) → is_in a (walk_keys n ks) ≡ true → is_in a ks ≡ true
  unfolding walk_keys
  in_walk a zero ks h = absurd (false≢true h)
  in_walk a (suc n) ks h = go (ltb (next_of ks) (length ks)) refl (in_walk a n (without (next_of ks) ks)) h
    where
      go : (x : Bool) → ltb (next_of ks) (length ks) ≡ x → (is_in a (walk_keys n (without (next_of ks) ks)) ≡ true → is_in a (without (next_of ks) ks) ≡ true)
          → is_in a (elim x [ false ↦ [] | true ↦ get_or ks (next_of ks) 0 ∷ walk_keys n (without (next_of ks) ks) ]) ≡ true → is_in a ks ≡ true
      go false q ih h = absurd (false≢true h)
      go true q ih h =
          ⊎_elim
          (λ p. rw (eqb-true a (get_or ks (next_of ks) 0) p) (at_in ks (next_of ks) (ltb-true (next_of ks) (length ks) q)))
          (λ p. without_was (next_of ks) ks a (ih p))
          (or_true (eqb a (get_or ks (next_of ks) 0)) (is_in a (walk_keys n (without (next_of ks) ks))) h)

module _ {s : u.State (List ℕ)} {h : v.History (List ℕ)} (st : Structure s h) (ds : ℕ → List ℕ)
    (same : (k d : ℕ) → eqb d 0 ≡ false → is_in d (ds k) ≡ s.dep k d) where
  next_free : (ks : List ℕ) → ltb (next_of ds ks) (length ks) ≡ true → needed ds ks (get_or ks (next_of ds ks) 0) ≡ false
  next_free ks q =
      not-true (needed ds ks (get_or ks (next_of ds ks) 0))
      (place_true (λ k. not (needed ds ks k)) ks 0 (any_place (λ k. not (needed ds ks k)) ks (ltb-true (next_of ds ks) (length ks) q)))

  pub walks : (n : ℕ) (ks : List ℕ) → Rises 0 ks → Walk s.dep (walk_keys ds n ks)
  unfolding walk_keys
  walks zero ks r = finished
  walks (suc n) ks r = go (ltb (next_of ds ks) (length ks)) refl (walks n (without (next_of ds ks) ks) (without_rises (next_of ds ks) r))
    where
      go : (x : Bool) → ltb (next_of ds ks) (length ks) ≡ x → Walk s.dep (walk_keys ds n (without (next_of ds ks) ks))
          → Walk s.dep (elim x [ false ↦ [] | true ↦ get_or ks (next_of ds ks) 0 ∷ walk_keys ds n (without (next_of ds ks) ks) ])
      go false q ih = finished
      go true q ih =
          let i = next_of ds ks in
          let g = get_or ks i 0 in
          let lt : i < length ks = ltb-true i (length ks) q in
          let z : 0 < g = rises_above r g (at_in ks i lt) in
          let some_key : eqb g 0 ≡ false = ne_eqb g 0 (λ e. omega arith) in
          next
          (test (is_in g (walk_keys ds n (without i ks))) (λ d. never (in_walk ds g n (without i ks) d) (without_gone i r lt)) (λ d. d))
          (λ a k. sym (same a g some_key)
          ∙ test (is_in g (ds a))
          (λ d. never (any_of (λ a. is_in g (ds a)) ks a (without_was i ks a (in_walk ds a n (without i ks) k)) d) (next_free ks q))
          (λ d. d))
          ih

  -- a walk does not stop before its end
  stuck : (ks : List ℕ) (a : ℕ) → Rises 0 ks → is_in a ks ≡ true → ltb (next_of ds ks) (length ks) ≡ false → ⊥
  stuck [] a r e q = false≢true e
  stuck (k ∷ ks) a r e q =
      let g = least (age h.ends) k ks in
      let within : is_in g (k ∷ ks) ≡ true = least_in (age h.ends) k ks in
      let z : 0 < g = rises_above r g within in
      let free : needed ds (k ∷ ks) g ≡ false
      = none_of (λ a. is_in g (ds a)) (k ∷ ks) (λ x p. same x g (ne_eqb g 0 (λ w. omega arith)) ∙ picks s h st k ks x p) in
      let lt = place_lt (λ x. not (needed ds (k ∷ ks) x)) (k ∷ ks) (any_of (λ x. not (needed ds (k ∷ ks) x)) (k ∷ ks) g within (rw free)) in
      let ge = ltb-false (next_of ds (k ∷ ks)) (length (k ∷ ks)) q in
      omega arith

  pub covers : (a n : ℕ) (ks : List ℕ) → Rises 0 ks → length ks ≤ n → is_in a ks ≡ true → is_in a (walk_keys ds n ks) ≡ true
  unfolding walk_keys
  covers a zero [] r z k = k
  covers a zero (x ∷ ks) r z k = absurd (omega arith)
  covers a (suc n) ks r z k = go (ltb (next_of ds ks) (length ks)) refl (covers a n (without (next_of ds ks) ks) (without_rises (next_of ds ks) r))
    where
      go : (x : Bool) → ltb (next_of ds ks) (length ks) ≡ x
          → (length (without (next_of ds ks) ks) ≤ n → is_in a (without (next_of ds ks) ks) ≡ true → is_in a (walk_keys ds n (without (next_of ds ks) ks)) ≡ true)
          → is_in a (elim x [ false ↦ [] | true ↦ get_or ks (next_of ds ks) 0 ∷ walk_keys ds n (without (next_of ds ks) ks) ]) ≡ true
      go false q ih = absurd (stuck ks a r k q)
      go true q ih =
          let i = next_of ds ks in
          let l = without_length i ks (ltb-true i (length ks) q) in
          test (eqb a (get_or ks i 0))
          (λ d. rw d)
          (λ d. or_right (eqb a (get_or ks i 0)) (ih (omega arith) (without_left i ks a k d)))

-- ---- the entries of the walk

pub undos_append : (es fs : List Logged) → undos (es ++ fs) ≡ undos es ++ undos fs
undos_append [] fs = refl
undos_append (e ∷ es) fs = rw (undos_append es fs)

-- what is put back of region r
abbrev pub undos_of : List Logged → ℕ → List (Undo (List ℕ))
undos_of es r = undos (entries_of es r)

pub walk_along : (es : List Logged) (gs : List ℕ) → undos (entries_from es gs) ≡ along (undos_of es) gs
unfolding entries_from
walk_along es [] = refl
walk_along es (g ∷ gs) = undos_append (entries_of es g) (entries_from es gs) ∙ rw (walk_along es gs)

aimed_back : (l : ℕ) (es fs : List Logged) → aimed l (undos (reverse_aux es fs)) ≡ reverse_aux (aimed l (undos es)) (aimed l (undos fs))
aimed_back l [] fs = refl
aimed_back l (e ∷ es) fs =
    let ih = aimed_back l es (e ∷ fs) in
    test (eqb l e.line) (λ d. rw d (rw d at ih)) (λ d. rw d (rw d at ih))

-- one value in reverse
back_one : {A : Type 0} (xs : List A) → length xs ≤ 1 → reverse xs ≡ xs
back_one [] h = refl
back_one (x ∷ []) h = refl
back_one (x ∷ (y ∷ ys)) h = absurd (omega arith)

-- "last entry first" is any order, for a line
pub aimed_entries : (es : List Logged) (r l : ℕ) → length (chosen r l es) ≤ 1 → aimed l (undos_of es r) ≡ chosen r l es
unfolding entries_of
aimed_entries es r l h =
    aimed_back l (keep (λ e. eqb e.key r) es) []
    ∙ rw (chosen_aimed r l es) (back_one (chosen r l es) h)

-- ---- no entry is walked twice

entries_length : (es : List Logged) (k : ℕ) → length (entries_of es k) ≡ count (λ e. eqb e.key k) es
unfolding entries_of count
entries_length es k = length-reverse (keep (λ e. eqb e.key k) es) ∙ kept es
  where
    kept : (es : List Logged) → length (keep (λ e. eqb e.key k) es) ≡ count (λ e. eqb e.key k) es
    kept [] = refl
    kept (e ∷ es) = test (eqb e.key k) (λ a. rw a (ap suc (kept es))) (λ a. rw a (kept es))

pub walk_length : {dep : ℕ → ℕ → Bool} {gs : List ℕ} (es : List Logged) → Walk dep gs → length (entries_from es gs) ≡ count (λ e. is_in e.key gs) es
unfolding entries_from count
walk_length es finished = nothing_counted es
  where
    nothing_counted : (es : List Logged) → 0 ≡ count (λ e. false) es
    nothing_counted [] = refl
    nothing_counted (e ∷ es) = nothing_counted es
walk_length es (next {r = r} {rs = rs} n f w) =
    rw (length-append (entries_of es r) (entries_from es rs), entries_length es r, walk_length es w) (sum es)
  where
    sum : (es : List Logged) → count (λ e. eqb e.key r) es + count (λ e. is_in e.key rs) es ≡ count (λ e. is_in e.key (r ∷ rs)) es
    sum [] = refl
    sum (e ∷ es) =
        let ih = sum es in
        test (eqb e.key r)
        (λ a. let q : is_in e.key rs ≡ false = rw (eqb-true e.key r a) n in rw (a, q) (omega arith))
        (λ a. test (is_in e.key rs) (λ d. rw (a, d) (omega arith)) (λ d. rw (a, d) ih))
