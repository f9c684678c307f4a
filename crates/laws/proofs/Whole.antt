-- The walk of an accepted image: it takes every region, so that it has every log entry once.
use Prim.Native.Nat.{◌+◌, ◌<◌, ◌≤◌, suc, zero, ℕ}
use mathlib.Core.Path.{◌∙◌, ◌≡◌, ap, refl, sym}
use mathlib.Core.Bool.{Bool, ◌&&◌, ◌||◌, false, not, true}
use mathlib.Core.List.{List, [], ◌∷◌, map, reverse_aux}
use lib.Dec.{eqb, leb, ltb}
use lib.ListN.{get_or, length, length-map}
use native.Mathlib.Omega.{arith}
use borrow.Author.Tests.{eqb-true, leb-true, ltb-true, ne_eqb, not-false}
use Rattle.laws.proofs.Circles.{deps_in, keys_in, not_stuck}
use Rattle.rules.proofs.Codec.Valid.{count_append, key_of_listed, rises}
use Rattle.rules.proofs.Recover.Rising.{Rises, higher, no_more}
use Rattle.rules.proofs.Recover.Walk.{at_in, needed, next_of, without_gone, without_left, without_length, without_rises, without_was}
use Rattle.rules.proofs.Lists.{any_map, place_map}
use Rattle.rules.specs.Contradiction.{is_circle, is_listed, is_unnumbered}
use Rattle.rules.specs.Image.{Logged, no_listed}
use Rattle.rules.specs.Lists.{count, place}
use Rattle.rules.specs.Tables.{number_of}
use Rattle.rules.specs.Walk.{entries_from, entries_of, is_needed, next_place, walk_from, without}
use Rattle.rules.specs.declared.Listed.{Listed}
use Rattle.undo.proofs.Laws.{and_true, flip, is_same, never, or_false, test}
use Rattle.undo.specs.Table.{any, is_in, keep}

-- ---- regions are known by their keys

abbrev pub lookup : ℕ → List Listed → Listed
lookup k rs = get_or rs (place (λ r. eqb r.key k) rs) no_listed

abbrev pub keyed : List Listed → ℕ → Listed
keyed rs k = record { key = k; state = (lookup k rs).state; deps = (lookup k rs).deps }

here : (k : ℕ) (r : Listed) (rs : List Listed) → eqb r.key k ≡ true → lookup k (r ∷ rs) ≡ r
unfolding place
here k r rs e = ap (λ i. get_or (r ∷ rs) i no_listed) (let z : place (λ r. eqb r.key k) (r ∷ rs) ≡ 0 = rw e in z)

there : (k : ℕ) (r : Listed) (rs : List Listed) → eqb r.key k ≡ false → lookup k (r ∷ rs) ≡ lookup k rs
unfolding place
there k r rs e =
    ap (λ i. get_or (r ∷ rs) i no_listed)
    (let z : place (λ r. eqb r.key k) (r ∷ rs) ≡ suc (place (λ r. eqb r.key k) rs) = rw e in z)

same_from : (f : ℕ → Listed) (k : ℕ) (rs : List Listed) → rises key_of_listed 1 k rs ≡ true → ((j : ℕ) → k ≤ j → f j ≡ keyed rs j) → map f (keys_in rs) ≡ rs
same_from f k [] u g = refl
same_from f k (r ∷ rs) u g =
    let b = and_true (leb k r.key) (rises key_of_listed 1 (1 + r.key) rs) u in
    let h : f r.key ≡ r
    = g r.key (leb-true k r.key b.0)
    ∙ ap (λ (x : Listed). record { key = r.key; state = x.state; deps = x.deps }) (here r.key r rs (is_same r.key)) in
    let t = same_from f (1 + r.key) rs b.1
    (λ j z. g j (omega (arith, leb-true k r.key b.0))
    ∙ ap (λ (x : Listed). record { key = j; state = x.state; deps = x.deps }) (there j r rs (ne_eqb r.key j (λ w. omega arith)))) in
    λ i. h i ∷ t i

pub by_keys : (rs : List Listed) → rises key_of_listed 1 0 rs ≡ true → map (keyed rs) (keys_in rs) ≡ rs
by_keys rs u = same_from (keyed rs) 0 rs u (λ j z. refl)

keys_above : (j k : ℕ) (rs : List Listed) → j < k → rises key_of_listed 1 k rs ≡ true → Rises j (keys_in rs)
keys_above j k [] h u = no_more
keys_above j k (r ∷ rs) h u =
    let b = and_true (leb k r.key) (rises key_of_listed 1 (1 + r.key) rs) u in
    let l = leb-true k r.key b.0 in
    let z : j < r.key = omega arith in
    higher z (keys_above r.key (1 + r.key) rs (omega arith) b.1)

-- number 0 is refused, so no key is 0
pub keys_rise : (rs : List Listed) → any is_unnumbered rs ≡ false → rises key_of_listed 1 0 rs ≡ true → Rises 0 (keys_in rs)
keys_rise [] n u = no_more
keys_rise (r ∷ rs) n u =
    let b = and_true (leb 0 r.key) (rises key_of_listed 1 (1 + r.key) rs) u in
    let o = or_false (is_unnumbered r) (any is_unnumbered rs) n in
    let z : 0 < r.key
    = test (eqb r.key 0) (λ a. let y : eqb (number_of r.key) 0 ≡ true = rw (eqb-true r.key 0 a) refl in never y o.0)
    (λ a. positive r.key a) in
    higher z (keys_above r.key (1 + r.key) rs (omega arith) b.1)
  where
    positive : (k : ℕ) → eqb k 0 ≡ false → 0 < k
    positive zero a = never refl a
    positive (suc k) a = omega arith

pub keys_listed : (k : ℕ) (rs : List Listed) → is_listed k rs ≡ is_in k (keys_in rs)
keys_listed k [] = refl
keys_listed k (r ∷ rs) =
    test (eqb r.key k)
    (λ a. rw (a, eqb-true r.key k a, is_same k))
    (λ a. rw (a, flip r.key k a) (keys_listed k rs))

-- ---- counts

module _ {A : Type 0} (f : A → Bool) where
  count_back : (xs ys : List A) → count f (reverse_aux xs ys) ≡ count f xs + count f ys
  unfolding count
  count_back [] ys = omega arith
  count_back (x ∷ xs) ys =
      let ih = count_back xs (x ∷ ys) in
      test (f x) (λ a. let z : count f (x ∷ ys) ≡ suc (count f ys) = rw a in rw a (omega arith))
      (λ a. let z : count f (x ∷ ys) ≡ count f ys = rw a in rw a (omega arith))

  count_keep : (q : A → Bool) (xs : List A) → count f (keep q xs) ≡ count (λ x. q x && f x) xs
  unfolding count
  count_keep q [] = refl
  count_keep q (x ∷ xs) =
      let ih = count_keep q xs in
      test (q x) (λ a. test (f x) (λ b. rw (a, b, ih)) (λ b. rw (a, b, ih))) (λ a. rw (a, ih))

none_counted : {A : Type 0} (xs : List A) → 0 ≡ count (λ x. false) xs
unfolding count
none_counted [] = refl
none_counted (x ∷ xs) = none_counted xs

-- the log
module _ (es : List Logged) (f : Logged → Bool) where
  -- the entries of a region
  entries_counted : (k : ℕ) → count f (entries_of es k) ≡ count (λ e. eqb e.key k && f e) es
  unfolding entries_of count
  entries_counted k =
      let z = count_back f (keep (λ e. eqb e.key k) es) [] in
      let y = count_keep f (λ e. eqb e.key k) es in
      omega arith

-- of two lists of keys, one with g more than the other
sum : (es : List Logged) (f : Logged → Bool) (g : ℕ) (ks js : List ℕ) → ((k : ℕ) → is_in k ks ≡ (eqb k g || is_in k js)) → is_in g js ≡ false
    → count (λ e. eqb e.key g && f e) es + count (λ e. is_in e.key js && f e) es ≡ count (λ e. is_in e.key ks && f e) es
unfolding count
sum [] f g ks js s n = refl
sum (e ∷ es) f g ks js s n =
    let ih = sum es f g ks js s n in
    test (eqb e.key g)
    (λ a. let q : is_in e.key js ≡ false = rw (eqb-true e.key g a) n in
    test (f e) (λ b. rw (s e.key, a, q, b) (omega arith)) (λ b. rw (s e.key, a, q, b) ih))
    (λ a. test (is_in e.key js)
    (λ q. test (f e) (λ b. rw (s e.key, a, q, b) (omega arith)) (λ b. rw (s e.key, a, q, b) ih))
    (λ q. rw (s e.key, a, q) ih))

pub all_counted : (es : List Logged) (f : Logged → Bool) (rs : List Listed) → any (λ e. not (is_listed e.key rs)) es ≡ false
    → count (λ e. is_in e.key (keys_in rs) && f e) es ≡ count f es
unfolding count
all_counted [] f rs n = refl
all_counted (e ∷ es) f rs n =
    let o = or_false (not (is_listed e.key rs)) (any (λ e. not (is_listed e.key rs)) es) n in
    let l : is_in e.key (keys_in rs) ≡ true = sym (keys_listed e.key rs) ∙ not-false (is_listed e.key rs) o.0 in
    let ih = all_counted es f rs o.1 in
    test (f e) (λ b. rw (l, b, ih)) (λ b. rw (l, b, ih))

-- ---- the walk over what remains of the regions

module _ (rs : List Listed) where
  abbrev rest : List ℕ → List Listed
  rest ks = map (keyed rs) ks

  next_same : (ks : List ℕ) → next_place (rest ks) ≡ next_of (deps_in rs) ks
  unfolding next_place
  next_same ks =
      place_map (λ r. not (is_needed (rest ks) r.key)) (λ k. not (needed (deps_in rs) ks k)) (keyed rs) ks
      (λ k. ap not (any_map (λ r. any (eqb k) r.deps) (λ a. is_in k (deps_in rs a)) (keyed rs) ks (λ a. refl)))

  key_same : (i : ℕ) (ks : List ℕ) → (get_or (rest ks) i no_listed).key ≡ get_or ks i 0
  key_same i [] = refl
  key_same zero (k ∷ ks) = refl
  key_same (suc i) (k ∷ ks) = key_same i ks

  without_same : (i : ℕ) (ks : List ℕ) → without i (rest ks) ≡ rest (without i ks)
  unfolding without
  without_same zero [] = refl
  without_same zero (k ∷ ks) = refl
  without_same (suc i) [] = refl
  without_same (suc i) (k ∷ ks) = rw (without_same i ks)

  module _ (calm : any (is_circle rs) rs ≡ false) (es : List Logged) (f : Logged → Bool) where
    pub walk_counted : (n : ℕ) (ks : List ℕ) → Rises 0 ks → length ks ≤ n → ((x : ℕ) → is_in x ks ≡ true → is_in x (keys_in rs) ≡ true)
        → count f (entries_from es (walk_from n (rest ks))) ≡ count (λ e. is_in e.key ks && f e) es
    unfolding walk_from entries_from count
    walk_counted zero [] r h w = none_counted es
    walk_counted zero (k ∷ ks) r h w = absurd (omega arith)
    walk_counted (suc n) ks r h w =
        let i = next_of (deps_in rs) ks in
        ap (λ x. count f (entries_from es x)) shape
        ∙ go ks r w (ltb i (length ks)) refl
        (λ l. walk_counted n (without i ks) (without_rises i r) (let z = without_length i ks l in omega arith) (λ x e. w x (without_was i ks x e)))
      where
        taken : List ℕ → Bool → List ℕ
        taken js b = elim b [ false ↦ [] | true ↦ get_or js (next_of (deps_in rs) js) 0 ∷ walk_from n (rest (without (next_of (deps_in rs) js) js)) ]

        shape : walk_from (suc n) (rest ks) ≡ taken ks (ltb (next_of (deps_in rs) ks) (length ks))
        shape =
            let i = next_of (deps_in rs) ks in
            let t : ltb (next_place (rest ks)) (length (rest ks)) ≡ ltb i (length ks) = rw (next_same ks, length-map ks (keyed rs)) in
            let k : (get_or (rest ks) (next_place (rest ks)) no_listed).key ≡ get_or ks i 0 = rw (next_same ks) (key_same i ks) in
            let q : walk_from n (without (next_place (rest ks)) (rest ks)) ≡ walk_from n (rest (without i ks)) = rw (next_same ks, without_same i ks) in
            λ j. elim (t j) [ false ↦ [] | true ↦ k j ∷ q j ]

        go : (js : List ℕ) → Rises 0 js → ((x : ℕ) → is_in x js ≡ true → is_in x (keys_in rs) ≡ true) → (b : Bool) → ltb (next_of (deps_in rs) js) (length js) ≡ b
            → (next_of (deps_in rs) js < length js → count f (entries_from es (walk_from n (rest (without (next_of (deps_in rs) js) js))))
            ≡ count (λ e. is_in e.key (without (next_of (deps_in rs) js) js) && f e) es)
            → count f (entries_from es (taken js b)) ≡ count (λ e. is_in e.key js && f e) es
        go [] r w false q ih = none_counted es
        go (j ∷ js) r w false q ih = absurd (not_stuck rs calm (j ∷ js) j r w (rw (is_same j)) q)
        go js r w true q ih =
            let i = next_of (deps_in rs) js in
            let lt = ltb-true i (length js) q in
            let g = get_or js i 0 in
            count_append f (entries_of es g) (entries_from es (walk_from n (rest (without i js))))
            ∙ rw (entries_counted es f g, ih lt)
            (sum es f g js (without i js)
            (λ k. test (eqb k g)
            (λ a. rw (a, eqb-true k g a) (at_in js i lt))
            (λ a. rw a (test (is_in k js)
            (λ b. rw b (sym (without_left i js k b a)))
            (λ b. rw b (test (is_in k (without i js)) (λ c. never (without_was i js k c) b) (λ c. sym c))))))
            (without_gone i r lt))
