-- The log entries record by record: nothing is lost, and a list of records is the only one of its entries.
use Prim.Native.Nat.{◌+◌, ◌≤◌, suc, zero, ℕ}
use mathlib.Core.Path.{◌∙◌, ◌≡◌, ap, refl, sym}
use mathlib.Core.Bool.{Bool, ◌||◌, false, not, true}
use mathlib.Core.List.{List, [], ◌++◌, ◌∷◌, append_assoc}
use lib.Dec.{eqb}
use lib.ListN.{drop, length, length-append, length-drop, length-take, take, take-append-drop}
use lib.Seq.{drop_at, take_at}
use native.Mathlib.Omega.{arith}
use borrow.Author.Tests.{eqb-false, eqb-true, ne_eqb}
use native.Mathlib.Nat.{zero-add}
use Rattle.rules.specs.Image.{Logged}
use Rattle.rules.specs.Lists.{all}
use Rattle.undo.proofs.Laws.{and_true, is_same, never, or_right, test}
use Rattle.headed.specs.Claim.{Grouped, group, held, is_apart, is_of, none}
use Rattle.headed.specs.Image.{also_held, entry_keys, log_records_from, record_key, same_front}

pub held_append : (gs hs : List (List Logged)) → held (gs ++ hs) ≡ held gs ++ held hs
held_append [] hs = refl
held_append (g ∷ gs) hs = rw (held_append gs hs) (sym (append_assoc g (held gs) (held hs)))

-- ---- how many entries share a record

module _ (k : ℕ) where
  front_few : (n : ℕ) (ks : List ℕ) → same_front n k ks ≤ n
  unfolding same_front
  front_few zero ks = omega arith
  front_few (suc n) [] = omega arith
  front_few (suc n) (q ∷ ks) = let ih = front_few n ks in test (eqb q k) (λ e. rw e (omega arith)) (λ e. rw e (omega arith))

  -- they are of one region, and are there
  front_same : (n : ℕ) (es : List Logged) → (all (is_of k) (take (same_front n k (entry_keys es)) es) ≡ true) × (same_front n k (entry_keys es) ≤ length es)
  unfolding same_front
  front_same zero es = (refl, omega arith)
  front_same (suc n) [] = (refl, omega arith)
  front_same (suc n) (e ∷ es) =
      let ih = front_same n es in
      test (eqb e.key k) (λ d. rw (d, d) (ih.0, omega (arith, ih.1))) (λ d. rw d (refl, omega arith))

  -- the record is full, or what is behind it is of another region
  front_apart : (n m : ℕ) (es : List Logged) → n + m ≡ 6 → is_apart k (m + same_front n k (entry_keys es)) (drop (same_front n k (entry_keys es)) es) ≡ true
  unfolding same_front
  front_apart zero m [] h = refl
  front_apart zero m (e ∷ es) h = let q : m + 0 ≡ 6 = omega arith in rw q
  front_apart (suc n) m [] h = refl
  front_apart (suc n) m (e ∷ es) h =
      let ih = front_apart n (suc m) es (omega arith) in
      test (eqb e.key k)
      (λ d. let q : m + suc (same_front n k (entry_keys es)) ≡ suc m + same_front n k (entry_keys es) = omega arith in rw (d, q) ih)
      (λ d. rw (d, d) (or_right (eqb (m + 0) 6) refl))

  -- so a record takes neither fewer nor more
  front_exact : (n m : ℕ) (es fs : List Logged) → n + m ≡ 6 → length es ≤ n → all (is_of k) es ≡ true → is_apart k (m + length es) fs ≡ true
      → same_front n k (entry_keys (es ++ fs)) ≡ length es
  unfolding same_front
  front_exact zero m [] fs h l a p = refl
  front_exact zero m (e ∷ es) fs h l a p = absurd (omega arith)
  front_exact (suc n) m [] [] h l a p = refl
  front_exact (suc n) m [] (f ∷ fs) h l a p =
      let q : eqb (m + 0) 6 ≡ false = ne_eqb (m + 0) 6 (λ z. omega arith) in
      test (eqb f.key k) (λ d. never (rw (q, d) at p) refl) (λ d. rw d)
  front_exact (suc n) m (e ∷ es) fs h l a p =
      let b = and_true (is_of k e) (all (is_of k) es) a in
      let q : m + suc (length es) ≡ suc m + length es = omega arith in
      rw (b.0, front_exact n (suc m) es fs (omega arith) (omega arith) b.1 (rw q at p))

-- ---- records one behind the other

pub nothing_lost : (n : ℕ) (es : List Logged) → length es ≤ n → held (log_records_from n es) ≡ es
unfolding log_records_from
nothing_lost zero [] h = refl
nothing_lost zero (e ∷ es) h = absurd (omega arith)
nothing_lost (suc n) [] h = refl
nothing_lost (suc n) (e ∷ es) h =
    let l : length (drop (also_held e es) es) ≤ n = omega (arith, length-drop (also_held e es) es) in
    ap (λ xs. e ∷ xs) (rw (nothing_lost n (drop (also_held e es) es) l) (take-append-drop (also_held e es) es))

pub all_grouped : (n : ℕ) (es : List Logged) → length es ≤ n → Grouped (log_records_from n es)
unfolding log_records_from
all_grouped zero es h = none
all_grouped (suc n) [] h = none
all_grouped (suc n) (e ∷ es) h =
    let m = also_held e es in
    let s = front_same e.key 6 es in
    let l : length (drop m es) ≤ n = omega (arith, length-drop m es) in
    let t : length (take m es) ≡ m = length-take m es ∙ omega (arith, s.1) in
    group e (take m es) (log_records_from n (drop m es)) (rw t (front_few e.key 6 (entry_keys es))) s.0
    (rw (t, nothing_lost n (drop m es) l) (rw (zero-add m) at (front_apart e.key 6 0 es refl))) (all_grouped n (drop m es) l)

pub only_records : {gs : List (List Logged)} (n : ℕ) → Grouped gs → length (held gs) ≤ n → log_records_from n (held gs) ≡ gs
unfolding log_records_from
only_records zero none h = refl
only_records (suc n) none h = refl
only_records zero (group e es gs l a p g) h = absurd (omega arith)
only_records (suc n) (group e es gs l a p g) h =
    let f : also_held e (es ++ held gs) ≡ length es = front_exact e.key 6 0 es (held gs) refl l a (rw (zero-add (length es)) p) in
    let r : length (held gs) ≤ n = omega (arith, length-append es (held gs)) in
    rw (f, take_at es (held gs) (length es) refl, drop_at es (held gs) (length es) refl, only_records n g r)

-- ---- one record more

-- whether a record of region k may follow the last of those that were read: it holds seven, or is of another region
abbrev pub follows : List (List Logged) → ℕ → Bool
follows [] k = true
follows (g ∷ []) k = eqb (length g) 7 || not (eqb (record_key g) k)
follows (g ∷ (h ∷ gs)) k = follows (h ∷ gs) k

pub one_more : {gs : List (List Logged)} (e : Logged) (es : List Logged) → Grouped gs → length es ≤ 6 → all (is_of e.key) es ≡ true → follows gs e.key ≡ true
    → Grouped (gs ++ ((e ∷ es) ∷ []))
one_more e es none l a f = group e es [] l a refl none
one_more e es (group x xs [] l₁ a₁ p₁ none) l a f =
    group x xs ((e ∷ es) ∷ []) l₁ a₁ (apart f) (group e es [] l a refl none)
  where
    apart : (eqb (suc (length xs)) 7 || not (eqb x.key e.key)) ≡ true → (eqb (length xs) 6 || not (eqb e.key x.key)) ≡ true
    apart f = test (eqb (length xs) 6) (λ d. rw d) (λ d. let z : eqb (suc (length xs)) 7 ≡ false = ne_eqb (suc (length xs)) 7 (λ q. omega (arith, eqb-false (length xs) 6 d)) in rw d (test (eqb e.key x.key) (λ q. never (rw (z, eqb-true e.key x.key q, is_same x.key) at f) refl) (λ q. rw q)))
one_more e es (group x xs ([] ∷ gs) l₁ a₁ p₁ g) l a f = elim g [ ]
one_more e es (group x xs ((y ∷ ys) ∷ gs) l₁ a₁ p₁ g) l a f = group x xs _ l₁ a₁ p₁ (one_more e es g l a f)
