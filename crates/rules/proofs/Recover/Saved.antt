-- The dependence list as an image holds it: the listed regions by rising keys, each with its dependences in their order.
use lib.Seq.{length-take-le, take-append-add}
use Prim.Native.Nat.{◌+◌, ◌-◌, ◌≤◌, suc, zero, ℕ}
use mathlib.Core.Path.{◌∙◌, ◌≡◌, ap, refl, sym}
use mathlib.Core.Bool.{Bool, ◌||◌, cond, false, false≢true, not, true, true≢false}
use mathlib.Core.List.{List, [], ◌++◌, ◌∷◌, map}
use lib.Dec.{eqb, ltb}
use lib.ListN.{get_or, length, length-append, length-map, replicate, take}
use native.Mathlib.Omega.{arith}
use borrow.Author.Tests.{eqb-true, le-leb, lt-ltb, ne_eqb, not-true}
use Rattle.rules.proofs.Codec.Valid.{key_of_listed, rises}
use Rattle.rules.proofs.Recover.Rising.{Rises, higher, no_more, rising_is, rising_length, rising_rises}
use Rattle.rules.proofs.Lists.{any_map, or_none}
use Rattle.rules.proofs.Places.{Homes, any_placed, eqb_swap, key_at, place_placed}
use Rattle.rules.specs.Contradiction.{deps_of, in_order, is_listed}
use Rattle.rules.specs.Image.{no_listed, saved_region, saved_regions}
use Rattle.rules.specs.Lists.{all, place, rising}
use Rattle.rules.specs.Tables.{is_key, listed, no_region, number_of, region_at}
use Rattle.rules.specs.declared.Listed.{Listed}
use Rattle.rules.specs.declared.Region.{Region}
use Rattle.undo.proofs.Laws.{and_true, flip, is_same, never, or_false, or_right, test}
use Rattle.undo.specs.Table.{any, is_in}

-- ---- lists

module _ {B : Type 0} where
  -- two functions that agree on the numbers of a list
  pub map_in : (f g : ℕ → B) (xs : List ℕ) → ((x : ℕ) → is_in x xs ≡ true → f x ≡ g x) → map f xs ≡ map g xs
  map_in f g [] h = refl
  map_in f g (x ∷ xs) h = rw (h x (rw (is_same x)), map_in f g xs (λ y e. h y (or_right (eqb y x) e)))

  pub all_in : (p : B → Bool) (f : ℕ → B) (xs : List ℕ) → ((x : ℕ) → is_in x xs ≡ true → p (f x) ≡ true) → all p (map f xs) ≡ true
  all_in p f [] h = refl
  all_in p f (x ∷ xs) h = rw (h x (rw (is_same x))) (all_in p f xs (λ y e. h y (or_right (eqb y x) e)))

  pub none_in : (p : B → Bool) (f : ℕ → B) (xs : List ℕ) → ((x : ℕ) → is_in x xs ≡ true → p (f x) ≡ false) → any p (map f xs) ≡ false
  none_in p f [] h = refl
  none_in p f (x ∷ xs) h = rw (h x (rw (is_same x))) (none_in p f xs (λ y e. h y (or_right (eqb y x) e)))

-- a list as its own map
pub map_self : (xs : List ℕ) → map (λ x. x) xs ≡ xs
map_self [] = refl
map_self (x ∷ xs) = rw (map_self xs)

pub none_of : (p : ℕ → Bool) (xs : List ℕ) → ((x : ℕ) → is_in x xs ≡ true → p x ≡ false) → any p xs ≡ false
none_of p xs h = rw (map_self xs) at (none_in p (λ x. x) xs h)

pub all_of : (p : ℕ → Bool) (xs : List ℕ) → ((x : ℕ) → is_in x xs ≡ true → p x ≡ true) → all p xs ≡ true
all_of p xs h = rw (map_self xs) at (all_in p (λ x. x) xs h)

pub any_of : (p : ℕ → Bool) (xs : List ℕ) (x : ℕ) → is_in x xs ≡ true → p x ≡ true → any p xs ≡ true
any_of p xs x e h = test (any p xs) (λ a. a) (λ a. absurd (true≢false (sym h ∙ not_any xs a e)))
  where
    not_any : (ys : List ℕ) → any p ys ≡ false → is_in x ys ≡ true → p x ≡ false
    not_any [] a e = absurd (false≢true e)
    not_any (y ∷ ys) a e =
        let z = or_false (p y) (any p ys) a in
        test (eqb x y) (λ d. rw (eqb-true x y d) z.0) (λ d. not_any ys z.1 (rw d at e))

-- ---- four dependences: the rising ones, then zeros

abbrev pub padded : List ℕ → List ℕ
padded ds = take 4 (rising ds ++ replicate 4 0)

take_replicate : (j m : ℕ) → j ≤ m → take j (replicate {A = ℕ} m 0) ≡ replicate j 0
take_replicate zero m h = refl
take_replicate (suc j) zero h = absurd (omega arith)
take_replicate (suc j) (suc m) h = rw (take_replicate j m (omega arith))

take_zeros : (xs : List ℕ) (j m : ℕ) → j ≤ m → take (length xs + j) (xs ++ replicate m 0) ≡ xs ++ replicate j 0
take_zeros xs j m h = take-append-add xs (replicate m 0) j ∙ rw (take_replicate j m h)

pub padded_is : (ds : List ℕ) → length ds ≡ 4 → padded ds ≡ rising ds ++ replicate (4 - length (rising ds)) 0
padded_is ds e =
    let l = rising_length 0 (length ds) ds in
    let q : length (rising ds) + (4 - length (rising ds)) ≡ 4 = omega arith in
    let h : 4 - length (rising ds) ≤ 4 = omega arith in
    rw q at (take_zeros (rising ds) (4 - length (rising ds)) 4 h)

pub length_padded : (ds : List ℕ) → length (padded ds) ≡ 4
length_padded ds =
    length-take-le 4 (rising ds ++ replicate 4 0) (rw (length-append (rising ds) (replicate 4 0)) (omega arith))

in_append : (x : ℕ) (xs ys : List ℕ) → is_in x (xs ++ ys) ≡ (is_in x xs || is_in x ys)
in_append x [] ys = refl
in_append x (y ∷ xs) ys = test (eqb x y) (λ a. rw a) (λ a. rw a (in_append x xs ys))

zeros_not : (x n : ℕ) → eqb x 0 ≡ false → is_in x (replicate n 0) ≡ false
zeros_not x zero e = refl
zeros_not x (suc n) e = rw (e, zeros_not x n e)

-- the same dependences
pub padded_in : (ds : List ℕ) (d : ℕ) → length ds ≡ 4 → eqb d 0 ≡ false → is_in d (padded ds) ≡ is_in d ds
padded_in ds d e n =
    rw (padded_is ds e, in_append d (rising ds) (replicate (4 - length (rising ds)) 0), zeros_not d (4 - length (rising ds)) n, or_none (is_in d (rising ds)))
    (rising_is ds d ∙ rw n)

all_zeros : (n : ℕ) → all (eqb 0) (replicate n 0) ≡ true
all_zeros zero = refl
all_zeros (suc n) = all_zeros n

order_zeros : (n : ℕ) → in_order (replicate n 0) ≡ true
unfolding in_order
order_zeros zero = refl
order_zeros (suc n) = all_zeros n

pub order_rises : {k : ℕ} {xs : List ℕ} (n : ℕ) → Rises k xs → ((x : ℕ) → is_in x xs ≡ true → eqb (number_of x) 0 ≡ false) → in_order (xs ++ replicate n 0) ≡ true
unfolding in_order
order_rises n no_more f = order_zeros n
order_rises n (higher {x = x} {xs = xs} p q) f =
    let a : eqb x 0 ≡ false = ne_eqb x 0 (λ e. omega arith) in
    rw (a, f x (rw (is_same x)), order_rises n q (λ y e. f y (or_right (eqb y x) e))) (next q)
  where
    next : {ys : List ℕ} → Rises x ys → (eqb (get_or (ys ++ replicate n 0) 0 0) 0 || ltb x (get_or (ys ++ replicate n 0) 0 0)) ≡ true
    next no_more = rw (first n)
      where
        first : (n : ℕ) → get_or {A = ℕ} (replicate n 0) 0 0 ≡ 0
        first zero = refl
        first (suc n) = refl
    next (higher {x = y} h r) = or_right (eqb y 0) (lt-ltb x y h)

-- they are in their order
pub padded_order : (ds : List ℕ) → length ds ≡ 4 → ((d : ℕ) → eqb d 0 ≡ false → is_in d ds ≡ true → eqb (number_of d) 0 ≡ false) → in_order (padded ds) ≡ true
padded_order ds e f =
    rw (padded_is ds e)
    (order_rises (4 - length (rising ds)) (rising_rises 0 (length ds) ds)
    (λ x h. let z = and_true (not (eqb x 0)) (is_in x ds) (sym (rising_is ds x) ∙ h) in f x (not-true (eqb x 0) z.0) z.1))

-- none but zeros only if there was none
pub padded_zeros : (ds : List ℕ) → length ds ≡ 4 → all (eqb 0) (padded ds) ≡ true → all (eqb 0) ds ≡ true
padded_zeros ds e h =
    all_of (eqb 0) ds
    (λ x a. test (eqb x 0)
    (λ b. rw (eqb-true x 0 b))
    (λ b. let c : is_in x (padded ds) ≡ true = padded_in ds x e b ∙ a in
    let d : eqb 0 x ≡ true = all_has x (padded ds) c h in
    never d (eqb_swap 0 x ∙ b)))
  where
    all_has : (x : ℕ) (xs : List ℕ) → is_in x xs ≡ true → all (eqb 0) xs ≡ true → eqb 0 x ≡ true
    all_has x [] a h = absurd (false≢true a)
    all_has x (y ∷ ys) a h =
        let z = and_true (eqb 0 y) (all (eqb 0) ys) h in
        test (eqb x y) (λ d. rw (eqb-true x y d) z.0) (λ d. all_has x ys (rw d at a) z.1)

-- ---- the listed regions

-- an entry with the key k
abbrev pub listed_by : (ℕ → ℕ) → (ℕ → List ℕ) → ℕ → Listed
listed_by st ds k = record { key = k; state = st k; deps = ds k }

abbrev pub state_at : List Region → ℕ → ℕ
state_at rs k = cond (region_at k rs).done 1 0

abbrev pub deps_at : List Region → ℕ → List ℕ
deps_at rs k = padded (region_at k rs).deps

abbrev pub saved_at : List Region → ℕ → Listed
saved_at rs = listed_by (state_at rs) (deps_at rs)

abbrev pub keys_of : List Region → List ℕ
keys_of rs = rising (map (λ r. r.key) rs)

-- the keys are those of the listed regions
pub keys_listed : (rs : List Region) → Homes rs → (k : ℕ) → is_in k (keys_of rs) ≡ listed k rs
keys_listed rs h k =
    rising_is (map (λ r. r.key) rs) k
    ∙ rw (any_map (eqb k) (is_key k) (λ r. r.key) rs (λ r. eqb_swap k r.key), any_placed k rs h)

pub keys_rise : (rs : List Region) → Rises 0 (keys_of rs)
keys_rise rs = rising_rises 0 (length (map (λ r. r.key) rs)) (map (λ r. r.key) rs)

pub keys_length : (rs : List Region) → length (keys_of rs) ≤ length rs
keys_length rs =
    let l = rising_length 0 (length (map (λ r. r.key) rs)) (map (λ r. r.key) rs) in
    let q = length-map rs (λ r. r.key) in
    omega arith

pub saved_regions_lem : (rs : List Region) → Homes rs → saved_regions rs ≡ map (saved_at rs) (keys_of rs)
unfolding saved_regions saved_region
saved_regions_lem rs h =
    map_in (λ k. saved_region (get_or rs (place (is_key k) rs) no_region)) (saved_at rs) (keys_of rs)
    (λ k e. rw (← place_placed k rs h, key_at k rs (sym (keys_listed rs h k) ∙ e)))

-- ---- as the reader looks at them

module _ (st : ℕ → ℕ) (ds : ℕ → List ℕ) where
  pub keys_in : (k : ℕ) (ks : List ℕ) → is_listed k (map (listed_by st ds) ks) ≡ is_in k ks
  keys_in k [] = refl
  keys_in k (x ∷ ks) = rw (eqb_swap x k, keys_in k ks)

  -- the dependences of the entry at an index
  at_index : ℕ → List ℕ → List ℕ
  at_index i ks = (get_or (map (listed_by st ds) ks) i no_listed).deps

  pub deps_in : (k : ℕ) (ks : List ℕ) → is_in k ks ≡ true → deps_of k (map (listed_by st ds) ks) ≡ ds k
  unfolding place at_index
  deps_in k [] e = absurd (false≢true e)
  deps_in k (x ∷ ks) e =
      test (eqb x k)
      (λ a. ap (λ i. at_index i (x ∷ ks)) (here a) ∙ rw (eqb-true x k a))
      (λ a. ap (λ i. at_index i (x ∷ ks)) (there a) ∙ deps_in k ks (rw (flip x k a) at e))
    where
      here : eqb x k ≡ true → place (λ r. eqb r.key k) (map (listed_by st ds) (x ∷ ks)) ≡ 0
      here a = rw a

      there : eqb x k ≡ false → place (λ r. eqb r.key k) (map (listed_by st ds) (x ∷ ks)) ≡ suc (place (λ r. eqb r.key k) (map (listed_by st ds) ks))
      there a = rw a

  pub deps_none : (k : ℕ) (ks : List ℕ) → is_in k ks ≡ false → deps_of k (map (listed_by st ds) ks) ≡ []
  unfolding place at_index
  deps_none k [] e = refl
  deps_none k (x ∷ ks) e =
      let z = or_false (eqb k x) (is_in k ks) e in
      ap (λ i. at_index i (x ∷ ks)) (there (flip k x z.0)) ∙ deps_none k ks z.1
    where
      there : eqb x k ≡ false → place (λ r. eqb r.key k) (map (listed_by st ds) (x ∷ ks)) ≡ suc (place (λ r. eqb r.key k) (map (listed_by st ds) ks))
      there a = rw a

  pub rises_listed : {j : ℕ} {ks : List ℕ} (k : ℕ) → k ≤ suc j → Rises j ks → rises key_of_listed 1 k (map (listed_by st ds) ks) ≡ true
  rises_listed k h no_more = refl
  rises_listed k h (higher {x = x} p q) = rw (le-leb k x (omega arith)) (rises_listed (1 + x) (omega arith) q)
