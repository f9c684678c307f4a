-- Searches, counts and changes of lists of any kind.
use Prim.Native.Nat.{◌<◌, ◌≤◌, suc, zero, ℕ}
use mathlib.Core.Path.{◌≡◌, ap, refl, sym}
use mathlib.Core.Logic.{◌≢◌}
use mathlib.Core.Bool.{◌||◌, Bool, cond, false, false≢true, true}
use mathlib.Core.List.{List, [], ◌∷◌, map}
use lib.Dec.{eqb}
use lib.ListN
use lib.ListN.{get_or, length, replicate, set}
use native.Mathlib.Omega.{arith}
use borrow.Author.Tests.{eqb-false, eqb-true}
use lib.Seq.{get_or-set_other, get_or-set_same, lt-length-set}
use Rattle.rules.specs.Lists.{count, place}
use Rattle.undo.proofs.Laws.{never, or_false, or_right, test}
use Rattle.undo.specs.Table.{any}

-- ---- tests

pub or_none : (b : Bool) → (b || false) ≡ b
or_none true = refl
or_none false = refl

pub eq_both : (a b : Bool) → (a ≡ true → b ≡ true) → (b ≡ true → a ≡ true) → a ≡ b
eq_both true true f g = refl
eq_both true false f g = sym (f refl)
eq_both false true f g = g refl
eq_both false false f g = refl

-- ---- searches in any list

module _ {A : Type 0} where
  -- an element after a `set`
  pub get_or_set : (xs : List A) (i j : ℕ) (x d : A) → i < length xs → get_or (set xs i x) j d ≡ cond (eqb j i) x (get_or xs j d)
  get_or_set xs i j x d h =
      test (eqb j i)
      (λ e. rw (e, eqb-true j i e) (get_or-set_same xs i x d h))
      (λ e. rw e (get_or-set_other xs i j x d (eqb-false j i e)))

  -- what holds of x and of each element, and of the default, holds of each after a `set`
  pub each_set : (P : A → Type 0) (xs : List A) (i : ℕ) (x d : A) → P x → ((j : ℕ) → P (get_or xs j d)) → (j : ℕ) → P (get_or (set xs i x) j d)
  each_set P [] i x d a f j = f j
  each_set P (y ∷ xs) zero x d a f zero = a
  each_set P (y ∷ xs) zero x d a f (suc j) = f (suc j)
  each_set P (y ∷ xs) (suc i) x d a f zero = f zero
  each_set P (y ∷ xs) (suc i) x d a f (suc j) = each_set P xs i x d a (λ k. f (suc k)) j

  pub any_at : (p : A → Bool) (xs : List A) (i : ℕ) (d : A) → i < length xs → p (get_or xs i d) ≡ true → any p xs ≡ true
  any_at p [] i d h e = absurd (omega arith)
  any_at p (x ∷ xs) zero d h e = rw e
  any_at p (x ∷ xs) (suc i) d h e = or_right (p x) (any_at p xs i d (omega arith) e)

  pub any_none : (p : A → Bool) (xs : List A) (i : ℕ) (d : A) → any p xs ≡ false → i < length xs → p (get_or xs i d) ≡ false
  any_none p xs i d e h = test (p (get_or xs i d)) (λ a. never (any_at p xs i d h a) e) (λ a. a)

  -- where no element passes, at each index
  pub none_any : (p : A → Bool) (xs : List A) (d : A) → ((i : ℕ) → i < length xs → p (get_or xs i d) ≡ false) → any p xs ≡ false
  none_any p [] d f = refl
  none_any p (x ∷ xs) d f = rw (f 0 (omega arith)) (none_any p xs d (λ i h. f (suc i) (omega arith)))

  pub place_le : (p : A → Bool) (xs : List A) → place p xs ≤ length xs
  unfolding place
  place_le p [] = omega arith
  place_le p (x ∷ xs) = let ih = place_le p xs in test (p x) (λ e. rw e (omega arith)) (λ e. rw e (omega arith))

  pub place_lt : (p : A → Bool) (xs : List A) → any p xs ≡ true → place p xs < length xs
  unfolding place
  place_lt p [] e = absurd (false≢true e)
  place_lt p (x ∷ xs) e =
      test (p x) (λ a. rw a (omega arith)) (λ a. let ih = place_lt p xs (rw a at e) in rw a (omega arith))

  pub place_none : (p : A → Bool) (xs : List A) → any p xs ≡ false → place p xs ≡ length xs
  unfolding place
  place_none p [] e = refl
  place_none p (x ∷ xs) e = let z = or_false (p x) (any p xs) e in rw z.0 (ap suc (place_none p xs z.1))

  -- an index below the length is a place that passes
  pub any_place : (p : A → Bool) (xs : List A) → place p xs < length xs → any p xs ≡ true
  any_place p xs h = test (any p xs) (λ e. e) (λ e. let z = place_none p xs e in absurd (omega arith))

  pub place_true : (p : A → Bool) (xs : List A) (d : A) → any p xs ≡ true → p (get_or xs (place p xs) d) ≡ true
  unfolding place
  place_true p [] d e = absurd (false≢true e)
  place_true p (x ∷ xs) d e = test (p x) (λ a. rw a a) (λ a. rw a (place_true p xs d (rw a at e)))

  -- the first that passes
  pub place_is : (p : A → Bool) (xs : List A) (i : ℕ) (d : A) → i < length xs → p (get_or xs i d) ≡ true
      → ((j : ℕ) → j < i → p (get_or xs j d) ≡ false) → place p xs ≡ i
  unfolding place
  place_is p [] i d h e f = absurd (omega arith)
  place_is p (x ∷ xs) zero d h e f = rw e
  place_is p (x ∷ xs) (suc i) d h e f =
      rw (f 0 (omega arith)) (ap suc (place_is p xs i d (omega arith) e (λ j k. f (suc j) (omega arith))))

  -- the only one that passes
  pub place_only : (p : A → Bool) (xs : List A) (i : ℕ) (d : A) → i < length xs → p (get_or xs i d) ≡ true
      → ((j : ℕ) → p (get_or xs j d) ≡ true → j ≡ i) → place p xs ≡ i
  place_only p xs i d h e f =
      place_is p xs i d h e (λ j k. test (p (get_or xs j d)) (λ a. let z = f j a in absurd (omega arith)) (λ a. a))

  -- two lists on which two tests agree index by index
  pub place_same : (p q : A → Bool) (xs : List A) → ((x : A) → p x ≡ q x) → place p xs ≡ place q xs
  unfolding place
  place_same p q [] f = refl
  place_same p q (x ∷ xs) f = simp (f x, place_same p q xs f)

  pub any_same : (p q : A → Bool) (xs : List A) → ((x : A) → p x ≡ q x) → any p xs ≡ any q xs
  any_same p q [] f = refl
  any_same p q (x ∷ xs) f = simp (f x, any_same p q xs f)

  -- a `set` that the test does not see
  pub place_set : (p : A → Bool) (xs : List A) (i : ℕ) (x d : A) → p x ≡ p (get_or xs i d) → place p (set xs i x) ≡ place p xs
  unfolding place
  place_set p [] i x d e = refl
  place_set p (y ∷ xs) zero x d e = rw e
  place_set p (y ∷ xs) (suc i) x d e = rw (place_set p xs i x d e)

  pub any_set : (p : A → Bool) (xs : List A) (i : ℕ) (x d : A) → p x ≡ p (get_or xs i d) → any p (set xs i x) ≡ any p xs
  any_set p [] i x d e = refl
  any_set p (y ∷ xs) zero x d e = rw e
  any_set p (y ∷ xs) (suc i) x d e = rw (any_set p xs i x d e)

  pub count_set : (p : A → Bool) (xs : List A) (i : ℕ) (x d : A) → p x ≡ p (get_or xs i d) → count p (set xs i x) ≡ count p xs
  unfolding count
  count_set p [] i x d e = refl
  count_set p (y ∷ xs) zero x d e = rw e
  count_set p (y ∷ xs) (suc i) x d e = rw (count_set p xs i x d e)

  -- a `set` of what passes
  pub any_put : (p : A → Bool) (xs : List A) (i : ℕ) (x : A) → i < length xs → p x ≡ true → any p (set xs i x) ≡ true
  any_put p [] i x h e = absurd (omega arith)
  any_put p (y ∷ xs) zero x h e = rw e
  any_put p (y ∷ xs) (suc i) x h e = or_right (p y) (any_put p xs i x (omega arith) e)

  -- a `set` of what passes where nothing else does
  pub place_put : (p : A → Bool) (xs : List A) (i : ℕ) (x d : A) → i < length xs → p x ≡ true → any p xs ≡ false → place p (set xs i x) ≡ i
  place_put p xs i x d h e n =
      place_is p (set xs i x) i d (lt-length-set xs i x h) (rw (get_or-set_same xs i x d h) e)
      (λ j k. let ne : j ≢ i = λ q. omega arith in rw (get_or-set_other xs i j x d ne) (any_none p xs j d n (omega arith)))

  -- a `set` of what passes in the place of what does not
  pub count_put : (p : A → Bool) (xs : List A) (i : ℕ) (x d : A) → i < length xs → p x ≡ true → p (get_or xs i d) ≡ false
      → count p (set xs i x) ≡ suc (count p xs)
  unfolding count
  count_put p [] i x d h e n = absurd (omega arith)
  count_put p (y ∷ xs) zero x d h e n = rw (e, n)
  count_put p (y ∷ xs) (suc i) x d h e n =
      let ih = count_put p xs i x d (omega arith) e n in
      test (p y) (λ a. rw (a, ih)) (λ a. rw (a, ih))

  pub count_le : (p : A → Bool) (xs : List A) → count p xs ≤ length xs
  unfolding count
  count_le p [] = omega arith
  count_le p (x ∷ xs) = let ih = count_le p xs in test (p x) (λ e. rw e (omega arith)) (λ e. rw e (omega arith))

  -- where not all pass one does not
  pub count_room : (p q : A → Bool) (xs : List A) → ((x : A) → p x ≡ false → q x ≡ true) → count p xs < length xs → any q xs ≡ true
  unfolding count
  count_room p q [] f h = absurd (omega arith)
  count_room p q (x ∷ xs) f h =
      test (p x)
      (λ e. let z : suc (count p xs) < suc (length xs) = rw e at h in or_right (q x) (count_room p q xs f (omega arith)))
      (λ e. rw (f x e))

  pub count_pos : (p : A → Bool) (xs : List A) → any p xs ≡ true → 0 < count p xs
  unfolding count
  count_pos p [] e = absurd (false≢true e)
  count_pos p (x ∷ xs) e = test (p x) (λ a. rw a (omega arith)) (λ a. rw a (count_pos p xs (rw a at e)))

  pub count_zero : (p : A → Bool) (xs : List A) → count p xs ≡ 0 → any p xs ≡ false
  count_zero p xs e = test (any p xs) (λ a. let z = count_pos p xs a in absurd (omega arith)) (λ a. a)

  -- an element that does not pass, again and again
  pub count_none : (p : A → Bool) (x : A) → p x ≡ false → (n : ℕ) → count p (replicate n x) ≡ 0
  unfolding count
  count_none p x e zero = refl
  count_none p x e (suc n) = rw e (count_none p x e n)

  -- fewer pass the narrower test, and fewer still where one passes the wider alone
  pub count_mono : (p q : A → Bool) (xs : List A) → ((x : A) → p x ≡ true → q x ≡ true) → count p xs ≤ count q xs
  unfolding count
  count_mono p q [] f = omega arith
  count_mono p q (x ∷ xs) f =
      let ih = count_mono p q xs f in
      test (p x)
      (λ a. rw (a, f x a) (omega arith))
      (λ a. test (q x) (λ b. rw (a, b) (omega arith)) (λ b. rw (a, b) (omega arith)))

  pub count_fewer : (p q w : A → Bool) (xs : List A) → ((x : A) → p x ≡ true → q x ≡ true) → ((x : A) → w x ≡ true → p x ≡ false)
      → ((x : A) → w x ≡ true → q x ≡ true) → any w xs ≡ true → count p xs < count q xs
  unfolding count
  count_fewer p q w [] f g k e = absurd (false≢true e)
  count_fewer p q w (x ∷ xs) f g k e =
      let le : count p xs ≤ count q xs = count_mono p q xs f in
      test (w x)
      (λ a. rw (g x a, k x a) (omega arith))
      (λ a. let ih = count_fewer p q w xs f g k (rw a at e) in
      test (p x)
      (λ b. rw (b, f x b) (omega arith))
      (λ b. test (q x) (λ c. rw (b, c) (omega arith)) (λ c. rw (b, c) (omega arith))))

-- ---- a `map`

module _ {A B : Type 0} where
  pub get_or_map : (f : A → B) (xs : List A) (i : ℕ) (a : A) (b : B) → f a ≡ b → get_or (map f xs) i b ≡ f (get_or xs i a)
  get_or_map f xs i a b e = rw (← e) (ListN.get_or-map f xs i a)

  pub any_map : (p : B → Bool) (q : A → Bool) (f : A → B) (xs : List A) → ((x : A) → p (f x) ≡ q x) → any p (map f xs) ≡ any q xs
  any_map p q f [] h = refl
  any_map p q f (x ∷ xs) h = simp (h x, any_map p q f xs h)

  pub place_map : (p : B → Bool) (q : A → Bool) (f : A → B) (xs : List A) → ((x : A) → p (f x) ≡ q x) → place p (map f xs) ≡ place q xs
  unfolding place
  place_map p q f [] h = refl
  place_map p q f (x ∷ xs) h = simp (h x, place_map p q f xs h)

  pub count_map : (p : B → Bool) (q : A → Bool) (f : A → B) (xs : List A) → ((x : A) → p (f x) ≡ q x) → count p (map f xs) ≡ count q xs
  unfolding count
  count_map p q f [] h = refl
  count_map p q f (x ∷ xs) h = simp (h x, count_map p q f xs h)
