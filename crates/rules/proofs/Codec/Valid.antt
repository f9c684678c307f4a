-- What a state needs so that an image can hold it.
use Prim.Native.Nat.{◌+◌, ◌-◌, ◌≤◌, suc, ℕ}
use mathlib.Core.Path.{◌∙◌, ◌≡◌, refl, sym}
use mathlib.Core.Bool.{Bool, ◌&&◌, ◌||◌, false, true}
use mathlib.Core.List.{List, [], ◌++◌, ◌∷◌}
use lib.Dec.{eqb, leb, ltb}
use lib.ListN.{get_or, length}
use native.Mathlib.Omega.{arith}
use borrow.Author.Tests.{le-leb, ne_eqb}
use Rattle.rules.proofs.Codec.Bytes.{is_line}
use Rattle.rules.specs.Claim.{is_byte}
use Rattle.rules.specs.Image.{Logged, Persistent, no_listed, no_logged}
use Rattle.rules.specs.declared.Listed.{Listed}
use Rattle.rules.specs.Lists.{all, count}
use Rattle.rules.specs.Reader.{is_known_thread, is_logged_by, last_listed, last_logged}
use Rattle.rules.specs.Refusal.{in_range}
use Rattle.undo.proofs.Laws.{test}

-- ---- numbers that rise

module _ {A : Type 0} (f : A → ℕ) (d : ℕ) where
  -- the numbers of the elements begin at k, and each is at least d above the one before
  abbrev pub rises : ℕ → List A → Bool
  rises k [] = true
  rises k (x ∷ xs) = leb k (f x) && rises (d + f x) xs

  -- the least number that may follow
  abbrev pub bound : ℕ → List A → ℕ
  bound k [] = k
  bound k (x ∷ xs) = bound (d + f x) xs

  pub rises_append : (k : ℕ) (xs ys : List A) → rises k (xs ++ ys) ≡ (rises k xs && rises (bound k xs) ys)
  rises_append k [] ys = refl
  rises_append k (x ∷ xs) ys = test (leb k (f x)) (λ e. rw e (rises_append (d + f x) xs ys)) (λ e. rw e)

  -- it is d above the last one
  pub bound_last : (k : ℕ) (x : A) (xs : List A) (z : A) → bound k (x ∷ xs) ≡ d + f (get_or (x ∷ xs) (length (x ∷ xs) - 1) z)
  bound_last k x [] z = refl
  bound_last k x (y ∷ ys) z =
      let a : suc (suc (length ys)) - 1 ≡ suc (length ys) = omega arith in
      let b : suc (length ys) - 1 ≡ length ys = omega arith in
      rw a (rw b at (bound_last (d + f x) y ys z))

-- ---- regions and log entries that fit their records

abbrev pub fits_region : ℕ → Listed → Bool
fits_region n r = all (is_known_thread n) (r.key ∷ r.deps) && (eqb (length r.deps) 4 && is_byte r.state)

abbrev pub fits_entry : ℕ → ℕ → Logged → Bool
fits_entry n l e = is_known_thread n e.key && (ltb e.line l && is_line e.old)

abbrev pub key_of_listed : Listed → ℕ
key_of_listed r = r.key

abbrev pub key_of_logged : Logged → ℕ
key_of_logged e = e.key

-- a state of which k lines are there
pub record Sound (p : Persistent) (k : ℕ) : Type 0 where
  pub size : in_range p.threads p.lines ≡ true
  pub whole : length p.medium ≡ k
  pub medium : all is_line p.medium ≡ true
  -- at most 32 regions, their keys rising
  pub few : length p.regions ≤ 32
  pub rising : rises key_of_listed 1 0 p.regions ≡ true
  pub regions : all (fits_region p.threads) p.regions ≡ true
  -- at most 32 entries of a thread, their keys not falling
  pub room : (t : ℕ) → count (is_logged_by t) p.log ≤ 32
  pub climbing : rises key_of_logged 0 0 p.log ≡ true
  pub entries : all (fits_entry p.threads p.lines) p.log ≡ true

abbrev pub Valid : Persistent → Type 0
Valid p = Sound p p.lines

-- ---- the reader's tests of the order are the same

pub listed_test : (rs : List Listed) (k : ℕ) → (eqb (length rs) 0 || ltb (last_listed rs) k) ≡ leb (bound key_of_listed 1 0 rs) k
listed_test [] k = sym (le-leb 0 k (omega arith))
listed_test (r ∷ rs) k =
    let e : eqb (suc (length rs)) 0 ≡ false = ne_eqb (suc (length rs)) 0 (λ e. omega arith) in
    let b : bound key_of_listed 1 0 (r ∷ rs) ≡ suc (last_listed (r ∷ rs)) = bound_last key_of_listed 1 0 r rs no_listed ∙ omega arith in
    rw (e, b)

pub logged_test : (es : List Logged) (k : ℕ) → leb (last_logged es) k ≡ leb (bound key_of_logged 0 0 es) k
logged_test [] k = refl
logged_test (e ∷ es) k =
    let b : bound key_of_logged 0 0 (e ∷ es) ≡ last_logged (e ∷ es) = bound_last key_of_logged 0 0 e es no_logged ∙ omega arith in
    rw b

-- ---- counts

module _ {A : Type 0} (p : A → Bool) where
  pub count_append : (xs ys : List A) → count p (xs ++ ys) ≡ count p xs + count p ys
  unfolding count
  count_append [] ys = omega arith
  count_append (x ∷ xs) ys =
      let ih = count_append xs ys in
      test (p x) (λ e. rw (e, ih) (omega arith)) (λ e. rw (e, ih))
