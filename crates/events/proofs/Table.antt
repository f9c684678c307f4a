-- The table of kinds: its rows in the source, its widths, and the bytes of a body.
use Prim.Native.Nat.{◌+◌, ◌<◌, ◌≤◌, suc, zero, ℕ}
use mathlib.Core.Path.{◌∙◌, ◌≡◌, refl, sym}
use mathlib.Core.Bool.{Bool, ◌&&◌, false, not, true}
use mathlib.Core.List.{List, [], ◌∷◌}
use lib.Dec.{eqb, leb}
use mathlib.Core.Logic.{inl, inr, ◌⊎◌}
use lib.ListN.{drop, get_or, get_or-eq_default, get_or-map, length}
use native.Mathlib.Numerals.{add-one}
use borrow.Author.Tests.{eqb-true, leb-false, leb-true}
use lib.Seq.{drop-cons}
use Rattle.events.specs.Row.{is_width}
use Rattle.rules.specs.Kinds.{Kind, is_kind, kind_at, kinds, no_kind, total, widths_of, word_of}
use Rattle.rules.specs.Lists.{all}
use Rattle.rules.specs.Record.{body_length}
use Rattle.undo.proofs.Laws.{and_true, test}
use Rattle.rules.proofs.Laws.{known}

-- ---- one law for every table: what a function gives for each entry, and a test that each passes

passes : {A : Type 0} (p : A → Bool) (xs : List A) (k : ℕ) (a : A) → all p xs ≡ true → p a ≡ true → p (get_or xs k a) ≡ true
passes p [] zero a e h = h
passes p [] (suc k) a e h = h
passes p (x ∷ xs) zero a e h = (and_true (p x) (all p xs) e).0
passes p (x ∷ xs) (suc k) a e h = passes p xs k a (and_true (p x) (all p xs) e).1 h

-- ---- every kind has a word of at most 11 letters, and numbers of 1, 2 or 8 bytes

abbrev fits : Kind → Bool
fits k = leb (length k.word) 11 && all is_width k.widths

pub record Fits (k : ℕ) : Type 0 where
  pub letters : length (word_of k) ≤ 11
  pub wide : all is_width (widths_of k) ≡ true

all_fit : (k : ℕ) → fits (kind_at k) ≡ true
unfolding kind_at
all_fit k = passes fits kinds k no_kind refl refl

pub fitting : (k : ℕ) → Fits k
fitting k =
    let h = and_true (leb (length (word_of k)) 11) (all is_width (widths_of k)) (all_fit k) in
    record { letters = leb-true (length (word_of k)) 11 h.0; wide = h.1 }

-- ---- the body of a kind has the bytes of its numbers

pub body_total : (k : ℕ) → body_length k ≡ total (widths_of k)
unfolding kind_at
body_total k = get_or-map (λ (x : Kind). total x.widths) kinds k no_kind

-- ---- a number that no kind has

pub no_kind_there : (n : ℕ) → is_kind n ≡ false → kind_at n ≡ no_kind
unfolding kind_at
no_kind_there n e = none n (known_not n (sym (known n) ∙ e))
  where
    known_not : (n : ℕ) → (not (eqb n 9) && leb n 10) ≡ false → (n ≡ 9) ⊎ (11 ≤ n)
    known_not n e = test (eqb n 9) (λ a. inl (eqb-true n 9 a)) (λ a. inr (leb-false n 10 (rw a at e)))

    none : (n : ℕ) → (n ≡ 9) ⊎ (11 ≤ n) → get_or kinds n no_kind ≡ no_kind
    none n (inl e) = rw e
    none n (inr h) = get_or-eq_default kinds no_kind h

-- the sum of what is left of a list
pub total_next : (xs : List ℕ) (i : ℕ) → i < length xs → total (drop i xs) ≡ get_or xs i 0 + total (drop (i + 1) xs)
total_next xs i h = rw (add-one i, drop-cons xs i 0 h)
