-- Lines and words of a text, found by searches.
use Prim.Native.Nat.{◌+◌, ◌-◌, ◌<◌, ◌≤◌, suc, ℕ}
use mathlib.Core.Path.{◌∙◌, ◌≡◌, refl}
use mathlib.Core.Bool.{cond, false, false≢true, true}
use mathlib.Core.List.{List, [], ◌∷◌}
use lib.Dec.{eqb}
use lib.ListN.{drop, drop_of_length-le, get_or, length, length-drop, take}
use native.Mathlib.Omega.{arith}
use borrow.Author.Tests.{eqb-false, eqb-true, ne_eqb}
use lib.Seq.{drop-cons, drop-drop, get_or-drop}
use Rattle.std.specs.Cmp.Lexicographic.{pointwise}
use Rattle.std.specs.Prelude.{nat_eq}
use Rattle.parsing.specs.declared.Stop.TheVariants.{WordEnd, WordStart}
use Rattle.lookup.proofs.Bounds.{place_passes}
use Rattle.rules.proofs.Lists.{place_le}
use Rattle.rules.specs.Lists.{place}
use Rattle.parsing.specs.Fault.{word_end, word_start}
use Rattle.parsing.specs.Read.{glued, in_word, is_break, is_space, same, stops, words_in}
use Rattle.parsing.specs.Results.{NextWord}
use Rattle.undo.proofs.Laws.{or_false, test}

pub next : (n k : ℕ) → n ≤ k → (k ≡ n → ⊥) → suc n ≤ k
next n k l f = test (eqb k n) (λ e. absurd (f (eqb-true k n e))) (λ e. omega (arith, eqb-false k n e))

-- ---- words that are the same

pub same_words : (a b : List ℕ) → pointwise nat_eq a b ≡ same a b
unfolding same
same_words [] [] = refl
same_words [] (y ∷ b) = refl
same_words (x ∷ a) [] = refl
same_words (x ∷ a) (y ∷ b) = test (eqb x y) (λ e. rw e (same_words a b)) (λ e. rw e)

-- ---- words of a line

-- spaces are passed
no_comment : (c : ℕ) → is_space c ≡ true → eqb c 35 ≡ false
no_comment c s = test (eqb c 35) (λ e. absurd (false≢true (rw (eqb-true c 35 e) at s))) (λ e. e)

pub space_passed : (c : ℕ) (cs : List ℕ) → is_space c ≡ true → words_in (c ∷ cs) ≡ words_in cs
unfolding words_in
space_passed c cs s = rw (no_comment c s, s)

words_skip : (l : List ℕ) → words_in l ≡ words_in (drop (place (stops WordStart) l) l)
unfolding place stops
words_skip [] = refl
words_skip (c ∷ cs) = test (is_space c) (λ e. space_passed c cs e ∙ rw e (words_skip cs)) (λ e. rw e)

pub word_start_lem : (c : ℕ) (cs : List ℕ) → is_break c ≡ false → words_in (c ∷ cs) ≡ cond (in_word cs) (glued c (words_in cs)) ((c ∷ []) ∷ words_in cs)
unfolding words_in
word_start_lem c cs n = let b = or_false (is_space c) (eqb c 35) n in rw (b.1, b.0)

-- a word, up to the byte that ends it
words_word : (c : ℕ) (cs : List ℕ) → is_break c ≡ false → words_in (c ∷ cs) ≡ (c ∷ take (place (stops WordEnd) cs) cs) ∷ words_in (drop (place (stops WordEnd) cs) cs)
unfolding place stops
words_word c [] n = word_start_lem c [] n
words_word c (d ∷ ds) n =
    let ih = words_word d ds in
    test (is_break d) (λ e. rw (word_start_lem c (d ∷ ds) n, e)) (λ e. rw (word_start_lem c (d ∷ ds) n, e, ih e))

-- a byte of a word is passed
one_passed : (c : ℕ) (cs : List ℕ) → is_break c ≡ false → place (stops WordEnd) (c ∷ cs) ≡ suc (place (stops WordEnd) cs)
unfolding place stops
one_passed c cs n = rw n

-- a comment
words_comment : (cs : List ℕ) → words_in (35 ∷ cs) ≡ []
unfolding words_in
words_comment cs = refl

pub words_empty : words_in [] ≡ []
unfolding words_in
words_empty = refl

-- ---- the first word from a place of a line on

module _ (line : List ℕ) (at s : ℕ) (f : s ≡ at + place (stops WordStart) (drop at line)) where
  words_from : words_in (drop at line) ≡ words_in (drop s line)
  words_from = rw (f, ← drop-drop (place (stops WordStart) (drop at line)) at line) (words_skip (drop at line))

  starts_in : at ≤ length line → s ≤ length line
  starts_in h = omega (arith, place_le (stops WordStart) (drop at line), length-drop at line)

  start_at : s ≡ at + word_start 0 (drop at line)
  unfolding word_start
  start_at = f

  end_at : (e : ℕ) → e ≡ s + place (stops WordEnd) (drop s line) → e ≡ at + word_end (drop at line)
  unfolding word_end
  end_at e g =
      let p = place (stops WordStart) (drop at line) in
      let h : e ≡ (at + p) + place (stops WordEnd) (drop p (drop at line)) = rw (drop-drop p at line, ← f) g in
      omega arith

  no_more : at ≤ length line → words_in (drop s line) ≡ [] → NextWord line at (record { start = s; end = s })
  no_more h e = record { behind = omega arith; before = omega arith; inside = starts_in h; none = λ z. words_from ∙ e; some = λ z. absurd (omega arith); starts = start_at; ends = λ z. absurd (omega arith) }

  pub at_end : at ≤ length line → length line ≤ s → NextWord line at (record { start = s; end = s })
  at_end h l = no_more h (rw (drop_of_length-le line l) words_empty)

  pub at_comment : at ≤ length line → s < length line → get_or line s 0 ≡ 35 → NextWord line at (record { start = s; end = s })
  at_comment h l e = no_more h (rw (drop-cons line s 0 l, e) (words_comment _))

  not_space : s < length line → is_space (get_or line s 0) ≡ false
  unfolding stops
  not_space l =
      let n : place (stops WordStart) (drop at line) < length (drop at line) = omega (arith, length-drop at line) in
      let p = rw (get_or-drop at line (place (stops WordStart) (drop at line)) 0, ← f) at (place_passes (stops WordStart) (drop at line) 0 n) in
      test (is_space (get_or line s 0)) (λ e. absurd (false≢true (rw e at p))) (λ e. e)

  no_break : s < length line → (get_or line s 0 ≡ 35 → ⊥) → is_break (get_or line s 0) ≡ false
  no_break l n = rw (not_space l, ne_eqb (get_or line s 0) 35 n)

  pub at_word : (e : ℕ) → s < length line → (get_or line s 0 ≡ 35 → ⊥) → e ≡ s + place (stops WordEnd) (drop s line) → NextWord line at (record { start = s; end = e })
  at_word e l n g =
      let c = get_or line s 0 in
      let cs = drop (suc s) line in
      let k = place (stops WordEnd) cs in
      let u : e ≡ s + suc k = g ∙ rw (drop-cons line s 0 l, one_passed c cs (no_break l n)) in
      let w : words_in (drop at line) ≡ (c ∷ take k cs) ∷ words_in (drop k cs) = words_from ∙ rw (drop-cons line s 0 l) (words_word c cs (no_break l n)) in
      let m : e - s ≡ suc k = omega arith in
      let t : take (e - s) (drop s line) ≡ c ∷ take k cs = rw (m, drop-cons line s 0 l) in
      let r : drop e line ≡ drop k cs = rw (u, ← drop-drop (suc k) s line, drop-cons line s 0 l) in
      record { behind = omega arith; before = omega arith; inside = omega (arith, place_le (stops WordEnd) (drop s line), length-drop s line); none = λ z. absurd (omega arith); some = λ z. w ∙ rw (t, r); starts = start_at; ends = λ z. end_at e g }
