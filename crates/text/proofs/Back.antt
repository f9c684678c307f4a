-- Numbers and words are read back.
use Rattle.rules.proofs.Codec.Bytes.{all_append}
use borrow.Author.Tests.{not-true, le-ltb, lt-ltb, ltb-false, ltb-true, ne_eqb}
use Prim.Native.Nat.{◌%◌, ◌*◌, ◌+◌, ◌-◌, ◌/◌, ◌<◌, ◌^◌, ◌≤◌, suc, zero, ℕ}
use mathlib.Core.Path.{◌∙◌, ◌≡◌, refl, sym}
use mathlib.Core.Bool.{Bool, ◌&&◌, false, not, true}
use mathlib.Core.List.{List, [], ◌++◌, ◌∷◌, append_assoc, map}
use lib.Dec.{eqb, ltb}
use lib.ListN.{length, length-append}
use native.Mathlib.Omega.{arith}
use native.Mathlib.Nat.{div-lt_iff_lt-mul, pow-suc}
use Rattle.std.specs.Prelude.{None, Option, Some}
use Rattle.rules.specs.Lists.{all, flat}
use Rattle.parsing.proofs.Numbers.{digit_not, is_number}
use Rattle.parsing.proofs.Reading.{glued_line}
use Rattle.parsing.proofs.Words.{space_passed, word_start_lem, words_empty}
use Rattle.parsing.specs.Read.{in_word, is_break, lines_of, number_from, with_digit, words_in}
use Rattle.output.specs.Decimal.{decimal, digits}
use Rattle.printing.specs.Text.{line_text, number_text}
use Rattle.undo.proofs.Laws.{and_true, test}

-- ---- digits

number_join : (m : ℕ) (n : Option ℕ) (xs ys : List ℕ) → number_from m n (xs ++ ys) ≡ number_from m (number_from m n xs) ys
unfolding number_from
number_join m n [] ys = refl
number_join m None (x ∷ xs) ys = sym (digit_not m ys)
number_join m (Some v) (x ∷ xs) ys = number_join m (with_digit m v x) xs ys

digit_back : (m v d : ℕ) → d < 10 → 10 * v + d ≤ m → with_digit m v (48 + d) ≡ Some (10 * v + d)
digit_back m v d h l =
    let e : 48 + d - 48 ≡ d = omega arith in
    is_number m v (48 + d) (omega arith) (omega arith) (rw e l) ∙ rw e

one_digit : (m v d : ℕ) → number_from m (Some v) ((48 + d) ∷ []) ≡ with_digit m v (48 + d)
unfolding number_from
one_digit m v d = refl

digits_one : (f n : ℕ) → n < 10 → digits (suc f) n ≡ (48 + n) ∷ []
unfolding digits
digits_one f n h = rw (lt-ltb n 10 h)

digits_last : (f n : ℕ) → 10 ≤ n → digits (suc f) n ≡ digits f (n / 10) ++ ((48 + n % 10) ∷ [])
unfolding digits
digits_last f n h = rw (le-ltb n 10 h)

small_back : (m f n : ℕ) → n < 10 → n ≤ m → number_from m (Some 0) (digits (suc f) n) ≡ Some n
small_back m f n h l =
    let e : 10 * 0 + n ≡ n = omega arith in
    rw (digits_one f n h, one_digit m 0 n) (digit_back m 0 n h (omega arith) ∙ rw e)

digits_back : (m f n : ℕ) → n < 10 ^ suc f → n ≤ m → number_from m (Some 0) (digits (suc f) n) ≡ Some n
digits_back m zero n h l = small_back m zero n (omega arith) l
digits_back m (suc f) n h l =
    let z : 0 < 10 = omega arith in
    let g : n < 10 ^ suc f * 10 = omega (arith, pow-suc 10 (suc f)) in
    let ih = digits_back m f (n / 10) ((div-lt_iff_lt-mul z).1 g) (omega arith) in
    let e : 10 * (n / 10) + n % 10 ≡ n = omega arith in
    test (ltb n 10) (λ t. small_back m (suc f) n (ltb-true n 10 t) l)
    (λ t. rw (digits_last (suc f) n (ltb-false n 10 t), number_join m (Some 0) (digits (suc f) (n / 10)) ((48 + n % 10) ∷ []), ih, one_digit m (n / 10) (n % 10)) (digit_back m (n / 10) (n % 10) (omega arith) (omega arith) ∙ rw e))

pub decimal_back : (m n : ℕ) → n < 18446744073709551616 → n ≤ m → number_from m (Some 0) (decimal n) ≡ Some n
unfolding decimal
decimal_back m n h l = digits_back m 19 n (omega arith) l

-- ---- bytes of a word: no space, no comment, no newline

unfoldable pub plain : ℕ → Bool
plain c = not (is_break c) && not (eqb c 10)

pub plain_break : (c : ℕ) → plain c ≡ true → is_break c ≡ false
unfolding plain
plain_break c e = not-true (is_break c) (and_true (not (is_break c)) (not (eqb c 10)) e).0

pub plain_line : (c : ℕ) → plain c ≡ true → eqb c 10 ≡ false
unfolding plain
plain_line c e = not-true (eqb c 10) (and_true (not (is_break c)) (not (eqb c 10)) e).1

plain_digit : (d : ℕ) → plain (48 + d) ≡ true
unfolding plain
plain_digit d = rw (ne_eqb (48 + d) 32 (λ e. omega arith), ne_eqb (48 + d) 9 (λ e. omega arith), ne_eqb (48 + d) 13 (λ e. omega arith), ne_eqb (48 + d) 35 (λ e. omega arith), ne_eqb (48 + d) 10 (λ e. omega arith))

digits_none : (n : ℕ) → digits zero n ≡ []
unfolding digits
digits_none n = refl

digits_plain : (f n : ℕ) → all plain (digits f n) ≡ true
digits_plain zero n = rw (digits_none n)
digits_plain (suc f) n =
    let ih = digits_plain f (n / 10) in
    test (ltb n 10) (λ t. rw (digits_one f n (ltb-true n 10 t), plain_digit n))
    (λ t. rw (digits_last f n (ltb-false n 10 t)) (all_append plain (digits f (n / 10)) ((48 + n % 10) ∷ []) ih (rw (plain_digit (n % 10)))))

digits_some : (f n : ℕ) → 0 < length (digits (suc f) n)
digits_some f n =
    test (ltb n 10) (λ t. rw (digits_one f n (ltb-true n 10 t)) (omega arith))
    (λ t. rw (digits_last f n (ltb-false n 10 t), length-append) (omega arith))

pub decimal_plain : (n : ℕ) → all plain (decimal n) ≡ true
unfolding decimal
decimal_plain n = digits_plain 20 n

pub decimal_some : (n : ℕ) → 0 < length (decimal n)
unfolding decimal
decimal_some n = digits_some 19 n

-- ---- words

-- a word in front of a byte that ends it
pub words_of : (w r : List ℕ) → 0 < length w → all plain w ≡ true → in_word r ≡ false → words_in (w ++ r) ≡ w ∷ words_in r
words_of [] r z p e = absurd (omega arith)
words_of (c ∷ []) r z p e =
    let h = and_true (plain c) true p in
    word_start_lem c r (plain_break c h.0) ∙ rw e
words_of (c ∷ d ∷ ds) r z p e =
    let h = and_true (plain c) (all plain (d ∷ ds)) p in
    let k = and_true (plain d) (all plain ds) h.1 in
    let ih = words_of (d ∷ ds) r (omega arith) h.1 e in
    word_start_lem c ((d ∷ ds) ++ r) (plain_break c h.0) ∙ rw (plain_break d k.0, ih)

-- numbers behind a word
numbers_break : (ns : List ℕ) → in_word (flat number_text ns) ≡ false
unfolding flat number_text
numbers_break [] = refl
numbers_break (n ∷ ns) = refl

numbers_cons : (n : ℕ) (ns : List ℕ) → flat number_text (n ∷ ns) ≡ 32 ∷ (decimal n ++ flat number_text ns)
unfolding flat number_text
numbers_cons n ns = refl

numbers_nil : flat number_text [] ≡ []
unfolding flat
numbers_nil = refl

numbers_words : (ns : List ℕ) → words_in (flat number_text ns) ≡ map decimal ns
numbers_words [] = rw numbers_nil words_empty
numbers_words (n ∷ ns) =
    rw (numbers_cons n ns, space_passed 32 (decimal n ++ flat number_text ns) refl, words_of (decimal n) (flat number_text ns) (decimal_some n) (decimal_plain n) (numbers_break ns), numbers_words ns)

pub line_words : (w ns : List ℕ) → 0 < length w → all plain w ≡ true → words_in (w ++ flat number_text ns) ≡ w ∷ map decimal ns
line_words w ns z p = words_of w (flat number_text ns) z p (numbers_break ns) ∙ rw (numbers_words ns)

-- ---- lines

no_line : ℕ → Bool
no_line c = not (eqb c 10)

plain_no_line : (w : List ℕ) → all plain w ≡ true → all no_line w ≡ true
unfolding no_line
plain_no_line [] p = refl
plain_no_line (c ∷ cs) p = let h = and_true (plain c) (all plain cs) p in rw (plain_line c h.0) (plain_no_line cs h.1)

numbers_no_line : (ns : List ℕ) → all no_line (flat number_text ns) ≡ true
unfolding no_line
numbers_no_line [] = rw numbers_nil
numbers_no_line (n ∷ ns) = rw (numbers_cons n ns) (all_append no_line (decimal n) (flat number_text ns) (plain_no_line (decimal n) (decimal_plain n)) (numbers_no_line ns))

lines_of_lem : (l r : List ℕ) → all no_line l ≡ true → lines_of (l ++ (10 ∷ r)) ≡ l ∷ lines_of r
unfolding lines_of no_line
lines_of_lem [] r p = refl
lines_of_lem (c ∷ cs) r p =
    let h = and_true (no_line c) (all no_line cs) p in
    rw (not-true (eqb c 10) h.0) (glued_line c cs (lines_of r) (lines_of (cs ++ (10 ∷ r))) (lines_of_lem cs r h.1))

-- a line of the text, and what stands behind it
pub text_lines : (word ns r : List ℕ) → all plain word ≡ true → lines_of (line_text word ns ++ r) ≡ (word ++ flat number_text ns) ∷ lines_of r
unfolding line_text
text_lines word ns r p =
    rw (append_assoc word (flat number_text ns ++ (10 ∷ [])) r, append_assoc (flat number_text ns) (10 ∷ []) r, ← append_assoc word (flat number_text ns) (10 ∷ r))
    (lines_of_lem (word ++ flat number_text ns) r (all_append no_line word (flat number_text ns) (plain_no_line word p) (numbers_no_line ns)))
