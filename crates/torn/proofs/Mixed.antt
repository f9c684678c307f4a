-- Words of two lines are a line; the lines of a torn medium; a line inside an image.
use Prim.Native.Nat.{◌*◌, ◌+◌, ◌<◌, ◌≤◌, suc, zero, ℕ}
use mathlib.Core.Path.{◌≡◌, ap, refl, sym}
use mathlib.Core.Bool.{Bool, cond, false, true}
use mathlib.Core.List.{List, [], ◌++◌, ◌∷◌, append_assoc}
use lib.Dec.{eqb, ltb}
use lib.ListN.{get_or, length}
use lib.Seq.{drop-append-add}
use native.Mathlib.Nat.{zero-add}
use native.Mathlib.Omega.{arith}
use borrow.Author.Tests.{ltb-false, ltb-true}
use Rattle.rules.proofs.Codec.Bytes.{is_line, is_word, line_back}
use Rattle.rules.proofs.Codec.Store.{length_head, length_line}
use Rattle.rules.proofs.Codec.Valid.{Valid}
use Rattle.rules.specs.Bytes.{line_at}
use Rattle.rules.specs.Image.{Persistent, encode, entry_record, head_record, line_record, region_record}
use Rattle.rules.specs.Lists.{all, flat}
use Rattle.rules.specs.Recovery.{line_start}
use Rattle.rules.specs.Tables.{line_of}
use Rattle.rules.specs.declared.Board.{Board}
use Rattle.undo.proofs.Laws.{and_true, test}
use Rattle.torn.specs.Torn.{is_torn, mixed, torn_from}

-- ---- words of two lines

-- the same one, whatever is chosen
pub either : (c : Bool) (n : ℕ) → cond c n n ≡ n
either c n = test c (λ e. rw e) (λ e. rw e)

pub mixed_length : (p : ℕ → Bool) (i : ℕ) (xs ys : List ℕ) → length (mixed p i xs ys) ≡ length xs
unfolding mixed
mixed_length p i [] ys = refl
mixed_length p i (x ∷ xs) ys = ap suc (mixed_length p (suc i) xs ys)

mixed_words : (p : ℕ → Bool) (i : ℕ) (xs ys : List ℕ) → all is_word xs ≡ true → ((j : ℕ) → is_word (get_or ys j 0) ≡ true) → all is_word (mixed p i xs ys) ≡ true
unfolding mixed
mixed_words p i [] ys e f = refl
mixed_words p i (x ∷ xs) ys e f =
    let z = and_true (is_word x) (all is_word xs) e in
    test (p i) (λ d. rw (d, f i) (mixed_words p (suc i) xs ys z.1 f)) (λ d. rw (d, z.0) (mixed_words p (suc i) xs ys z.1 f))

word_at : (ys : List ℕ) → all is_word ys ≡ true → (j : ℕ) → is_word (get_or ys j 0) ≡ true
word_at [] e j = refl
word_at (y ∷ ys) e zero = (and_true (is_word y) (all is_word ys) e).0
word_at (y ∷ ys) e (suc j) = word_at ys (and_true (is_word y) (all is_word ys) e).1 j

pub mixed_line : (p : ℕ → Bool) (xs ys : List ℕ) → is_line xs ≡ true → is_line ys ≡ true → is_line (mixed p 0 xs ys) ≡ true
mixed_line p xs ys e f =
    let a = and_true (eqb (length xs) 8) (all is_word xs) e in
    let b = and_true (eqb (length ys) 8) (all is_word ys) f in
    rw (mixed_length p 0 xs ys, a.0) (mixed_words p 0 xs ys a.1 (word_at ys b.1))

-- each word by itself; behind the last word of a line there is 0
pub mixed_at : (p : ℕ → Bool) (i : ℕ) (xs ys : List ℕ) (w : ℕ) → w < length xs → get_or (mixed p i xs ys) w 0 ≡ cond (p (i + w)) (get_or ys (i + w) 0) (get_or xs w 0)
unfolding mixed
mixed_at p i [] ys w h = absurd (omega arith)
mixed_at p i (x ∷ xs) ys zero h = let n : i + 0 ≡ i = omega arith in rw n
mixed_at p i (x ∷ xs) ys (suc w) h = let n : i + suc w ≡ suc i + w = omega arith in rw n (mixed_at p (suc i) xs ys w (omega arith))

pub behind_last : (xs : List ℕ) (w : ℕ) → length xs ≤ w → get_or xs w 0 ≡ 0
behind_last [] w h = refl
behind_last (x ∷ xs) zero h = absurd (omega arith)
behind_last (x ∷ xs) (suc w) h = behind_last xs w (omega arith)

-- of lines of one length every word
pub mixed_word : (p : ℕ → Bool) (xs ys : List ℕ) → length ys ≡ length xs → (w : ℕ) → get_or (mixed p 0 xs ys) w 0 ≡ cond (p w) (get_or ys w 0) (get_or xs w 0)
mixed_word p xs ys n w =
    test (ltb w (length xs))
    (λ h. let z = mixed_at p 0 xs ys w (ltb-true w (length xs) h) in rw (zero-add w) at z)
    (λ h. let k = ltb-false w (length xs) h in
    rw (behind_last (mixed p 0 xs ys) w (omega (arith, mixed_length p 0 xs ys)), behind_last ys w (omega arith), behind_last xs w (omega arith)) (sym (either (p w) 0)))

-- with no word chosen the line is as it was
pub mixed_none : (i : ℕ) (xs ys : List ℕ) → mixed (λ w. false) i xs ys ≡ xs
unfolding mixed
mixed_none i [] ys = refl
mixed_none i (x ∷ xs) ys = ap (λ zs. x ∷ zs) (mixed_none (suc i) xs ys)

-- ---- a torn medium

module _ (p : ℕ → ℕ → Bool) (b : Board) where
  pub torn_length : (l : ℕ) (xs : List (List ℕ)) → length (torn_from p b l xs) ≡ length xs
  unfolding torn_from
  torn_length l [] = refl
  torn_length l (x ∷ xs) = ap suc (torn_length (suc l) xs)

  pub torn_lines : (l : ℕ) (xs : List (List ℕ)) → l + length xs ≤ 256 → ((j : ℕ) → j < 256 → is_line (line_of j b.car) ≡ true) → all is_line xs ≡ true
      → all is_line (torn_from p b l xs) ≡ true
  unfolding torn_from
  torn_lines l [] n f e = refl
  torn_lines l (x ∷ xs) n f e =
      let z = and_true (is_line x) (all is_line xs) e in
      let ih = torn_lines (suc l) xs (omega arith) f z.1 in
      test (is_torn l b) (λ d. rw (d, mixed_line (p l) x (line_of l b.car) z.0 (f l (omega arith))) ih) (λ d. rw (d, z.0) ih)

  -- line j of the lines from line l on; behind the last there is nothing, torn or not
  pub torn_line : (l j : ℕ) (xs : List (List ℕ))
      → line_of j (torn_from p b l xs) ≡ cond (is_torn (l + j) b) (mixed (p (l + j)) 0 (line_of j xs) (line_of (l + j) b.car)) (line_of j xs)
  unfolding torn_from mixed
  torn_line l j [] = test (is_torn (l + j) b) (λ d. rw d) (λ d. rw d)
  torn_line l zero (x ∷ xs) = let n : l + 0 ≡ l = omega arith in rw n
  torn_line l (suc j) (x ∷ xs) = let n : l + suc j ≡ suc l + j = omega arith in rw n (torn_line (suc l) j xs)

-- ---- a line inside an image

line_in : (m : List (List ℕ)) (i : ℕ) (t : List ℕ) → i < length m → all is_line m ≡ true → line_at (flat line_record m ++ t) (65 * i + 1) ≡ line_of i m
unfolding flat line_record
line_in [] i t h e = absurd (omega arith)
line_in (x ∷ m) zero t h e =
    rw (append_assoc (line_record x) (flat line_record m) t) (line_back x (flat line_record m ++ t) (and_true (is_line x) (all is_line m) e).0)
line_in (x ∷ m) (suc i) t h e =
    let o : 65 * suc i + 1 ≡ length (line_record x) + (65 * i + 1) = omega (arith, length_line x) in
    rw (append_assoc (line_record x) (flat line_record m) t, o, drop-append-add (line_record x) (flat line_record m ++ t) (65 * i + 1))
    (line_in m i t (omega arith) (and_true (is_line x) (all is_line m) e).1)

-- behind a head, whatever stands behind the lines
pub front_line : (n l i : ℕ) (m : List (List ℕ)) (t : List ℕ) → i < length m → all is_line m ≡ true
    → line_at (head_record n l ++ (flat line_record m ++ t)) (line_start i) ≡ line_of i m
front_line n l i m t h e =
    let o : 4 + (65 * i + 1) ≡ length (head_record n l) + (65 * i + 1) = omega (arith, length_head n l) in
    rw (o, drop-append-add (head_record n l) (flat line_record m ++ t) (65 * i + 1)) (line_in m i t h e)

pub image_line : (p : Persistent) (l : ℕ) → Valid p → l < p.lines → line_at (encode p) (line_start l) ≡ line_of l p.medium
unfolding encode
image_line p l v h =
    front_line p.threads p.lines l p.medium (flat region_record p.regions ++ (flat entry_record p.log ++ (36 ∷ []))) (omega (arith, v.whole)) v.medium
