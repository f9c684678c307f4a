-- Numbers, keys and lines as bytes: what is written is read back, and what is read is written back.
use Prim.Native.Nat.{◌%◌, ◌*◌, ◌+◌, ◌/◌, ◌<◌, ◌^◌, ◌≤◌, suc, zero, ℕ}
use mathlib.Core.Path.{◌≡◌, ap, refl}
use mathlib.Core.Bool.{Bool, ◌&&◌, true}
use mathlib.Core.List.{List, [], ◌++◌, ◌∷◌, append_assoc}
use lib.Dec.{eqb, ltb}
use lib.ListN.{drop, get_or, length, length-append, length-drop, set, take, take-append-drop}
use native.Mathlib.Omega.{arith}
use native.Mathlib.Numerals.{add-one}
use borrow.Author.Tests.{eqb-true, lt-ltb, ltb-true}
use lib.Seq.{drop_at, drop-cons, drop-drop, length-take-le, take_at}
use native.Mathlib.Nat.{div-lt_iff_lt-mul, mod-add-div, pow-suc}
use Rattle.rules.specs.Bytes.{bytes_of, line_at, line_bytes, num_of, words_bytes, words_of}
use Rattle.rules.specs.Claim.{is_byte}
use Rattle.rules.specs.Image.{key_bytes}
use Rattle.rules.specs.Lists.{all}
use Rattle.rules.specs.Reader.{key_at}
use Rattle.rules.specs.Tables.{key_of, number_of, thread_of}
use Rattle.undo.proofs.Laws.{and_true}

-- ---- tests of a list

module _ {A : Type 0} (p : A → Bool) where
  pub all_append : (xs ys : List A) → all p xs ≡ true → all p ys ≡ true → all p (xs ++ ys) ≡ true
  all_append [] ys e f = f
  all_append (x ∷ xs) ys e f = let b = and_true (p x) (all p xs) e in rw b.0 (all_append xs ys b.1 f)

  pub all_take : (n : ℕ) (xs : List A) → all p xs ≡ true → all p (take n xs) ≡ true
  all_take zero xs e = refl
  all_take (suc n) [] e = refl
  all_take (suc n) (x ∷ xs) e = let b = and_true (p x) (all p xs) e in rw b.0 (all_take n xs b.1)

  pub all_drop : (n : ℕ) (xs : List A) → all p xs ≡ true → all p (drop n xs) ≡ true
  all_drop zero xs e = e
  all_drop (suc n) [] e = refl
  all_drop (suc n) (x ∷ xs) e = all_drop n xs (and_true (p x) (all p xs) e).1

  pub all_set : (xs : List A) (i : ℕ) (a : A) → all p xs ≡ true → p a ≡ true → all p (set xs i a) ≡ true
  all_set [] i a e f = refl
  all_set (x ∷ xs) zero a e f = rw f (and_true (p x) (all p xs) e).1
  all_set (x ∷ xs) (suc i) a e f = let b = and_true (p x) (all p xs) e in rw b.0 (all_set xs i a b.1 f)

  pub all_at : (xs : List A) (i : ℕ) (d : A) → all p xs ≡ true → i < length xs → p (get_or xs i d) ≡ true
  all_at [] i d e h = absurd (omega arith)
  all_at (x ∷ xs) zero d e h = (and_true (p x) (all p xs) e).0
  all_at (x ∷ xs) (suc i) d e h = all_at xs i d (and_true (p x) (all p xs) e).1 (omega arith)

-- ---- numbers

pub length_bytes : (k n : ℕ) → length (bytes_of k n) ≡ k
unfolding bytes_of
length_bytes zero n = refl
length_bytes (suc k) n = ap suc (length_bytes k (n / 256))

-- a number comes back out of its bytes, at every width
pub num_bytes : (k n : ℕ) → n < 256 ^ k → num_of (bytes_of k n) ≡ n
unfolding bytes_of num_of
num_bytes zero n h = let q : 0 ≡ n = omega arith in q
num_bytes (suc k) n h =
    let z : 0 < 256 = omega arith in
    let g : n < 256 ^ k * 256 = omega (arith, pow-suc 256 k) in
    rw (num_bytes k (n / 256) ((div-lt_iff_lt-mul z).1 g), mod-add-div n 256)

-- and bytes out of the number that they hold, which is small enough
pub bytes_num : (bs : List ℕ) → all is_byte bs ≡ true → bytes_of (length bs) (num_of bs) ≡ bs
unfolding bytes_of num_of
bytes_num [] e = refl
bytes_num (b ∷ bs) e =
    let h = and_true (is_byte b) (all is_byte bs) e in
    let l : b < 256 = ltb-true b 256 h.0 in
    let m : (b + 256 * num_of bs) % 256 ≡ b = omega arith in
    let d : (b + 256 * num_of bs) / 256 ≡ num_of bs = omega arith in
    rw (m, d, bytes_num bs h.1)

pub num_small : (bs : List ℕ) → all is_byte bs ≡ true → num_of bs < 256 ^ length bs
unfolding num_of
num_small [] e = omega arith
num_small (b ∷ bs) e =
    let h = and_true (is_byte b) (all is_byte bs) e in
    let l : b < 256 = ltb-true b 256 h.0 in
    let i : num_of bs < 256 ^ length bs = num_small bs h.1 in
    omega (arith, pow-suc 256 (length bs))

-- the bytes of the number in k bytes from i on are these bytes
pub num_part : (k i : ℕ) (bs : List ℕ) → all is_byte bs ≡ true → i + k ≤ length bs → bytes_of k (num_of (take k (drop i bs))) ++ drop (i + k) bs ≡ drop i bs
num_part k i bs e h =
    let n : length (take k (drop i bs)) ≡ k = length-take-le k (drop i bs) (simp length-drop (omega arith)) in
    let b : bytes_of k (num_of (take k (drop i bs))) ≡ take k (drop i bs) =
    rw n at (bytes_num (take k (drop i bs)) (all_take is_byte k (drop i bs) (all_drop is_byte i bs e))) in
    rw (b, ← drop-drop k i bs) (take-append-drop k (drop i bs))

pub num_part_small : (k i : ℕ) (bs : List ℕ) → all is_byte bs ≡ true → i + k ≤ length bs → num_of (take k (drop i bs)) < 256 ^ k
num_part_small k i bs e h =
    let n : length (take k (drop i bs)) ≡ k = length-take-le k (drop i bs) (simp length-drop (omega arith)) in
    rw n at (num_small (take k (drop i bs)) (all_take is_byte k (drop i bs) (all_drop is_byte i bs e)))

-- ---- keys

byte_at : (bs : List ℕ) (i : ℕ) → all is_byte bs ≡ true → get_or bs i 0 < 256
byte_at [] i e = omega arith
byte_at (b ∷ bs) zero e = ltb-true b 256 (and_true (is_byte b) (all is_byte bs) e).0
byte_at (b ∷ bs) (suc i) e = byte_at bs i (and_true (is_byte b) (all is_byte bs) e).1

-- a key from its thread and the number in its two bytes
pub key_back : (k : ℕ) → thread_of k < 256 → key_of (thread_of k % 256) (num_of (bytes_of 2 (number_of k))) ≡ k
key_back k b = let h : k % 65536 < 256 ^ 2 = omega arith in rw (num_bytes 2 (number_of k) h) (omega arith)

pub key_part : (i : ℕ) (bs : List ℕ) → all is_byte bs ≡ true → i + 3 ≤ length bs → key_bytes (key_at bs i) ++ drop (i + 3) bs ≡ drop i bs
key_part i bs e h =
    let n = num_of (take 2 (drop (i + 1) bs)) in
    let s : n < 256 ^ 2 = num_part_small 2 (i + 1) bs e (omega arith) in
    let b : get_or bs i 0 < 256 = byte_at bs i e in
    let t : key_of (get_or bs i 0) n / 65536 % 256 ≡ get_or bs i 0 = omega arith in
    let m : key_of (get_or bs i 0) n % 65536 ≡ n = omega arith in
    let o : i + 3 ≡ i + 1 + 2 = omega arith in
    rw (t, m, o, num_part 2 (i + 1) bs e (omega arith), add-one i, ← drop-cons bs i 0 (omega arith))

-- ---- lines

abbrev pub is_word : ℕ → Bool
is_word w = ltb w (2 ^ 64)

-- eight words of 64 bits
abbrev pub is_line : List ℕ → Bool
is_line l = eqb (length l) 8 && all is_word l

pub length_words : (n : ℕ) (ws : List ℕ) → length (words_bytes n ws) ≡ 8 * n
unfolding words_bytes
length_words zero ws = refl
length_words (suc n) ws =
    rw (length-append (bytes_of 8 (get_or ws 0 0)) (words_bytes n (drop 1 ws)), length_bytes 8 (get_or ws 0 0), length_words n (drop 1 ws)) (omega arith)

-- words come back out of their bytes
pub words_back : (n : ℕ) (ws more : List ℕ) → length ws ≡ n → all is_word ws ≡ true → words_of n (words_bytes n ws ++ more) ≡ ws
unfolding words_bytes words_of
words_back zero [] more h e = refl
words_back zero (w ∷ ws) more h e = absurd (omega arith)
words_back (suc n) [] more h e = absurd (omega arith)
words_back (suc n) (w ∷ ws) more h e =
    let b = and_true (is_word w) (all is_word ws) e in
    rw (
      append_assoc (bytes_of 8 w) (words_bytes n ws) more,
      take_at (bytes_of 8 w) (words_bytes n ws ++ more) 8 (length_bytes 8 w),
      drop_at (bytes_of 8 w) (words_bytes n ws ++ more) 8 (length_bytes 8 w),
      num_bytes 8 w (ltb-true w (2 ^ 64) b.0),
      words_back n ws more (omega arith) b.1,
    )

pub line_back : (l more : List ℕ) → is_line l ≡ true → words_of 8 (line_bytes l ++ more) ≡ l
line_back l more e = let b = and_true (eqb (length l) 8) (all is_word l) e in words_back 8 l more (eqb-true (length l) 8 b.0) b.1

-- and bytes out of the words that they hold
pub words_part : (n : ℕ) (bs : List ℕ) → all is_byte bs ≡ true → 8 * n ≤ length bs → words_bytes n (words_of n bs) ++ drop (8 * n) bs ≡ bs
unfolding words_bytes words_of
words_part zero bs e h = refl
words_part (suc n) bs e h =
    let o : 8 * suc n ≡ 8 + 8 * n = omega arith in
    let g : 8 * n ≤ length (drop 8 bs) = simp length-drop (omega arith) in
    rw (
      o,
      ← drop-drop (8 * n) 8 bs,
      append_assoc (bytes_of 8 (num_of (take 8 bs))) (words_bytes n (words_of n (drop 8 bs))) (drop (8 * n) (drop 8 bs)),
      words_part n (drop 8 bs) (all_drop is_byte 8 bs e) g,
    )
    (num_part 8 0 bs e (omega arith))

pub line_part : (i : ℕ) (bs : List ℕ) → all is_byte bs ≡ true → i + 64 ≤ length bs → line_bytes (line_at bs i) ++ drop (i + 64) bs ≡ drop i bs
line_part i bs e h = rw (← drop-drop 64 i bs) (words_part 8 (drop i bs) (all_drop is_byte i bs e) (simp length-drop (omega arith)))

pub words_small : (n : ℕ) (bs : List ℕ) → all is_byte bs ≡ true → 8 * n ≤ length bs → all is_word (words_of n bs) ≡ true
unfolding words_of
words_small zero bs e h = refl
words_small (suc n) bs e h =
    let s : num_of (take 8 bs) < 256 ^ 8 = num_part_small 8 0 bs e (omega arith) in
    let g : 8 * n ≤ length (drop 8 bs) = simp length-drop (omega arith) in
    rw (lt-ltb (num_of (take 8 bs)) (2 ^ 64) s) (words_small n (drop 8 bs) (all_drop is_byte 8 bs e) g)

length_of : (n : ℕ) (bs : List ℕ) → length (words_of n bs) ≡ n
unfolding words_of
length_of zero bs = refl
length_of (suc n) bs = ap suc (length_of n (drop 8 bs))

pub line_small : (i : ℕ) (bs : List ℕ) → all is_byte bs ≡ true → i + 64 ≤ length bs → is_line (line_at bs i) ≡ true
line_small i bs e h = rw (length_of 8 (drop i bs)) (words_small 8 (drop i bs) (all_drop is_byte i bs e) (simp length-drop (omega arith)))
