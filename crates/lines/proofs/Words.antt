-- Words and bytes.
use Prim.Native.Nat.{◌%◌, ◌*◌, ◌+◌, ◌-◌, ◌/◌, ◌<◌, ◌^◌, ◌≤◌, suc, zero, ℕ}
use mathlib.Core.Path.{◌∙◌, ◌≡◌, ap, refl, sym}
use mathlib.Core.Bool.{Bool, ◌&&◌, false, false≢true, true}
use mathlib.Core.List.{List, [], ◌++◌, ◌∷◌, append_assoc}
use lib.ListN.{drop, get_or, length, length-drop, length-take, take}
use native.Mathlib.Omega.{arith}
use native.Mathlib.Numerals.{add-one}
use borrow.Author.Tests.{ltb-true}
use lib.Seq.{drop_at, drop-cons, drop-drop, get_or-drop, sets, take_all, take_at}
use native.Mathlib.Nat.{add_assoc, add-suc, add-zero, div-div-eq-div-mul, div-one, pow-suc}
use Rattle.std.proofs.Common.{w64}
use borrow.Rule.Slice.PartMut.{mid_of, put_mid}
use Rattle.lines.proofs.Paste.{part_is, rest, sets_join, sets_part}
use Rattle.std.specs.Int.{byte_at, bytes_low_first, from_le_bytes, to_le_bytes}
use Rattle.rules.specs.Bytes.{bytes_of, num_of, words_bytes, words_of}
use Rattle.rules.specs.Claim.{is_byte}
use Rattle.rules.specs.Lists.{all}
use Rattle.rules.proofs.Codec.Bytes.{length_bytes, length_words, num_bytes}

-- words that fit their eight bytes
pub data Words : ℕ → List ℕ → Type 0 where
  no_word : Words 0 []
  a_word : {w n : ℕ} {ws : List ℕ} → w < 256 ^ 8 → Words n ws → Words (suc n) (w ∷ ws)

-- words come back out of their bytes
pub words_back : {n : ℕ} {ws : List ℕ} → Words n ws → (rest : List ℕ) → words_of n (words_bytes n ws ++ rest) ≡ ws
unfolding words_bytes words_of
words_back no_word rest = refl
words_back (a_word {w} {n} {ws} h hs) rest =
    rw (
      append_assoc (bytes_of 8 w) (words_bytes n ws) rest,
      take_at (bytes_of 8 w) (words_bytes n ws ++ rest) 8 (length_bytes 8 w),
      drop_at (bytes_of 8 w) (words_bytes n ws ++ rest) 8 (length_bytes 8 w),
      num_bytes 8 w h,
      words_back hs rest,
    )

-- bytes
pub data Bytes : List ℕ → Type 0 where
  no_byte : Bytes []
  a_byte : {b : ℕ} {bs : List ℕ} → b < 256 → Bytes bs → Bytes (b ∷ bs)

-- a list that passes the test of a byte at each place
both : (p q : Bool) → p && q ≡ true → (p ≡ true) × (q ≡ true)
both true q e = (refl, e)
both false q e = absurd (false≢true e)

pub all_bytes : (bs : List ℕ) → all is_byte bs ≡ true → Bytes bs
all_bytes [] e = no_byte
all_bytes (b ∷ bs) e = let h = both (is_byte b) (all is_byte bs) e in a_byte (ltb-true b 256 h.0) (all_bytes bs h.1)

-- and bytes out of the number that they hold
pub bytes_num : {bs : List ℕ} → Bytes bs → bytes_of (length bs) (num_of bs) ≡ bs
unfolding bytes_of num_of
bytes_num no_byte = refl
bytes_num (a_byte {b} {bs} h hs) =
    let m : (b + 256 * num_of bs) % 256 ≡ b = omega arith in
    let d : (b + 256 * num_of bs) / 256 ≡ num_of bs = omega arith in
    rw (m, d, bytes_num hs)

-- the number in the bytes from i on: the first byte and the rest
pub num_cons : (s : List ℕ) (i k : ℕ) → i < length s → num_of (take (suc k) (drop i s)) ≡ get_or s i 0 + 256 * num_of (take k (drop (suc i) s))
unfolding num_of
num_cons s i k h = rw (drop-cons s i 0 h)

next : (s : List ℕ) (at j k : ℕ) → at + j < length s → num_of (take (suc k) (drop (at + j) s)) ≡ get_or s (at + j) 0 + 256 * num_of (take k (drop (at + suc j) s))
next s at j k h = rw (add-suc at j) (num_cons s (at + j) k h)

pub num_two : (s : List ℕ) (at : ℕ) → at + 2 ≤ length s → num_of (take 2 (drop at s)) ≡ get_or s at 0 + 256 * get_or s (at + 1) 0
unfolding num_of
num_two s at h = rw (num_cons s at 1 (omega arith), ← add-one at, next s at 1 0 (omega arith)) (omega arith)

pub num_eight : (s : List ℕ) (at : ℕ) → at + 8 ≤ length s → num_of (take 8 (drop at s))
    ≡ get_or s at 0 + 256 * (get_or s (at + 1) 0 + 256 * (get_or s (at + 2) 0 + 256 * (get_or s (at + 3) 0 + 256 * (get_or s (at + 4) 0 + 256 * (get_or s (at + 5) 0 + 256 * (get_or s (at + 6) 0 + 256 * (get_or s (at + 7) 0)))))))
unfolding num_of
num_eight s at h =
    rw (
      num_cons s at 7 (omega arith),
      ← add-one at,
      next s at 1 6 (omega arith),
      next s at 2 5 (omega arith),
      next s at 3 4 (omega arith),
      next s at 4 3 (omega arith),
      next s at 5 2 (omega arith),
      next s at 6 1 (omega arith),
      next s at 7 0 (omega arith),
    )
    (omega arith)

-- a line stored over 64 bytes that were lent
pub line_put : (d : List ℕ) (at : ℕ) (line : List ℕ) → at + 64 ≤ length d → put_mid at (at + 64 - at) d (sets (mid_of at (at + 64 - at) d) 0 (words_bytes 8 line)) ≡ sets d at (words_bytes 8 line)
line_put d at line h = sets_part d at (at + 64 - at) (words_bytes 8 line) (length_words 8 line ∙ omega arith) (omega arith)

-- ---- the bytes of a number in the library's words

byte_at_is : (i n : ℕ) → byte_at i n ≡ n / 256 ^ i % 256
byte_at_is zero n = ap (λ x. x % 256) (sym (div-one n))
byte_at_is (suc i) n = refl

low_first : (k i n : ℕ) → bytes_low_first i k n ≡ bytes_of k (n / 256 ^ i)
unfolding bytes_of
low_first zero i n = refl
low_first (suc k) i n =
    let e : n / 256 ^ i / 256 ≡ n / 256 ^ suc i = div-div-eq-div-mul n (256 ^ i) 256 ∙ ap (λ p. n / p) (sym (pow-suc 256 i)) in
    rw (byte_at_is i n, low_first k (suc i) n, e)

pub to_le_is : (n : ℕ) → to_le_bytes w64 n ≡ bytes_of 8 n
to_le_is n = low_first 8 0 n ∙ ap (bytes_of 8) (div-one n)

pub from_le_is : (bs : List ℕ) → length bs ≡ 8 → from_le_bytes w64 bs ≡ num_of bs
from_le_is bs e = omega (arith, num_eight bs 0 (omega arith), ap num_of (take_all 8 bs (omega arith)))

-- the number in eight bytes
pub word_read : (src : List ℕ) (at : ℕ) → at + 8 ≤ length src → from_le_bytes w64 (take 8 (drop at src)) ≡ num_of (take 8 (drop at src))
word_read src at h = from_le_is (take 8 (drop at src)) (rw (length-take, length-drop) (omega arith))

-- a word stored over eight bytes that were lent
pub word_put : (d : List ℕ) (at x : ℕ) → at + 8 ≤ length d → put_mid at (at + 8 - at) d (to_le_bytes w64 x) ≡ sets d at (bytes_of 8 x)
word_put d at x h =
    ap (put_mid at (at + 8 - at) d) (to_le_is x) ∙ part_is d at (at + 8 - at) (bytes_of 8 x) (length_bytes 8 x ∙ omega arith) (omega arith)

-- one more word of n
pub line_more : (d : List ℕ) (n w : ℕ) (line : List ℕ) → w < n
    → sets d (8 * w) (words_bytes (n - w) (drop w line)) ≡ sets (sets d (8 * w) (bytes_of 8 (get_or line w 0))) (8 * (w + 1)) (words_bytes (n - (w + 1)) (drop (w + 1) line))
unfolding words_bytes
line_more d n w line h =
    let x = bytes_of 8 (get_or line w 0) in
    let e : 8 * w + length x ≡ 8 * (w + 1) = rw (length_bytes 8 (get_or line w 0)) (omega arith) in
    let f : n - w ≡ suc (n - (w + 1)) = omega arith in
    rw (f, get_or-drop w line 0 0, add-zero w, drop-drop 1 w line, sets_join d (8 * w) x (words_bytes (n - (w + 1)) (drop (w + 1) line)), e)

pub line_end : (d : List ℕ) (n w : ℕ) (line : List ℕ) → n ≤ w → sets d (8 * w) (words_bytes (n - w) (drop w line)) ≡ d
unfolding words_bytes
line_end d n w line h = let f : n - w ≡ 0 = omega arith in rw f

-- the words of a line one by one
on : (s : List ℕ) (at j n : ℕ) → words_of (suc n) (drop (at + j) s) ≡ num_of (take 8 (drop (at + j) s)) ∷ words_of n (drop (at + (j + 8)) s)
unfolding words_of
on s at j n = rw (drop-drop 8 (at + j) s, add_assoc at j 8)

first : (s : List ℕ) (at : ℕ) → words_of 8 (drop at s) ≡ num_of (take 8 (drop at s)) ∷ words_of 7 (drop (at + 8) s)
unfolding words_of
first s at = rw (drop-drop 8 at s)

last : (bs : List ℕ) → words_of 0 bs ≡ []
unfolding words_of
last bs = refl

pub line_eight : (s : List ℕ) (at : ℕ) → words_of 8 (drop at s)
    ≡ num_of (take 8 (drop at s)) ∷ num_of (take 8 (drop (at + 8) s)) ∷ num_of (take 8 (drop (at + 16) s)) ∷ num_of (take 8 (drop (at + 24) s))
    ∷ num_of (take 8 (drop (at + 32) s)) ∷ num_of (take 8 (drop (at + 40) s)) ∷ num_of (take 8 (drop (at + 48) s)) ∷ num_of (take 8 (drop (at + 56) s)) ∷ []
line_eight s at = rw (first s at, on s at 8 6, on s at 16 5, on s at 24 4, on s at 32 3, on s at 40 2, on s at 48 1, on s at 56 0, last (drop (at + 64) s))
