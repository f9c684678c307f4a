-- Bytes stored in a line, byte by byte.
use Prim.Native.Nat.{◌%◌, ◌*◌, ◌+◌, ◌-◌, ◌/◌, ◌<◌, ◌^◌, ◌≤◌, suc, zero, ℕ}
use mathlib.Core.Path.{◌∙◌, ◌≡◌, ap, refl, sym}
use mathlib.Core.Bool.{◌&&◌, false}
use mathlib.Core.List.{List, [], ◌++◌, ◌∷◌, map}
use lib.Dec.{eqb, ltb}
use lib.ListN.{get_or-append, drop, get_or, length, set}
use lib.Seq.{get_or-append-add, get_or-drop, get_or-set_other, get_or-set_same}
use native.Mathlib.Nat.{add-zero, div-div-eq-div-mul, div-one, pow-succ'}
use native.Mathlib.Omega.{arith}
use borrow.Author.Tests.{eqb-false, eqb-true, ltb-false, ltb-true}
use Rattle.rules.specs.Access.{byte_after, is_set, stored_in, word_after, word_places}
use Rattle.rules.specs.Bytes.{line_at, byte_of, bytes_of, num_of, words_bytes}
use Rattle.rules.proofs.Codec.Bytes.{bytes_num, length_bytes}
use Rattle.rules.proofs.Words.{eight, word_bytes}
use Rattle.std.proofs.Common.{w64}
use Rattle.std.specs.Int.{from_le_bytes, to_le_bytes}
use Rattle.std.specs.List.{range_with_len}
use Rattle.lines.proofs.Words.{from_le_is, line_eight, to_le_is}
use Rattle.lines.proofs.Room.{word_room}
use Rattle.lines.specs.Room.{word_in}
use Rattle.undo.proofs.Laws.{test}
use Rattle.lines.specs.Stores.{Stores, bits_of, is_stored}

-- one more division by b
div_more : (b n i : ℕ) → n / b / b ^ i ≡ n / b ^ suc i
div_more b n i = div-div-eq-div-mul n b (b ^ i) ∙ ap (λ x. n / x) (sym (pow-succ' b i))

-- byte i of a number stands at place i of its bytes
pub byte_is : (k i n : ℕ) → i < k → get_or (bytes_of k n) i 0 ≡ byte_of i n
unfolding bytes_of
byte_is zero i n h = absurd (omega arith)
byte_is (suc k) zero n h = ap (λ x. x % 256) (sym (div-one n))
byte_is (suc k) (suc i) n h = byte_is k i (n / 256) (omega arith) ∙ ap (λ x. x % 256) (div_more 256 n i)

-- the same in the library's words
pub le_byte : (i n : ℕ) → i < 8 → get_or (to_le_bytes w64 n) i 0 ≡ byte_of i n
le_byte i n h = ap (λ bs. get_or bs i 0) (to_le_is n) ∙ byte_is 8 i n h

-- and bit i of a mask among its bits
pub bit_is : (k i mask : ℕ) → i < k → get_or (bits_of k mask) i false ≡ is_set i mask
bit_is zero i mask h = absurd (omega arith)
bit_is (suc k) zero mask h = ap (λ x. eqb (x % 2) 1) (sym (div-one mask))
bit_is (suc k) (suc i) mask h = bit_is k i (mask / 2) (omega arith) ∙ ap (λ x. eqb (x % 2) 1) (div_more 2 mask i)

-- ---- a word

-- what stands at each place of a list, in its order
placed : (f : ℕ → ℕ) (k n : ℕ) (ys : List ℕ) → length ys ≡ n → ((i : ℕ) → i < n → get_or ys i 0 ≡ f (k + i)) → ys ≡ map f (range_with_len k n)
placed f k zero [] e h = refl
placed f k zero (y ∷ ys) e h = absurd (omega arith)
placed f k (suc n) [] e h = absurd (omega arith)
placed f k (suc n) (y ∷ ys) e h =
    let first : y ≡ f k = h 0 (omega arith) ∙ ap f (omega arith) in
    let behind = placed f (k + 1) n ys (omega arith) (λ i l. h (suc i) (omega arith) ∙ ap f (omega arith)) in
    rw (first, behind)

pub by_place : (f : ℕ → ℕ) (ys : List ℕ) → length ys ≡ 8 → ((i : ℕ) → i < 8 → get_or ys i 0 ≡ f i) → ys ≡ map f word_places
by_place f ys e h = placed f 0 8 ys e (λ i l. h i l ∙ ap f (omega arith))

pub word_made : (mask v x : ℕ) (bs : List ℕ) → length bs ≡ 8 → ((i : ℕ) → i < 8 → get_or bs i 0 ≡ byte_after mask v x i) → from_le_bytes w64 bs ≡ word_after mask v x
unfolding word_after
word_made mask v x bs e h = from_le_is bs e ∙ ap num_of (by_place (byte_after mask v x) bs e h)

-- a line made word by word
pub line_read : (src : List ℕ) (at : ℕ) (line : List ℕ) → at + 64 ≤ length src → length line ≡ 8 → ((i : ℕ) → i < 8 → get_or line i 0 ≡ word_in src (at + 8 * i)) → line ≡ line_at src at
line_read src at line h e each =
    rw (
      by_place (λ i. word_in src (at + 8 * i)) line e each,
      line_eight src at,
      add-zero at,
      word_room src at (omega arith),
      word_room src (at + 8) (omega arith),
      word_room src (at + 16) (omega arith),
      word_room src (at + 24) (omega arith),
      word_room src (at + 32) (omega arith),
      word_room src (at + 40) (omega arith),
      word_room src (at + 48) (omega arith),
      word_room src (at + 56) (omega arith),
    )

pub word_byte : (mask v x i : ℕ) → i < 8 → byte_of i (word_after mask v x) ≡ byte_after mask v x i
unfolding word_after
word_byte mask v x i h =
    let bs = map (byte_after mask v x) word_places in
    sym (byte_is 8 i (num_of bs) h) ∙ ap (λ ys. get_or ys i 0) (bytes_num bs (word_bytes mask v x word_places)) ∙ eight (byte_after mask v x) i h

-- ---- a line

-- byte j of some words
pub byte_in : (n : ℕ) (ws : List ℕ) (j : ℕ) → j < 8 * n → get_or (words_bytes n ws) j 0 ≡ byte_of (j % 8) (get_or ws (j / 8) 0)
unfolding words_bytes
byte_in zero ws j h = absurd (omega arith)
byte_in (suc n) ws j h =
    test (ltb j 8)
    (λ e. let l : j < 8 = ltb-true j 8 e in
    let d : j / 8 ≡ 0 = omega arith in
    let m : j % 8 ≡ j = omega arith in
    rw (d, m) (get_or-append (bytes_of 8 (get_or ws 0 0)) (words_bytes n (drop 1 ws)) 0 j (rw length_bytes l) ∙ byte_is 8 j (get_or ws 0 0) l))
    (λ e. let l : 8 ≤ j = ltb-false j 8 e in
    let s : j ≡ length (bytes_of 8 (get_or ws 0 0)) + (j - 8) = rw length_bytes (omega arith) in
    let d : 1 + (j - 8) / 8 ≡ j / 8 = omega arith in
    let m : (j - 8) % 8 ≡ j % 8 = omega arith in
    ap (λ i. get_or (bytes_of 8 (get_or ws 0 0) ++ words_bytes n (drop 1 ws)) i 0) s
    ∙ get_or-append-add (bytes_of 8 (get_or ws 0 0)) (words_bytes n (drop 1 ws)) (j - 8) 0
    ∙ byte_in n (drop 1 ws) (j - 8) (omega arith)
    ∙ rw (m, get_or-drop 1 ws ((j - 8) / 8) 0, d))

-- the bytes that a write stores, by the bits as the rule has them
stored_bit : (w mask j : ℕ) → is_stored w mask j ≡ (eqb (j / 8) w && is_set (j % 8) mask)
stored_bit w mask j = ap (λ b. eqb (j / 8) w && b) (bit_is 8 (j % 8) mask (omega arith))

-- what each byte of the line is afterwards
pub stores : (w mask v : ℕ) (x : List ℕ) → length x ≡ 8 → Stores w mask v x (stored_in w mask v x)
stores w mask v x n j h =
    let y = word_after mask v (get_or x w 0) in
    let i : j % 8 < 8 = omega arith in
    rw (byte_in 8 (set x w y) j h, byte_in 8 x j h, stored_bit w mask j)
    (test (eqb (j / 8) w)
    (λ e. let at : j / 8 ≡ w = eqb-true (j / 8) w e in
    rw (e, at, get_or-set_same x w y 0 (omega arith)) (word_byte mask v (get_or x w 0) (j % 8) i))
    (λ e. rw (e, get_or-set_other x w (j / 8) y 0 (eqb-false (j / 8) w e))))

-- of a line that is equal to it
pub stored_is : (w mask v : ℕ) (x y : List ℕ) → length x ≡ 8 → y ≡ stored_in w mask v x → (y ≡ stored_in w mask v x) × Stores w mask v x y
stored_is w mask v x y n e = (e, rw e (stores w mask v x n))
