-- A stored word is one of 64 bits, so that a line keeps its form.
use Prim.Native.Nat.{◌/◌, ◌<◌, ◌^◌, suc, zero, ℕ}
use mathlib.Core.Path.{◌≡◌, refl}
use mathlib.Core.Bool.{true}
use mathlib.Core.List.{List, [], ◌∷◌, map}
use lib.Dec.{eqb}
use lib.ListN.{get_or, length, length-set, set}
use native.Mathlib.Omega.{arith}
use native.Mathlib.Nat.{mod-lt}
use borrow.Author.Tests.{lt-ltb}
use Rattle.rules.proofs.Codec.Bytes.{all_set, is_line, is_word, num_small}
use Rattle.rules.specs.Access.{byte_after, is_set, word_after, word_places}
use Rattle.rules.specs.Bytes.{byte_of, num_of}
use Rattle.rules.specs.Claim.{is_byte}
use Rattle.rules.specs.Lists.{all}
use Rattle.undo.proofs.Laws.{and_true, test}

byte_small : (i n : ℕ) → is_byte (byte_of i n) ≡ true
byte_small i n = lt-ltb (byte_of i n) 256 (mod-lt (n / 256 ^ i) (omega arith))

-- the eight places of the bytes of a word
pub eight : (f : ℕ → ℕ) (i : ℕ) → i < 8 → get_or (map f word_places) i 0 ≡ f i
eight f zero h = refl
eight f (suc zero) h = refl
eight f (suc (suc zero)) h = refl
eight f (suc (suc (suc zero))) h = refl
eight f (suc (suc (suc (suc zero)))) h = refl
eight f (suc (suc (suc (suc (suc zero))))) h = refl
eight f (suc (suc (suc (suc (suc (suc zero)))))) h = refl
eight f (suc (suc (suc (suc (suc (suc (suc zero))))))) h = refl
eight f (suc (suc (suc (suc (suc (suc (suc (suc i)))))))) h = absurd (omega arith)

-- each byte of a stored word is one of the value or of the word before
byte_after_lem : (mask v x i : ℕ) → is_byte (byte_after mask v x i) ≡ true
byte_after_lem mask v x i = test (is_set i mask) (λ e. rw e (byte_small i v)) (λ e. rw e (byte_small i x))

pub word_bytes : (mask v x : ℕ) (is : List ℕ) → all is_byte (map (byte_after mask v x) is) ≡ true
word_bytes mask v x [] = refl
word_bytes mask v x (i ∷ is) = rw (byte_after_lem mask v x i, word_bytes mask v x is)

pub word_small : (mask v x : ℕ) → is_word (word_after mask v x) ≡ true
unfolding word_after
word_small mask v x =
    let bs = map (byte_after mask v x) word_places in lt-ltb (num_of bs) 18446744073709551616 (num_small bs (word_bytes mask v x word_places))

pub line_set : (x : List ℕ) (w v : ℕ) → is_word v ≡ true → is_line x ≡ true → is_line (set x w v) ≡ true
line_set x w v h e =
    let z = and_true (eqb (length x) 8) (all is_word x) e in
    rw (length-set x w v, z.0) (all_set is_word x w v z.1 h)
