-- The lines of a trace: how they are put, how long they are, and what a loop over numbers has still to put.
use Prim.Native.Nat.{◌*◌, ◌+◌, ◌≤◌, suc, zero, ℕ}
use mathlib.Core.Path.{◌≡◌, refl}
use mathlib.Core.List.{List, [], ◌++◌, ◌∷◌, append_assoc, append-nil}
use lib.Dec.{eqb}
use lib.ListN.{get_or, length, length-append}
use native.Mathlib.Omega.{arith}
use native.Mathlib.Numerals.{add-one}
use native.Mathlib.Nat.{add-suc, add-zero, mul-suc, suc-add, zero-add}
use Rattle.output.proofs.Digits.{decimal_short, either_short}
use Rattle.output.proofs.Rooms.{puts_join}
use Rattle.output.specs.Decimal.{decimal}
use Rattle.output.specs.Room.{Room, puts}
use Rattle.rules.specs.declared.Answer.{Answer}
use Rattle.wording.specs.Text.{answer_text, flat_to, image_line, line_text, memory_text, number_text, word_text}

-- ---- how the parts are put

-- behind "M "
pub mark_puts : (r : Room) (xs : List ℕ) → puts r (77 ∷ (32 ∷ xs)) ≡ puts (puts r (77 ∷ (32 ∷ []))) xs
mark_puts r xs = puts_join r (77 ∷ (32 ∷ [])) xs

flat_last : (f : ℕ → List ℕ) (i n : ℕ) → flat_to f i (suc n) ≡ flat_to f i n ++ f (i + n)
unfolding flat_to
flat_last f i zero = rw (append-nil, add-zero)
flat_last f i (suc n) = rw (flat_last f (suc i) n, append_assoc, add-suc i n, suc-add i n)

-- one number more
pub flat_more : (f : ℕ → List ℕ) (n : ℕ) → flat_to f 0 (n + 1) ≡ flat_to f 0 n ++ f n
flat_more f n = rw (add-one n, flat_last f 0 n, zero-add)

pub flat_none : (f : ℕ → List ℕ) → flat_to f 0 0 ≡ []
unfolding flat_to
flat_none f = refl

-- ---- lengths

-- each part at most m long
flat_short : (f : ℕ → List ℕ) (m : ℕ) → ((i : ℕ) → length (f i) ≤ m) → (n i : ℕ) → length (flat_to f i n) ≤ m * n
unfolding flat_to
flat_short f m h zero i = omega arith
flat_short f m h (suc n) i =
    rw (length-append (f i) (flat_to f (suc i) n), mul-suc m n) (omega (arith, h i, flat_short f m h n (suc i)))

number_short : (n e : ℕ) → length (number_text n e) ≤ 21
unfolding number_text
number_short n e = omega (arith, length-append (decimal n) (e ∷ []), decimal_short n)

pub answer_short : (k : ℕ) (a : Answer) → length (answer_text k a) ≤ 63
unfolding answer_text
answer_short k a =
    omega (
      arith,
      length-append (number_text k 32) (number_text a.refusal 32 ++ number_text a.value 10),
      length-append (number_text a.refusal 32) (number_text a.value 10),
      number_short k 32,
      number_short a.refusal 32,
      number_short a.value 10,
    )

word_short : (l w v : ℕ) → length (word_text l w v) ≤ 65
unfolding word_text
word_short l w v =
    either_short (eqb v 0) [] (77 ∷ (32 ∷ (number_text l 32 ++ (number_text w 32 ++ number_text v 10)))) 65 (omega arith)
    (omega (
      arith,
      length-append (number_text l 32) (number_text w 32 ++ number_text v 10),
      length-append (number_text w 32) (number_text v 10),
      number_short l 32,
      number_short w 32,
      number_short v 10,
    ))

words_short : (l : ℕ) (ws : List ℕ) → length (line_text l ws) ≤ 520
unfolding line_text
words_short l ws = flat_short (λ w. word_text l w (get_or ws w 0)) 65 (λ w. word_short l w (get_or ws w 0)) 8 0

pub memory_short : (n : ℕ) (bs : List ℕ) → length (memory_text n bs) ≤ 520 * n
unfolding memory_text
memory_short n bs = flat_short (λ l. line_text l (image_line bs l)) 520 (λ l. words_short l (image_line bs l)) n 0
