-- The numbers in a body, one behind the other.
use Prim.Native.Nat.{◌*◌, ◌+◌, ◌<◌, ◌≤◌, suc, zero, ℕ}
use mathlib.Core.Path.{◌∙◌, ◌≡◌, ap}
use mathlib.Core.Bool.{true}
use mathlib.Core.List.{List, [], ◌∷◌}
use lib.ListN.{drop, drop_of_length-le, get_or, length, take}
use native.Mathlib.Omega.{arith}
use native.Mathlib.Numerals.{add-one}
use borrow.Author.Tests.{eqb-true, ne_eqb}
use lib.Seq.{drop-cons, take_all}
use Rattle.events.specs.Row.{is_width}
use Rattle.events.proofs.Table.{fitting}
use Rattle.lines.proofs.Room.{word_room}
use Rattle.lines.specs.Room.{word_in}
use Rattle.rules.specs.Kinds.{widths_of}
use Rattle.output.proofs.Rooms.{puts_join}
use Rattle.output.specs.Room.{Room, puts}
use Rattle.printing.specs.Text.{number_text, numbers_of}
use Rattle.rules.specs.Bytes.{num_of}
use Rattle.rules.specs.Lists.{all, flat}
use Rattle.undo.proofs.Laws.{and_true}

-- ---- the bytes of each element of a list
pub flat_next : (f : ℕ → List ℕ) (r : Room) (s : List ℕ) (i : ℕ) → i < length s → puts r (flat f (drop i s)) ≡ puts (puts r (f (get_or s i 0))) (flat f (drop (i + 1) s))
unfolding flat
flat_next f r s i h = rw (add-one i, drop-cons s i 0 h) (puts_join r (f (get_or s i 0)) (flat f (drop (suc i) s)))

pub flat_end : (f : ℕ → List ℕ) (r : Room) (s : List ℕ) (i : ℕ) → length s ≤ i → puts r (flat f (drop i s)) ≡ r
unfolding flat puts
flat_end f r s i h = rw (drop_of_length-le s h)

-- ---- the number in a field

pub field_one : (s : List ℕ) → length s ≡ 1 → get_or s 0 0 ≡ num_of s
unfolding num_of
field_one [] e = absurd (omega arith)
field_one (b ∷ []) e = omega arith
field_one (b ∷ c ∷ s) e = absurd (omega arith)

pub field_two : (s : List ℕ) → length s ≡ 2 → get_or s 0 0 + 256 * get_or s 1 0 ≡ num_of s
unfolding num_of
field_two [] e = absurd (omega arith)
field_two (b ∷ []) e = absurd (omega arith)
field_two (b ∷ c ∷ []) e = omega arith
field_two (b ∷ c ∷ d ∷ s) e = absurd (omega arith)

-- the widest one
is_eight : (w : ℕ) → is_width w ≡ true → (w ≡ 1 → ⊥) → (w ≡ 2 → ⊥) → w ≡ 8
is_eight w e a b = eqb-true w 8 (rw (ne_eqb w 1 a, ne_eqb w 2 b) at e)

pub field_word : (s : List ℕ) → is_width (length s) ≡ true → (length s ≡ 1 → ⊥) → (length s ≡ 2 → ⊥) → word_in s 0 ≡ num_of s
field_word s e a b =
    let long : length s ≡ 8 = is_eight (length s) e a b in
    word_room s 0 (omega arith) ∙ ap num_of (take_all 8 s (omega arith))

-- ---- field by field

pub is_field : (k f : ℕ) → f < length (widths_of k) → is_width (get_or (widths_of k) f 0) ≡ true
is_field k f h = width_is (widths_of k) f (fitting k).wide h
  where
    width_is : (ws : List ℕ) (f : ℕ) → all is_width ws ≡ true → f < length ws → is_width (get_or ws f 0) ≡ true
    width_is [] f e h = absurd (omega arith)
    width_is (w ∷ ws) zero e h = (and_true (is_width w) (all is_width ws) e).0
    width_is (w ∷ ws) (suc f) e h = width_is ws f (and_true (is_width w) (all is_width ws) e).1 (omega arith)

-- one more number of a body
pub body_next : (r : Room) (ws bs : List ℕ) (f : ℕ) → f < length ws → puts r (flat number_text (numbers_of (drop f ws) bs)) ≡ puts (puts r (number_text (num_of (take (get_or ws f 0) bs)))) (flat number_text (numbers_of (drop (f + 1) ws) (drop (get_or ws f 0) bs)))
unfolding numbers_of flat
body_next r ws bs f h = rw (add-one f, drop-cons ws f 0 h) (puts_join r (number_text (num_of (take (get_or ws f 0) bs))) _)

-- no number is left
pub body_end : (r : Room) (ws bs : List ℕ) (f : ℕ) → length ws ≤ f → puts r (flat number_text (numbers_of (drop f ws) bs)) ≡ r
unfolding numbers_of flat puts
body_end r ws bs f h = rw (drop_of_length-le ws h)
