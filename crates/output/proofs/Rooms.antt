-- Bytes put into a room, one behind the other.
use borrow.Rule.Slice.PartMut.{put_mid}
use Prim.Native.Nat.{◌%◌, ◌+◌, ◌-◌, ◌/◌, ◌<◌, ◌≤◌, suc, ℕ}
use mathlib.Core.Path.{◌∙◌, ◌≡◌, ap, refl, sym}
use mathlib.Core.Bool.{Bool, cond, false, true}
use mathlib.Core.List.{List, [], ◌++◌, ◌∷◌, append_assoc, append-nil}
use lib.Dec.{leb, leb-suc-suc}
use lib.ListN.{drop, drop_of_length-le, get_or, length, length-append, length-set, set, take}
use native.Mathlib.Omega.{arith}
use native.Mathlib.Numerals.{add-one}
use borrow.Author.Tests.{le-leb, le-ltb, lt-leb, lt-ltb}
use lib.Seq.{drop-cons, drop-drop, set-append_seam, sets, sets-eq, take_all, take-append_seam, take-nil}
use native.Mathlib.Nat.{add-suc, add-zero, suc-add, zero-add}
use Rattle.output.specs.Room.{Room, filled, put, puts, room}
use Rattle.output.specs.declared.Cursor.{Cursor}
use Rattle.rules.specs.Bytes.{bytes_of}

pub puts_join : (r : Room) (xs ys : List ℕ) → puts r (xs ++ ys) ≡ puts (puts r xs) ys
unfolding puts
puts_join r [] ys = refl
puts_join r (x ∷ xs) ys = puts_join (put r x) xs ys

-- the first byte, and what stands behind it
pub puts_cons : (r : Room) (b : ℕ) (bs : List ℕ) → puts r (b ∷ bs) ≡ puts (puts r (b ∷ [])) bs
unfolding puts
puts_cons r b bs = refl

pub puts_none : (r : Room) → puts r [] ≡ r
unfolding puts
puts_none r = refl

-- one element of a list, and what is left of it
pub puts_next : (r : Room) (s : List ℕ) (i : ℕ) → i < length s → puts r (drop i s) ≡ puts (puts r (get_or s i 0 ∷ [])) (drop (i + 1) s)
unfolding puts
puts_next r s i h = rw (add-one i, drop-cons s i 0 h)

-- nothing is left
pub puts_end : (r : Room) (s : List ℕ) (i : ℕ) → length s ≤ i → puts r (drop i s) ≡ r
unfolding puts
puts_end r s i h = rw (drop_of_length-le s h)

-- a full buffer takes nothing more
full : (d : List ℕ) (at : ℕ) (bs : List ℕ) → length d ≤ at → puts (room d (record { at = at; short = true })) bs ≡ room d (record { at = at; short = true })
unfolding puts put room
full d at [] h = refl
full d at (b ∷ bs) h = rw (le-ltb at (length d) h) (full d at bs h)

-- where there is room the bytes stand in a row
in_row : (d : List ℕ) (at : ℕ) (s : Bool) (bs : List ℕ) → at + length bs ≤ length d
    → puts (room d (record { at = at; short = s })) bs ≡ room (sets d at bs) (record { at = at + length bs; short = s })
unfolding puts put room
in_row d at s [] h = rw (add-zero)
in_row d at s (b ∷ bs) h =
    let n : suc at + length bs ≤ length (set d at b) = rw length-set (omega (arith, h)) in
    rw (lt-ltb at (length d) (omega (arith, h)), add-one at, in_row (set d at b) (suc at) s bs n, suc-add, add-suc)

-- and so they are put where a part of the buffer is lent and they are copied into it
pub puts_whole : (d : List ℕ) (c : Cursor) (bs : List ℕ) → c.at + length bs ≤ length d
    → room (put_mid c.at (c.at + length bs - c.at) d bs) (record { at = c.at + length bs; short = c.short }) ≡ puts (room d c) bs
puts_whole d c bs h =
    let k : c.at + length bs - c.at ≡ length bs = omega arith in
    rw (in_row d c.at c.short bs h, sets-eq bs d c.at h, append_assoc (take c.at d) bs (drop (c.at + length bs) d), k, drop-drop (length bs) c.at d)

-- a buffer filled behind the bytes p, from the cursor at its end
behind : List ℕ → List ℕ → List ℕ → Room
behind p d bs =
    room (p ++ (take (length d) bs ++ drop (length bs) d))
    (cond (leb (length bs) (length d)) (record { at = length p + length bs; short = false }) (record { at = length p + length d; short = true }))

nothing_more : (p d : List ℕ) → behind p d [] ≡ room (p ++ d) (record { at = length p; short = false })
unfolding behind
nothing_more p d = rw (take-nil (length d), le-leb 0 (length d) (omega arith), add-zero)

no_room : (p : List ℕ) (b : ℕ) (bs : List ℕ) → behind p [] (b ∷ bs) ≡ room p (record { at = length p; short = true })
unfolding behind
no_room p b bs = rw (lt-leb (suc (length bs)) 0 (omega arith), append-nil, add-zero)

one_more : (p : List ℕ) (x : ℕ) (d : List ℕ) (b : ℕ) (bs : List ℕ) → behind p (x ∷ d) (b ∷ bs) ≡ behind (p ++ (b ∷ [])) d bs
unfolding behind
one_more p x d b bs =
    let n : length (p ++ (b ∷ [])) ≡ suc (length p) = rw length-append (omega arith) in
    rw (leb-suc-suc (length bs) (length d), append_assoc p (b ∷ []) (take (length d) bs ++ drop (length bs) d), n, add-suc, add-suc, suc-add, suc-add)

put_seam : (p : List ℕ) (x : ℕ) (d : List ℕ) (b : ℕ) → put (room (p ++ (x ∷ d)) (record { at = length p; short = false })) b ≡ room ((p ++ (b ∷ [])) ++ d) (record { at = length (p ++ (b ∷ [])); short = false })
unfolding put room
put_seam p x d b =
    let l : length p < length (p ++ (x ∷ d)) = rw length-append (omega arith) in
    let n : length (p ++ (b ∷ [])) ≡ length p + 1 = rw length-append in
    rw (lt-ltb (length p) (length (p ++ (x ∷ d))) l, set-append_seam p x d b, append_assoc p (b ∷ []) d, n)

put_over : (p : List ℕ) (b : ℕ) → put (room (p ++ []) (record { at = length p; short = false })) b ≡ room p (record { at = length p; short = true })
unfolding put room
put_over p b = rw (append-nil, le-ltb (length p) (length p) (omega arith))

fill : (p d bs : List ℕ) → puts (room (p ++ d) (record { at = length p; short = false })) bs ≡ behind p d bs
unfolding puts
fill p d [] = sym (nothing_more p d)
fill p [] (b ∷ bs) = rw (put_over p b, no_room p b bs) (full p (length p) bs (omega arith))
fill p (x ∷ d) (b ∷ bs) = rw (put_seam p x d b, one_more p x d b bs) (fill (p ++ (b ∷ [])) d bs)

-- a buffer filled from its front
pub puts_filled : (d bs : List ℕ) → puts (room d (record { at = 0; short = false })) bs ≡ filled d bs
unfolding filled behind
puts_filled d bs = fill [] d bs ∙ rw (zero-add, zero-add)

-- what is put into an empty buffer that has room for it stands at its front
filled_front : (d d' bs : List ℕ) (c : Cursor) → room d' c ≡ filled d bs → length bs ≤ length d → take c.at d' ≡ bs
unfolding room filled
filled_front d d' bs c e h =
    let f : room d' c ≡ room (take (length d) bs ++ drop (length bs) d) (record { at = length bs; short = false }) = rw (le-leb (length bs) (length d) h) at e in
    let x : d' ≡ bs ++ drop (length bs) d = ap (λ (r : Room). r.buffer) f ∙ rw (take_all (length d) bs h) in
    let y : c.at ≡ length bs = ap (λ (r : Room). r.cursor.at) f in
    rw (x, y) (take-append_seam bs (drop (length bs) d))

pub put_front : (d d' bs : List ℕ) (c : Cursor) → room d' c ≡ puts (room d (record { at = 0; short = false })) bs → length bs ≤ length d → take c.at d' ≡ bs
put_front d d' bs c e h = filled_front d d' bs c (e ∙ puts_filled d bs) h

-- one more byte of a number of w bytes
pub le_next : (r : Room) (w k x : ℕ) → k < w → puts r (bytes_of (w - k) x) ≡ puts (puts r (x % 256 ∷ [])) (bytes_of (w - (k + 1)) (x / 256))
unfolding bytes_of puts
le_next r w k x h = let e : w - k ≡ suc (w - suc k) = omega arith in rw (e, add-one k)

pub le_end : (r : Room) (w k x : ℕ) → w ≤ k → puts r (bytes_of (w - k) x) ≡ r
unfolding bytes_of puts
le_end r w k x h = let e : w - k ≡ 0 = omega arith in rw e
