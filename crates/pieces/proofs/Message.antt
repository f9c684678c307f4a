-- A message in its buffer.
use Prim.Native.Nat.{◌<◌, ◌≤◌, ℕ}
use mathlib.Core.Path.{◌∙◌, ◌≡◌, ap}
use mathlib.Core.Bool.{false, true}
use mathlib.Core.List.{List, ◌++◌}
use lib.Dec.{leb}
use lib.ListN.{drop, length, take}
use lib.Seq.{length-take-le, take_all, take_at}
use native.Mathlib.Omega.{arith}
use borrow.Author.Tests.{leb-false, leb-true, lt-leb}
use Rattle.output.proofs.Rooms.{put_front, puts_filled, puts_join}
use Rattle.output.specs.Room.{Room, filled, puts, room}
use Rattle.output.specs.declared.Cursor.{Cursor}
use Rattle.undo.proofs.Laws.{test}
use Rattle.pieces.specs.Message.{failure, message}
use Rattle.pieces.specs.declared.Failed.{Failed}

abbrev front : Cursor
front = record { at = 0; short = false }

-- what finds no room is dropped
cut_off : (d d' bs : List ℕ) (c : Cursor) → room d' c ≡ filled d bs → length d < length bs → take c.at d' ≡ take (length d) bs
unfolding room filled
cut_off d d' bs c e h =
    let f : room d' c ≡ room (take (length d) bs ++ drop (length bs) d) (record { at = length d; short = true }) = rw (lt-leb (length bs) (length d) h) at e in
    let x : d' ≡ take (length d) bs ++ drop (length bs) d = ap (λ (r : Room). r.buffer) f in
    let y : c.at ≡ length d = ap (λ (r : Room). r.cursor.at) f in
    rw (x, y) (take_at (take (length d) bs) (drop (length bs) d) (length d) (length-take-le (length d) bs (omega arith)))

-- what is put into an empty buffer stands at its front, as much as it has room for
put_most : (d d' bs : List ℕ) (c : Cursor) → room d' c ≡ puts (room d front) bs → take c.at d' ≡ take (length d) bs
put_most d d' bs c e =
    test (leb (length bs) (length d))
    (λ h. let l = leb-true (length bs) (length d) h in rw (take_all (length d) bs l) (put_front d d' bs c e l))
    (λ h. cut_off d d' bs c (e ∙ puts_filled d bs) (leb-false (length bs) (length d) h))

-- and the cursor is in the buffer
pub put_fits : (d d' bs : List ℕ) (c : Cursor) → room d' c ≡ puts (room d front) bs → c.at ≤ length d
unfolding room filled
put_fits d d' bs c e =
    test (leb (length bs) (length d))
    (λ h. let f : room d' c ≡ room (take (length d) bs ++ drop (length bs) d) (record { at = length bs; short = false }) = rw h at (e ∙ puts_filled d bs) in
    let y : c.at ≡ length bs = ap (λ (r : Room). r.cursor.at) f in rw y (leb-true (length bs) (length d) h))
    (λ h. let f : room d' c ≡ room (take (length d) bs ++ drop (length bs) d) (record { at = length d; short = true }) = rw h at (e ∙ puts_filled d bs) in
    let y : c.at ≡ length d = ap (λ (r : Room). r.cursor.at) f in rw y (omega arith))

-- the name, and what can't be done behind it, in a buffer of 64 bytes
pub message_put : (d d₂ name what : List ℕ) (r₀ r₁ : Room) (c₂ : Cursor) (failed : Failed) → length d ≡ 64 → what ≡ failure failed → r₀ ≡ room d front → r₁ ≡ puts r₀ name
    → room d₂ c₂ ≡ puts r₁ what → (take c₂.at d₂ ≡ message failed name) × (c₂.at ≤ 64)
unfolding message
message_put d d₂ name what r₀ r₁ c₂ failed l w e₀ e₁ e₂ =
    let e : room d₂ c₂ ≡ puts (room d front) (name ++ failure failed) = e₂ ∙ rw (e₁, e₀, w, puts_join (room d front) name (failure failed)) in
    (rw (← l) (put_most d d₂ (name ++ failure failed) c₂ e), rw (← l) (put_fits d d₂ (name ++ failure failed) c₂ e))
