-- Records as lists of bytes.
use Prim.Native.Nat.{◌+◌, ◌≤◌, ℕ}
use mathlib.Core.Path.{◌≡◌}
use mathlib.Core.List.{List, [], ◌++◌, append-nil}
use lib.ListN.{drop_of_length-le, get_or, length, take}
use native.Mathlib.Omega.{arith}
use borrow.Author.Tests.{le-leb}
use Rattle.lines.proofs.Paste.{sets_paste}
use Rattle.lines.specs.Room.{put_at}
use Rattle.rules.specs.Lists.{flat}
use Rattle.writing.proofs.Emit.{left_more, left_none}

-- a line's bytes at the end of a record
pub line_behind : (d : List ℕ) (n : ℕ) (bs : List ℕ) → length d ≡ n + 64 → length bs ≡ 64 → put_at 64 d n bs ≡ take n d ++ bs
unfolding put_at
line_behind d n bs l m =
    let h : length d ≤ n + length bs = omega (arith, l, m) in
    rw (le-leb (n + 64) (length d) (omega (arith, l)), sets_paste d n bs (omega (arith, l, m)), drop_of_length-le d h, append-nil bs)

-- the bytes of four numbers
pub flat_four : (f : ℕ → List ℕ) (xs : List ℕ) → length xs ≡ 4
    → flat f xs ≡ f (get_or xs 0 0) ++ (f (get_or xs 1 0) ++ (f (get_or xs 2 0) ++ (f (get_or xs 3 0) ++ [])))
flat_four f xs l =
    rw (
      left_more f xs 0 0 (omega (arith, l)),
      left_more f xs 1 0 (omega (arith, l)),
      left_more f xs 2 0 (omega (arith, l)),
      left_more f xs 3 0 (omega (arith, l)),
      left_none f xs 4 (omega (arith, l)),
    )
