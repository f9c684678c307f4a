-- Where there is room.
use Prim.Native.Nat.{◌+◌, ◌*◌, ◌≤◌, ℕ}
use mathlib.Core.Path.{◌≡◌, refl}
use mathlib.Core.List.{List}
use lib.Dec.{leb}
use lib.ListN.{drop, length, take}
use lib.Seq.{length-sets, sets}
use borrow.Author.Tests.{le-leb}
use Rattle.undo.proofs.Laws.{test}
use Rattle.rules.specs.Bytes.{line_at, num_of}
use Rattle.rules.specs.Tables.{lent_line}
use Rattle.lines.specs.Room.{line_in, put_at, word_in}

pub put_room : (n : ℕ) (dst : List ℕ) (at : ℕ) (bs : List ℕ) → at + n ≤ length dst → put_at n dst at bs ≡ sets dst at bs
unfolding put_at
put_room n dst at bs h = rw (le-leb (at + n) (length dst) h)

pub length_put : (n : ℕ) (dst : List ℕ) (at : ℕ) (bs : List ℕ) → length (put_at n dst at bs) ≡ length dst
unfolding put_at
length_put n dst at bs = test (leb (at + n) (length dst)) (λ e. rw e (length-sets dst at bs)) (λ e. rw e)

pub word_room : (src : List ℕ) (at : ℕ) → at + 8 ≤ length src → word_in src at ≡ num_of (take 8 (drop at src))
unfolding word_in
word_room src at h = rw (le-leb (at + 8) (length src) h)

pub line_room : (src : List ℕ) (at : ℕ) → at + 64 ≤ length src → line_in src at ≡ line_at src at
unfolding line_in
line_room src at h = rw (le-leb (at + 64) (length src) h)

-- a line of lent memory
pub lent_in : (memory : List ℕ) (i : ℕ) → line_in memory (64 * i) ≡ lent_line memory i
unfolding line_in lent_line
lent_in memory i = refl
