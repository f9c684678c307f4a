-- A lent buffer that is filled from its front. Bytes that find no room are dropped, and the cursor says so.
use Rattle.std.specs.Prelude.{◌+◌, ℕ, cond, false, true, List, [], ◌++◌, ◌∷◌, leb, ltb, drop, length, set, take}
use Rattle.output.specs.declared.Cursor.{Cursor}

-- a buffer and the cursor in it
pub record Room : Type 0 where
  pub buffer : List ℕ
  pub cursor : Cursor

unfoldable pub room : List ℕ → Cursor → Room
room d c = record { buffer = d; cursor = c }

-- one byte more
unfoldable pub put : Room → ℕ → Room
put r b =
    cond (ltb r.cursor.at (length r.buffer))
    (room (set r.buffer r.cursor.at b) (record { at = r.cursor.at + 1; short = r.cursor.short }))
    (room r.buffer (record { at = r.cursor.at; short = true }))

-- bytes, one behind the other
unfoldable pub puts : Room → List ℕ → Room
puts r [] = r
puts r (b ∷ bs) = puts (put r b) bs

-- the buffer d with the bytes bs at its front, as many as it has room for; every other byte as it was. The cursor is behind them
unfoldable pub filled : List ℕ → List ℕ → Room
filled d bs =
    room (take (length d) bs ++ drop (length bs) d)
    (cond (leb (length bs) (length d)) (record { at = length bs; short = false }) (record { at = length d; short = true }))
