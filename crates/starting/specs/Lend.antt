-- A board to which starting memory is lent.
use Rattle.std.specs.Prelude.{ℕ, false, List, length}
use Rattle.rules.specs.Tables.{Lent, start_lines, with_cur, with_med, with_size, with_tables}
use Rattle.rules.specs.declared.Board.{Board}
use Rattle.rules.specs.declared.Size.{Size}

-- the numbers of the setup as they are, over lent memory of so many bytes
abbrev pub lent_size : ℕ → Size → Size
lent_size n z = record { threads = z.threads; lines = z.lines; shares = z.shares; zero = false; lent = n }

-- current memory and the medium are the lent bytes
abbrev pub lent : List ℕ → Board → Board
lent bs b = with_med (start_lines (Lent bs)) (with_cur (start_lines (Lent bs)) (with_tables (with_size (lent_size (length bs) b.tables.size) b.tables) b))
