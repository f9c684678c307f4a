use Rattle.std.proofs.Common.{◌≡◌, map, length, take}
use Rattle.judging.specs.Reach.{row_of, rows_of}
use Rattle.judging.proofs.BitTable.round.Given as goal

abbrev pub invariant-loop-place : goal.invariant-loop-place
invariant-loop-place l = (length l.rows ≡ 32) × (take l.place l.rows ≡ map (row_of (rows_of l.self)) (take l.place l.links))
