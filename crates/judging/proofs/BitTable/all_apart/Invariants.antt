use Rattle.std.proofs.Common.{◌≡◌, ℕ, ◌<◌, length, get_or}
use Rattle.judging.specs.Reach.{rows_of, apart_from}
use Rattle.judging.proofs.BitTable.all_apart.Given as goal

abbrev pub invariant-loop-p : goal.invariant-loop-p
invariant-loop-p l = (length l.apart ≡ 32) × ((p : ℕ) → p < l.p → get_or l.apart p 0 ≡ apart_from (rows_of l.self) p)
