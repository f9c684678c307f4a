use Rattle.std.proofs.Common.{◌≡◌}
use Rattle.judging.specs.Reach.{rounds_of, rows_of}
use Rattle.judging.proofs.BitTable.rounds.Given as goal

abbrev pub invariant-loop-depth : goal.invariant-loop-depth
invariant-loop-depth l = (l.table.regions.now ≡ l.regions) × (rows_of l.table ≡ rounds_of l._depth l.links)
