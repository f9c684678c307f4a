use Rattle.std.proofs.Common.{◌≡◌, ◌++◌, map, reverse}
use Rattle.judging.specs.Reach.{rows_of}
use Rattle.judging.proofs.Clash.{Passed}
use Rattle.judging.proofs.BitTable.any_clash.Given as goal

abbrev pub invariant-loop-mark : goal.invariant-loop-mark
invariant-loop-mark l =
    let passed = reverse (map (λ b. b.now) l.yielded) in
    Passed l.self.regions.now (rows_of l.self) l.seen passed × (l.mark-iterator.iter.rest.now ++ passed ≡ l.log)
