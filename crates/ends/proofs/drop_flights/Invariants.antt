use Rattle.std.proofs.Common.{◌≡◌, ◌++◌, map, take, drop}
use Rattle.rules.specs.Acknowledge.{dropped}
use Rattle.ends.proofs.drop_flights.Given as goal

abbrev pub invariant-loop-region : goal.invariant-loop-region
invariant-loop-region l = l.region-items ≡ map (dropped l.key l.line) (take l.region-index l.initial.region-items) ++ drop l.region-index l.initial.region-items
