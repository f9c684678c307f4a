use Rattle.std.proofs.Common.{◌≡◌, drop}
use Rattle.drill.specs.Drilled.{after_acts}
use Rattle.drill.proofs.act_all.Given as goal

abbrev pub invariant-loop-byte : goal.invariant-loop-byte
invariant-loop-byte l = after_acts l.image l.at (drop l.byte-index l.acts) ≡ after_acts l.initial.image 0 l.acts
