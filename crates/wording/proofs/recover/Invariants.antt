use Rattle.std.proofs.Common.{◌≡◌, ◌-◌}
use Rattle.wording.proofs.Finish.{finish_in}
use Rattle.wording.specs.Text.{recovered}
use Rattle.wording.proofs.recover.Given as goal

abbrev pub invariant-loop : goal.invariant-loop
invariant-loop l = finish_in (257 - l.counter) (record { bytes = l.image; at = l.at }) ≡ recovered l.initial.image
