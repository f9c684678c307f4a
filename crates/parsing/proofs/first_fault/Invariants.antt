use Rattle.std.specs.Prelude.{◌+◌, ◌-◌, ◌≡◌, ◌≤◌, drop, length}
use Rattle.parsing.specs.Fault.{further, lines_fault}
use Rattle.parsing.specs.Read.{lines_of}
use Rattle.parsing.proofs.first_fault.Given as goal

abbrev pub invariant-loop-at : goal.invariant-loop-at
invariant-loop-at l = (l.at ≤ length l.text + 1) × (further l.at (lines_fault (lines_of (drop l.at l.text))) ≡ lines_fault (lines_of l.text))

abbrev pub decreases-loop-at : goal.decreases-loop-at
decreases-loop-at l = length l.text + 1 - l.at
