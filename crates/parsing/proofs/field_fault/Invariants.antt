use Rattle.std.specs.Prelude.{◌-◌, ◌≤◌, length}
use Rattle.parsing.specs.Numbers.{line_number}
use Rattle.parsing.proofs.Faults.{Ahead}
use Rattle.parsing.proofs.field_fault.Given as goal

abbrev pub invariant-loop-kind : goal.invariant-loop-kind
invariant-loop-kind l = (l.at ≤ length l.line) × (l.field ≤ l.at) × Ahead (line_number l.kind) l.line l.«from» l.at l.field

abbrev pub decreases-loop-kind : goal.decreases-loop-kind
decreases-loop-kind l = length l.line - l.at
