use Rattle.std.proofs.Common.{◌≡◌, ◌++◌, map, take, drop}
use Rattle.rules.specs.Acknowledge.{kept_entry}
use Rattle.ends.proofs.keep_entries.Given as goal

abbrev pub invariant-loop-entry : goal.invariant-loop-entry
invariant-loop-entry l = l.entry-items ≡ map (kept_entry l.key l.line) (take l.entry-index l.initial.entry-items) ++ drop l.entry-index l.initial.entry-items
