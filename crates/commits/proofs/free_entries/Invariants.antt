use Rattle.std.proofs.Common.{◌≡◌, ◌++◌, map, take, drop}
use Rattle.rules.specs.Commit.{freed_entry}
use Rattle.commits.proofs.free_entries.Given as goal

abbrev pub invariant-loop-entry : goal.invariant-loop-entry
invariant-loop-entry l = l.entry-items ≡ map (freed_entry l.key) (take l.entry-index l.initial.entry-items) ++ drop l.entry-index l.initial.entry-items
