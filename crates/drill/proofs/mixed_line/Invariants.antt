use Rattle.std.proofs.Common.{◌≡◌, ◌++◌, drop, take}
use Rattle.torn.specs.Torn.{mixed}
use Rattle.drill.specs.Drilled.{choice_of}
use Rattle.drill.proofs.mixed_line.Given as goal

abbrev pub invariant-loop-word : goal.invariant-loop-word
invariant-loop-word l = l.value-items ≡ take l.word (mixed (choice_of l.words) 0 l.initial.value-items l.old) ++ drop l.word l.initial.value-items
