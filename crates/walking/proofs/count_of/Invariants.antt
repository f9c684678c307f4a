use Rattle.std.proofs.Common.{◌≡◌, count_by, eqb, take}
use Rattle.walking.proofs.count_of.Given as goal

abbrev pub invariant-loop-mark : goal.invariant-loop-mark
invariant-loop-mark l = l.entries ≡ count_by (λ m. eqb m.key l.key) (take l.mark-index l.log)
