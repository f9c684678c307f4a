use Rattle.std.proofs.Common.{IsTrue, take}
use Rattle.rules.specs.Lists.{all}
use Rattle.listing.proofs.all_whole.Given as goal

abbrev pub invariant-loop-item : goal.invariant-loop-item
invariant-loop-item g l = IsTrue (all g.T.Whole.is_whole (take l.item-index l.items))
