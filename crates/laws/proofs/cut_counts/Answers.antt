-- `laws::cut_counts` meets its contract, which is the law.
use Rattle.laws.proofs.Values.{cut_counts}
use Rattle.laws.proofs.cut_counts.Goals as goal

pub returns : goal.returns
returns c = cut_counts
