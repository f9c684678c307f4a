-- `laws::counts_are_kept` meets its contract, which is the law.
use Rattle.laws.proofs.Neighbours.{four_neighbours}
use Rattle.laws.proofs.counts_are_kept.Goals as goal

pub returns : goal.returns
returns c = four_neighbours
