-- `laws::finished_is_last` meets its contract, which is the law.
use Rattle.laws.proofs.Walked.{finished_is_last}
use Rattle.laws.proofs.finished_is_last.Goals as goal

pub returns : goal.returns
returns c = finished_is_last
