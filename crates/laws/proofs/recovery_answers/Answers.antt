-- `laws::recovery_answers` meets its contract, which is the law.
use Rattle.laws.proofs.Answers.{recovery_answers}
use Rattle.laws.proofs.recovery_answers.Goals as goal

pub returns : goal.returns
returns c = recovery_answers
