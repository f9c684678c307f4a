use Rattle.tracing.proofs.Pieces.{goes_on}
use Rattle.tracing.proofs.pieces_are_right.Goals as goal

pub returns : goal.returns
returns c = goes_on
