use Rattle.text.proofs.Main.{round_trip}
use Rattle.parsing.proofs.Faults.{faults_told}
use Rattle.parsing.proofs.Lines.{lines_in_pieces}
use Rattle.printing.proofs.Pieces.{in_pieces}
use Rattle.text.proofs.text_is_right.Goals as goal

pub returns : goal.returns
returns c = (round_trip, (in_pieces, (lines_in_pieces, faults_told)))
