use Rattle.pieces.proofs.Chain.{seen_over}
use Rattle.totext.proofs.Chain.{run_over}
use Rattle.totext.specs.Results.{Turned, between, follows}
use Rattle.totext.specs.declared.Records.{Records}
use Rattle.totext.proofs.put_records.Goals as goal

pub returns : goal.returns
returns g c = run_over _ _ _ _ _ _ _ _ c.requires (seen_over {goes_on = follows} {Turn = Turned} (λ (s : Records). between s.file s.left) c.run.ensures)
