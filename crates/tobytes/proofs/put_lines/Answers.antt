use Rattle.pieces.proofs.Chain.{seen_over}
use Rattle.tobytes.proofs.Chain.{run_over}
use Rattle.tobytes.specs.Results.{Turned, between, follows}
use Rattle.tobytes.specs.declared.Lines.{Lines}
use Rattle.tobytes.proofs.put_lines.Goals as goal

pub returns : goal.returns
returns g c = run_over _ _ _ _ _ _ _ _ c.requires (seen_over {goes_on = follows} {Turn = Turned} (λ (s : Lines). between s.text s.left) c.run.ensures)
