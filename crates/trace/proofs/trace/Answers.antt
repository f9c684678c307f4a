use Rattle.pieces.proofs.Chain.{seen_over}
use Rattle.trace.proofs.Chain.{traced}
use Rattle.trace.specs.Results.{Printed, between, follows, goes_on}
use Rattle.trace.specs.declared.Run.{Run}
use Rattle.trace.proofs.trace.Goals as goal

pub returns : goal.returns
unfolding goes_on
returns g c =
    traced _ _ _ _ c.run.new.stage.board c.run.new.stage.state _ _ _ _
    (rw c.zero.ensures at (seen_over {goes_on = follows} {Turn = Printed} (λ (s : Run). between s.board s.piece s.text s.state) c.run.ensures))
