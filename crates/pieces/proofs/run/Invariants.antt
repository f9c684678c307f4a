use Rattle.std.proofs.Common.{◌≤◌}
use Rattle.pieces.proofs.Chain.{GoneOver}
use Rattle.pieces.specs.Chain.{most_turns}
use Rattle.pieces.proofs.run.Given as goal

abbrev pub invariant-loop-turn : goal.invariant-loop-turn
invariant-loop-turn g l =
    (l._turn ≤ most_turns)
    × GoneOver g.S.Stage.follows g.S.Stage.Turn l.initial.stage l.stage (g.R.Read.remaining l.initial.streams.input) (g.R.Read.remaining l.streams.input)
    (g.W.Write.contents l.initial.streams.output) (g.W.Write.contents l.streams.output) (g.S.Stage.sent l.stage) l._turn
