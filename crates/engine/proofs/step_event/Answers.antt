use Rattle.engine.proofs.Steps.{stepped}
use Rattle.engine.proofs.step_event.Goals as goal

pub returns : goal.returns
returns c = stepped c.run.result c.args.board.now _ c.args.event _ c.run.ensures.done c.run.ensures.kept c.run.ensures.code c.from.ensures
