use Rattle.pieces.proofs.Flow.{front_sent, more_sent, none_more}
use Rattle.pieces.proofs.write_all.Goals as goal

pub loop-rest-preserved : goal.loop-rest-preserved
loop-rest-preserved g c = more_sent _ _ _ _ _ _ c.loop-rest.invariant c.in-Ok.ensures.bytes

pub returns-in-Ok-eq0-clause-front : goal.returns-in-Ok-eq0-clause-front
returns-in-Ok-eq0-clause-front g c = front_sent _ _ _ _ (more_sent _ _ _ _ _ _ c.loop-rest.invariant c.in-Ok-eq0.ensures.bytes)

pub returns-in-Err-clause-front : goal.returns-in-Err-clause-front
returns-in-Err-clause-front g c = front_sent _ _ _ _ (none_more _ _ _ _ _ c.loop-rest.invariant c.in-Err.ensures.bytes)

pub returns-clause-front : goal.returns-clause-front
returns-clause-front g c = front_sent _ _ _ _ c.loop-rest.invariant
