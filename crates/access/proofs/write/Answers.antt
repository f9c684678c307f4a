use Rattle.rules.specs.Access.{stored, write}
use Rattle.access.proofs.write.Goals as goal

pub returns-clause-done : goal.returns-clause-done
unfolding write stored
returns-clause-done c =
    rw (c.fly.ensures, c.store.ensures, c.put_region.ensures, c.in_ok-log_once.ensures.logged, c.in_ok-region.ensures.region, c.current-key.ensures.key)
