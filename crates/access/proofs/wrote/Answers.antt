use Rattle.rules.specs.Access.{wrote}
use Rattle.rules.specs.Tables.{owner_of}
use Rattle.access.proofs.wrote.Goals as goal

pub returns-clause-region : goal.returns-clause-region
unfolding wrote owner_of
returns-clause-region c = rw (c.in_ok-take_slot.ensures.taken, c.join.ensures, c.dependence-dep.ensures, c.region_at-region.ensures)
