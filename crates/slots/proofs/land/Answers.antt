use Rattle.std.proofs.lemmas.List.{set_past}
use Rattle.rules.specs.Acknowledge.{landed}
use Rattle.rules.specs.Lists.{place}
use Rattle.rules.specs.Slots.{carries}
use Rattle.slots.proofs.land.Goals as goal

pub returns-in-Some : goal.returns-in-Some
unfolding landed
returns-in-Some c = rw (c.in-Some.ensures.place.0, c.no_slot.ensures)

pub returns-in_default : goal.returns-in_default
unfolding landed
returns-in_default c =
    let ss = c.args.region.now.slots in
    rw (set_past ss (place (carries c.args.line) ss) _ c.in_default.ensures.place)
