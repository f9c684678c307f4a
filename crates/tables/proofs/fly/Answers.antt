use Rattle.std.proofs.lemmas.List.{get_or_default, set_past}
use Rattle.rules.specs.Flight.{flown}
use Rattle.rules.specs.Slots.{carried}
use Rattle.rules.specs.Tables.{no_region, place_of}
use Rattle.tables.proofs.fly.Goals as goal
use lib.ListN.{get_or-eq_default}

pub returns-in-Some : goal.returns-in-Some
unfolding flown
returns-in-Some c =
    let rs = c.args.board.now.tables.regions in
    let n = c.in-Some.ensures.place.1 in
    rw (c.in-Some.ensures.place.0, c.fly.ensures.slots, c.fly.ensures.carried, get_or_default rs c.in-Some.at _ no_region n)

pub returns-in_default : goal.returns-in_default
unfolding flown carried
returns-in_default c =
    let rs = c.args.board.now.tables.regions in
    let k = c.args.key in
    rw (set_past rs (place_of k rs) _ c.in_default.ensures.place, get_or-eq_default rs no_region {n = place_of k rs} c.in_default.ensures.place)
