use Rattle.std.proofs.lemmas.List.{get_or_default, set_past}
use Rattle.rules.specs.Acknowledge.{data_ack, flight_place}
use Rattle.rules.specs.Tables.{no_region}
use Rattle.ends.proofs.data_ack.Goals as goal

pub returns-in-Some : goal.returns-in-Some
unfolding data_ack
returns-in-Some c =
    let n = c.in-Some.ensures.place.1 in
    rw (c.in-Some.ensures.place.0, c.land.ensures, get_or_default c.args.board.now.tables.regions c.in-Some.at _ no_region n)

pub returns-in_default : goal.returns-in_default
unfolding data_ack
returns-in_default c =
    let rs = c.args.board.now.tables.regions in
    rw (set_past rs (flight_place c.args.line rs) _ c.in_default.ensures.place)
