use Rattle.std.proofs.lemmas.List.{get_or_default, set_past}
use Rattle.rules.specs.End.{closed}
use Rattle.rules.specs.Tables.{no_region, place_of}
use Rattle.ends.proofs.close.Goals as goal

pub returns-in-Some : goal.returns-in-Some
unfolding closed
returns-in-Some c =
    let n = c.in-Some.ensures.place.1 in
    rw (c.in-Some.ensures.place.0, get_or_default c.args.tables.now.regions c.in-Some.at _ no_region n)

pub returns-in_default : goal.returns-in_default
unfolding closed
returns-in_default c =
    let rs = c.args.tables.now.regions in
    rw (set_past rs (place_of c.args.key rs) _ c.in_default.ensures.place)
