use Rattle.std.proofs.lemmas.List.{get_or_default, set_past}
use Rattle.rules.specs.Access.{read}
use Rattle.rules.specs.Tables.{no_region, owner_of, place_of}
use Rattle.access.proofs.depend.Goals as goal

pub returns-in-Some : goal.returns-in-Some
unfolding read owner_of
returns-in-Some c =
    let rs = c.args.tables.now.regions in
    let n = c.in-Some.ensures.place.1 in
    rw (c.in-Some.ensures.place.0, c.join.ensures, c.dependence-dep.ensures, get_or_default rs c.in-Some.at _ no_region n)

pub returns-in_default : goal.returns-in_default
unfolding read
returns-in_default c =
    rw (set_past c.args.tables.now.regions (place_of c.args.key c.args.tables.now.regions) _ c.in_default.ensures.place)
