use Rattle.std.proofs.Common.{◌≤◌, length, min, arith}
use Rattle.judging.specs.Reach.{rows_of}
use borrow.Author.Tests.{le-ltb}
use Rattle.faults.proofs.Places.{at_none, at_some}
use Rattle.faults.specs.Faults.{is_region, place_in}
use Rattle.std.proofs.lemmas.List.{length-take}
use Rattle.judging.proofs.BitTable.is_round.Goals as goal

pub returns-in-Some : goal.returns-in-Some
returns-in-Some c =
    let a = c.args in
    let place = at_some (is_region a.region.now.key) a.self.now.regions.now c.place_in.result c.place_in.ensures c.in-Some.place c.in-Some.is in
    rw (c.sees.ensures, place.0)

pub returns-in-None : goal.returns-in-None
returns-in-None c =
    let a = c.args in
    let t = a.self.now in
    let place = at_none (is_region a.region.now.key) t.regions.now c.place_in.result c.place_in.ensures c.in-None.is in
    let short : length (rows_of t) ≤ length t.regions.now = rw (length-take (min (length t.regions.now) 32) t.rows) (omega arith) in
    let behind : length (rows_of t) ≤ place_in t.regions.now a.region.now.key = omega (arith, place, short) in
    rw (le-ltb _ _ behind)
