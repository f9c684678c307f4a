use Rattle.std.proofs.Common.{◌∙◌}
use borrow.Author.Tests.{ne_eqb}
use Rattle.faults.proofs.Places.{place_or_length}
use Rattle.faults.specs.Faults.{is_region}
use Rattle.judging.proofs.link_of.Goals as goal

pub returns : goal.returns
returns c =
    let a = c.args in
    c.unwrap_or.ensures ∙ rw (c.place_in.ensures, ne_eqb a.dep 0 c.if-dep-eq0.false) (place_or_length (is_region a.dep) a.regions.now)
