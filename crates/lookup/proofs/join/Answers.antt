use Rattle.std.proofs.Common.{sym, ◌∙◌, eqb}
use Rattle.std.proofs.lemmas.List.{set_past}
use Rattle.rules.specs.Access.{joined}
use Rattle.rules.specs.Lists.{place}
use Rattle.lookup.proofs.join.Goals as goal

pub returns-then-is_had : goal.returns-then-is_had
unfolding joined
returns-then-is_had c = let e = sym c.is_had.ensures ∙ c.if-is_had.true in rw e

pub returns-in-Some : goal.returns-in-Some
unfolding joined
returns-in-Some c = let e = sym c.is_had.ensures ∙ c.if-is_had.false in rw (e, c.in-Some.ensures.0)

pub returns-in_default : goal.returns-in_default
unfolding joined
returns-in_default c =
    let e = sym c.is_had.ensures ∙ c.if-is_had.false in
    rw (e, set_past c.args.deps.now (place (eqb 0) c.args.deps.now) c.args.dep c.in_default.ensures)
