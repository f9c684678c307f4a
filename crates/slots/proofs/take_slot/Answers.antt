use Rattle.std.proofs.Common.{sym, ◌∙◌}
use Rattle.rules.specs.Slots.{written}
use Rattle.slots.proofs.take_slot.Goals as goal

pub returns-clause-taken : goal.returns-clause-taken
unfolding written
returns-clause-taken c =
    let e = sym c.one_pass.ensures.pass.slot ∙ c.in-Some.is in
    rw (c.one_pass.ensures.pass.counts, ← c.renewed-region.ensures, e)
