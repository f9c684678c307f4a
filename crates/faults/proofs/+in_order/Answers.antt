use Rattle.std.proofs.Common.{◌∙◌}
use Rattle.faults.proofs.Order.{first_stands, none_left}
use Rattle.faults.proofs.+in_order.Goals as goal

pub returns-in_default : goal.returns-in_default
returns-in_default t c = none_left c.args.deps.now c.in_default.len_below

pub returns : goal.returns
returns t c =
    c.is_placed.ensures ∙ first_stands c.args.deps.now _ _ _ c.in-len1-up.len_at_least c.first_of.ensures c.in_order.ensures c.no_deps.ensures
