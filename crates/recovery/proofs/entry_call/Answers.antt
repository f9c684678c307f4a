use Rattle.std.proofs.Common.{◌∙◌}
use mathlib.Core.Bool.{true}
use Rattle.headed.specs.Reader.{read_as}
use Rattle.recovery.proofs.Steps.{told_call}
use Rattle.recovery.specs.Places.{entry_call}
use Rattle.recovery.proofs.entry_call.Goals as goal

pub returns : goal.returns
unfolding entry_call
returns c = c.from.ensures ∙ told_call (read_as true c.args.image.now) c.args.at c.entry_value.result c.entry_value.ensures
