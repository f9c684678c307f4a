use Rattle.walking.proofs.Turns.{without_copied}
use Rattle.std.proofs.Common.{◌∙◌, ap, length, refl, take, ◌-◌}
use Rattle.walking.proofs.remove.Goals as goal

pub returns : goal.returns
returns c = ap (take (length c.args.regions.now - 1)) c.copy_within.ensures.after ∙ without_copied c.args.regions.now c.args.place _ refl c.requires
