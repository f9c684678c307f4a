-- `laws::mask_is_tested` meets its contract, which is the law.
use Rattle.laws.proofs.Masks.{mask_tested}
use Rattle.laws.proofs.mask_is_tested.Goals as goal

pub returns : goal.returns
returns c = mask_tested
