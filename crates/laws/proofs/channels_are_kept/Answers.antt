-- `laws::channels_are_kept` meets its contract, which is the law.
use Rattle.laws.proofs.Channels.{two_channels}
use Rattle.laws.proofs.channels_are_kept.Goals as goal

pub returns : goal.returns
returns c = two_channels
