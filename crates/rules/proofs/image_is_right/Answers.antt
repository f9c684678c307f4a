-- `rules::image_is_right` meets its contract, which is the two theorems.
use Rattle.rules.proofs.Codec.Image.{only_image}
use Rattle.rules.proofs.Main.{image_reads_back}
use Rattle.rules.proofs.image_is_right.Goals as goal

pub returns : goal.returns
returns c = (image_reads_back, only_image)
