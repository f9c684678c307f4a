-- `headed::headed_images_are_right` meets its contract, which is the theorem.
use Rattle.headed.proofs.Main.{headed_images}
use Rattle.headed.proofs.headed_images_are_right.Goals as goal

pub returns : goal.returns
returns c = headed_images
