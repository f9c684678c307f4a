use mathlib.Core.Path.{refl}
use Rattle.output.proofs.Rooms.{puts_whole}
use Rattle.output.proofs.Writer.put_whole.Goals as goal

pub returns : goal.returns
returns c = (refl, rw c.copy_from_slice.ensures.after (puts_whole c.args.self.now.out.now c.args.self.now.cursor c.args.bytes.now c.requires))
