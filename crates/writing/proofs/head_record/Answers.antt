use Rattle.rules.specs.Bytes.{bytes_of}
use Rattle.rules.specs.Image.{head_record}
use Rattle.writing.proofs.head_record.Goals as goal

pub returns : goal.returns
unfolding head_record bytes_of
returns c = rw c.to_le_bytes.ensures
