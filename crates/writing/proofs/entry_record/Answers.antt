use mathlib.Core.Path.{◌∙◌, refl}
use Rattle.rules.proofs.Codec.Bytes.{length_words}
use Rattle.rules.specs.Bytes.{bytes_of, line_bytes}
use Rattle.rules.specs.Image.{entry_record}
use Rattle.writing.proofs.Records.{line_behind}
use Rattle.writing.proofs.entry_record.Goals as goal

pub returns : goal.returns
unfolding entry_record bytes_of
returns c =
    let e = rw (c.copy_from_slice.ensures.after, c.header.ensures) at c.put_line_at.ensures in
    e ∙ line_behind _ 5 (line_bytes c.args.old) refl (length_words 8 c.args.old)
