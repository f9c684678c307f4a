use mathlib.Core.Path.{◌∙◌, refl}
use Rattle.rules.proofs.Codec.Bytes.{length_words}
use Rattle.rules.specs.Bytes.{line_bytes}
use Rattle.rules.specs.Image.{line_record}
use Rattle.writing.proofs.Records.{line_behind}
use Rattle.writing.proofs.line_record.Goals as goal

pub returns : goal.returns
unfolding line_record
returns c = c.put_line_at.ensures ∙ line_behind _ 1 (line_bytes c.args.line) refl (length_words 8 c.args.line)
