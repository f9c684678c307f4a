use mathlib.Core.Path.{◌∙◌, refl}
use Rattle.rules.proofs.Codec.Bytes.{length_words}
use Rattle.rules.specs.Bytes.{line_bytes}
use Rattle.writing.proofs.Records.{line_behind}
use Rattle.writing.proofs.line_bytes.Goals as goal

pub returns : goal.returns
returns c = c.put_line_at.ensures ∙ line_behind _ 0 (line_bytes c.args.line) refl (length_words 8 c.args.line)
