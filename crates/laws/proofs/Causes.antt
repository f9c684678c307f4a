-- The causes of refusal 8, computed.
use mathlib.Core.Path.{refl}
use Rattle.laws.specs.Causes.{CausesMatter}
use Rattle.rules.specs.Bytes.{bytes_of, num_of, words_bytes, words_of}
use Rattle.rules.specs.Contradiction.{any_broken, any_clash, contradicts, in_order, reaches, reaches_in}
use Rattle.rules.specs.Image.{encode, entry_record, head_record, line_record, region_record}
use Rattle.rules.specs.Lists.{count, flat, place}
use Rattle.rules.specs.Reader.{end_turn, fields_turn, head_turn, line_turn, listed_at, listed_turn, logged_at, logged_turn, read_by, turn_by}
use Rattle.rules.proofs.Lists.{or_none}

pub causes_matter : CausesMatter
unfolding contradicts in_order any_broken reaches reaches_in any_clash encode head_record line_record region_record entry_record flat bytes_of words_bytes words_of num_of read_by turn_by fields_turn head_turn line_turn listed_turn listed_at logged_turn logged_at end_turn count place
causes_matter = record { tests = λ p. rw (or_none (any_clash p.regions p.log)) refl; bytes = refl; reads = refl; alone = refl }
