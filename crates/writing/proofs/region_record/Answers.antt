use borrow.Author.Rules.{rules}
use Rattle.rules.specs.Bytes.{bytes_of}
use Rattle.rules.specs.Image.{key_bytes, region_record}
use Rattle.writing.proofs.Records.{flat_four}
use Rattle.writing.proofs.region_record.Goals as goal

pub returns : goal.returns
unfolding region_record bytes_of
returns c =
    rw (
      c.header.ensures,
      c.key_bytes-first.ensures,
      c.key_bytes-second.ensures,
      c.key_bytes-third.ensures,
      c.key_bytes-fourth.ensures,
      flat_four key_bytes c.args.deps (search rules),
    )
