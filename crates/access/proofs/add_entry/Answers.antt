use Rattle.std.proofs.Common.{refl}
use Rattle.rules.specs.Access.{is_of}
use Rattle.lookup.proofs.Lists.{count_is}
use Rattle.access.proofs.add_entry.Goals as goal

pub returns-clause-added : goal.returns-clause-added
returns-clause-added c = (
  c.in_ok-at.ensures.place.0,
  c.in_ok-at.ensures.place.1,
  rw (c.count_entries-rank.ensures, ← count_is (is_of c.args.key) c.args.log.now) refl,
)
