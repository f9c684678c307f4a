use Rattle.std.proofs.Common.{arith, refl, ◌/◌}
use Rattle.std.proofs.lemmas.List.{get_or_default, set_past}
use Rattle.rules.specs.Commit.{commit, freed}
use Rattle.rules.specs.Tables.{no_thread}
use Rattle.commits.proofs.commit.Goals as goal

pub returns-then-thread-lt-MOST_THREADS : goal.returns-then-thread-lt-MOST_THREADS
unfolding commit freed
returns-then-thread-lt-MOST_THREADS c =
    rw (c.free_entries.ensures, c.without_region.ensures, get_or_default c.args.tables.now.threads (c.args.key / 65536) _ no_thread (omega arith)) refl

pub returns-else-thread-lt-MOST_THREADS : goal.returns-else-thread-lt-MOST_THREADS
unfolding commit freed
returns-else-thread-lt-MOST_THREADS c =
    rw (c.without_region.ensures, set_past c.args.tables.now.threads (c.args.key / 65536) _ (omega arith)) refl
