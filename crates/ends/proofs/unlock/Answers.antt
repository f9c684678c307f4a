use Rattle.std.proofs.Common.{arith, ◌/◌}
use Rattle.std.proofs.lemmas.List.{get_or_default, set_past}
use Rattle.rules.specs.Acknowledge.{kept, unlocked}
use Rattle.rules.specs.Tables.{no_thread}
use Rattle.ends.proofs.unlock.Goals as goal

pub returns-then-thread-lt-MOST_THREADS : goal.returns-then-thread-lt-MOST_THREADS
unfolding unlocked kept
returns-then-thread-lt-MOST_THREADS c =
    rw (c.keep_entries.ensures, c.drop_flights.ensures, get_or_default c.args.tables.now.threads (c.args.key / 65536) _ no_thread (omega arith))

pub returns-else-thread-lt-MOST_THREADS : goal.returns-else-thread-lt-MOST_THREADS
unfolding unlocked
returns-else-thread-lt-MOST_THREADS c =
    rw (c.drop_flights.ensures, set_past c.args.tables.now.threads (c.args.key / 65536) _ (omega arith))
