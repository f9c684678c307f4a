use Rattle.std.proofs.Common.{arith, ◌*◌, add_assoc, get_or}
use Rattle.std.proofs.lemmas.List.{get_or_default}
use Rattle.rules.specs.Begin.{opened}
use Rattle.rules.specs.Tables.{no_thread}
use Rattle.engine.proofs.opened.Goals as goal

pub returns : goal.returns
unfolding opened
returns c =
    let ths = c.args.tables.now.threads in
    let t = c.args.thread in
    rw (c.next_number.ensures, c.enter.ensures, c.begun-region.ensures, c.current-before.ensures.key, get_or_default ths t _ no_thread (omega arith), add_assoc (65536 * t) (get_or ths t no_thread).last 1)
