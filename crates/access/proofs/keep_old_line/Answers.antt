use lib.ListN.{get_or-eq_default}
use Rattle.std.proofs.Common.{arith, refl, ◌*◌, ◌+◌, get_or, length, ◌∙◌}
use Rattle.std.proofs.lemmas.List.{get_or_default, set_past}
use borrow.Author.Tests.{le-ltb, lt-ltb}
use Rattle.lookup.proofs.Search.{any_place}
use Rattle.rules.specs.Access.{free_entry, is_of}
use Rattle.rules.specs.Tables.{no_thread}
use Rattle.access.proofs.keep_old_line.Goals as goal

pub returns-in_default-clause-code : goal.returns-in_default-clause-code
returns-in_default-clause-code c =
    let g = any_place (is_of 0) _ ∙ le-ltb _ _ c.in_default.ensures.added.0 in
    let none = rw (get_or_default c.args.board.now.tables.threads c.args.thread _ no_thread (omega arith)) at g in
    rw none

pub returns-clause-entered : goal.returns-clause-entered
returns-clause-entered c =
    let ths = c.args.board.now.tables.threads in
    let t = c.args.thread in
    let p = rw (get_or_default ths t _ no_thread (omega arith)) at c.in-Some.ensures.added.0 in
    let f = rw (get_or_default ths t _ no_thread (omega arith)) at c.in-Some.ensures.added.2 in
    rw (f, p, get_or_default ths t _ no_thread (omega arith))

pub returns-clause-code : goal.returns-clause-code
returns-clause-code c =
    let ths = c.args.board.now.tables.threads in
    let t = c.args.thread in
    let log = (get_or ths t no_thread).log in
    let p = rw (get_or_default ths t _ no_thread (omega arith)) at c.in-Some.ensures.added.0 in
    let n = rw (get_or_default ths t _ no_thread (omega arith)) at c.in-Some.ensures.added.1 in
    rw (any_place (is_of 0) log, p, lt-ltb _ (length log) n)

pub returns-then-thread-ge-MOST_THREADS-clause-entered : goal.returns-then-thread-ge-MOST_THREADS-clause-entered
returns-then-thread-ge-MOST_THREADS-clause-entered c =
    let b = c.args.board.now in
    let t = c.args.thread in
    rw (set_past b.tables.threads t _ (omega arith), set_past b.log_lines (32 * t + free_entry t b.tables) _ (omega arith))

pub returns-then-thread-ge-MOST_THREADS-clause-code : goal.returns-then-thread-ge-MOST_THREADS-clause-code
returns-then-thread-ge-MOST_THREADS-clause-code c =
    rw (get_or-eq_default c.args.board.now.tables.threads no_thread {n = c.args.thread} (omega arith)) refl
