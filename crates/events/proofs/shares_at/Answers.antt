use native.Mathlib.Omega.{arith}
use borrow.Author.Tests.{le-leb, lt-leb}
use Rattle.lines.proofs.Room.{word_room}
use Rattle.lines.proofs.Words.{num_two}
use Rattle.events.proofs.shares_at.Goals as goal

pub returns-then-bytes-lt10 : goal.returns-then-bytes-lt10
returns-then-bytes-lt10 c = rw (lt-leb 10 _ c.if-bytes-lt10.true)

pub returns : goal.returns
returns c =
    let w = c in
    let b = w.args.bytes.now in
    rw (le-leb 10 _ w.if-bytes-lt10.false, c.take_word.ensures, word_room b 0 (omega arith), c.join8.ensures, num_two b 8 (omega arith))
