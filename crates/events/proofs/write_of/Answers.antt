use Rattle.rules.specs.Record.{event_of}
use Rattle.lines.proofs.Room.{word_room}
use borrow.Author.Rules.{rules}
use Rattle.events.proofs.write_of.Goals as goal

pub returns : goal.returns
unfolding event_of
returns c = rw (c.take_word.ensures, word_room c.args.body.now 3 (search rules))
