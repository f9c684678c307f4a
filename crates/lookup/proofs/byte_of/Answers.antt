use Rattle.lookup.proofs.Bytes.{none_left, shifted}
use borrow.Author.Rules.{rules}
use Rattle.lookup.proofs.byte_of.Goals as goal

pub returns-then-i-ge8 : goal.returns-then-i-ge8
returns-then-i-ge8 c = let a = c.args in none_left a.word a.i (search rules) c.if-i-ge8.true

pub returns : goal.returns
returns c = let a = c.args in shifted a.word a.i
