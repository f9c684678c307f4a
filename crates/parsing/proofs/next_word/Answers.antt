use Rattle.parsing.proofs.Words.{at_comment, at_end, at_word}
use Rattle.parsing.proofs.next_word.Goals.{then-line-start-via-then-line-start, then-line-start-via-else-line-start+then-line-start-eq35}
use Rattle.parsing.proofs.next_word.Goals as goal

pub returns-then-line-start : goal.returns-then-line-start
returns-then-line-start c =
    elim c.then-line-start.branch [
      | then-line-start-via-then-line-start w ↦ at_end _ _ _ c.find-start.ensures c.requires w.if-line-start.true
      | then-line-start-via-else-line-start+then-line-start-eq35 w ↦ at_comment _ _ _ c.find-start.ensures c.requires w.if-line-start.false w.if-line-start-eq35.true
    ]

pub returns : goal.returns
returns c = at_word _ _ _ c.find-start.ensures _ c.if-line-start.false c.if-line-start-eq35.false c.find-end.ensures
