use mathlib.Core.Path.{◌∙◌, ◌≡◌, sym}
use native.Mathlib.Omega.{arith}
use lib.ListN.{drop, take}
use Rattle.rules.specs.Bytes.{num_of}
use Rattle.lines.proofs.Words.{num_two}
use Rattle.reading.specs.Item.{head_item}
use Rattle.reading.proofs.head.Goals as goal

pub returns-then-in_range : goal.returns-then-in_range
unfolding head_item
returns-then-in_range c = let e : c.join8-lines.result ≡ num_of (take 2 (drop 1 c.args.body.now)) = c.join8-lines.ensures ∙ sym (num_two c.args.body.now 1 (omega arith)) in rw (e, rw e at (sym c.in_range.ensures ∙ c.if-in_range.true))

pub returns-else-in_range : goal.returns-else-in_range
unfolding head_item
returns-else-in_range c = let e : c.join8-lines.result ≡ num_of (take 2 (drop 1 c.args.body.now)) = c.join8-lines.ensures ∙ sym (num_two c.args.body.now 1 (omega arith)) in rw (rw e at (sym c.in_range.ensures ∙ c.if-in_range.false))
