use mathlib.Core.Path.{◌∙◌, sym}
use borrow.Author.Tests.{le-leb, lt-leb}
use Rattle.reading.proofs.Tests.{item_empty, item_some}
use Rattle.reading.proofs.one_record.Goals as goal

pub returns-in_default : goal.returns-in_default
returns-in_default c = sym (item_empty c.args.headed c.args.tally c.args.src.now c.in_default.len_below)

pub returns-then-not-is_kind : goal.returns-then-not-is_kind
returns-then-not-is_kind c = sym (item_some c.args.headed c.args.tally c.args.src.now c.in-len1-up.len_at_least ∙ rw (sym c.is_kind.ensures ∙ c.if-not-is_kind.true))

pub returns-then-not-is_placed : goal.returns-then-not-is_placed
returns-then-not-is_placed c = sym (item_some c.args.headed c.args.tally c.args.src.now c.in-len1-up.len_at_least ∙ rw (sym c.is_kind.ensures ∙ c.if-not-is_kind.false, sym c.is_placed.ensures ∙ c.if-not-is_placed.true))

pub returns-then-body-body_length : goal.returns-then-body-body_length
returns-then-body-body_length c = sym (item_some c.args.headed c.args.tally c.args.src.now c.in-len1-up.len_at_least ∙ rw (sym c.is_kind.ensures ∙ c.if-not-is_kind.false, sym c.is_placed.ensures ∙ c.if-not-is_placed.false, lt-leb _ _ (rw c.body_length.ensures at c.if-body-body_length.true)))

pub returns : goal.returns
returns c = sym (item_some c.args.headed c.args.tally c.args.src.now c.in-len1-up.len_at_least ∙ rw (sym c.is_kind.ensures ∙ c.if-not-is_kind.false, sym c.is_placed.ensures ∙ c.if-not-is_placed.false, le-leb _ _ (rw c.body_length.ensures at c.if-body-body_length.false), c.fields.ensures))
