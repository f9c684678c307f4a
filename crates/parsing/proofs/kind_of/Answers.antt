use mathlib.Core.Path.{◌∙◌, sym}
use native.Mathlib.Omega.{arith}
use Rattle.rules.specs.Kinds.{kind_at, kinds, no_kind}
use Rattle.parsing.specs.Read.{is_name}
use Rattle.parsing.proofs.Names.{is_kind, is_other, named}
use Rattle.lookup.proofs.Search.{place_end, place_hit, place_on}
use Rattle.parsing.proofs.kind_of.Goals as goal

pub kind_line-requires : goal.kind_line-requires
kind_line-requires c = named c.args.word.now c.loop-number.number (sym c.is_name.ensures ∙ c.if-is_name.true)

pub returns-then-is_name : goal.returns-then-is_name
unfolding kind_at
returns-then-is_name c =
    let w = c.args.word.now in
    let k = c.loop-number.number in
    c.kind_line.ensures ∙ is_kind w k (sym (place_hit (is_name w) k kinds no_kind (omega arith) (sym c.is_name.ensures ∙ c.if-is_name.true)) ∙ c.loop-number.invariant) (omega arith)

pub loop-number-preserved : goal.loop-number-preserved
unfolding kind_at
loop-number-preserved c =
    let w = c.args.word.now in
    place_on (is_name w) c.loop-number.number kinds no_kind (omega arith) (sym c.is_name.ensures ∙ c.if-is_name.false) ∙ c.loop-number.invariant

pub returns : goal.returns
returns c =
    let w = c.args.word.now in
    let k = c.loop-number.number in
    c.other_line.ensures ∙ is_other w k (sym (place_end (is_name w) k kinds (omega arith)) ∙ c.loop-number.invariant) (omega arith)
