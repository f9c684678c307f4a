use mathlib.Core.Path.{◌∙◌, sym}
use Prim.Native.Nat.{◌-◌, ◌<◌}
use lib.ListN.{drop, take}
use Rattle.parsing.proofs.Reading.{line_kind, line_none, line_unknown, reads_behind, reads_none}
use Rattle.parsing.proofs.Names.{never_unknown}
use Rattle.parsing.proofs.Words.{next}
use Rattle.parsing.specs.Read.{fields_from, kind_bytes, kind_of, words_in, words_read}
use Rattle.parsing.proofs.read_line.Goals as goal

pub returns-then-word : goal.returns-then-word
returns-then-word c = reads_none _ _ _ (line_none c.args.line.now (c.next_word-word.ensures.none c.if-word.true))

pub returns-in_default : goal.returns-in_default
returns-in_default c =
    let nw = c.next_word-word in
    let h : nw.result.start < nw.result.end = next _ _ nw.ensures.before (λ z. c.if-word.false (sym z)) in
    reads_none _ _ _ (line_unknown c.args.line.now _ _ (nw.ensures.some h) (sym c.in_default.ensures))

pub returns : goal.returns
returns c =
    let line = c.args.line.now in
    let nw = c.next_word-word in
    let i = nw.result.start in
    let j = nw.result.end in
    let w = take (j - i) (drop i line) in
    let ws = words_in (drop j line) in
    let h : i < j = next i j nw.ensures.before (λ z. c.if-word.false (sym z)) in
    let k = c.in-Some.ensures in
    let u = line_kind line w ws (nw.ensures.some h) (λ z. never_unknown c.in-Some.kind (k ∙ z)) in
    reads_behind (words_read (words_in line)) (fields_from (kind_of w) 0 ws) (kind_bytes (kind_of w)) c.args.out.now c.put_kind.new.out c.read_fields.new.out _ u (rw (← k) c.put_kind.ensures) (rw (← k) c.read_fields.ensures)
