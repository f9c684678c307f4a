use mathlib.Core.Path.{refl, sym}
use Prim.Native.Nat.{◌<◌}
use Rattle.parsing.proofs.Faults.{known, no_word_lem, unknown}
use Rattle.parsing.proofs.Names.{never_unknown}
use Rattle.parsing.proofs.Words.{next}
use Rattle.parsing.specs.Numbers.{line_number}
use Rattle.parsing.specs.Read.{no_word}
use Rattle.parsing.specs.Results.{told}
use Rattle.parsing.proofs.line_fault.Goals as goal

pub returns-then-word : goal.returns-then-word
returns-then-word c = no_word_lem _ _ c.next_word-word.ensures c.if-word.true

pub returns-in_default : goal.returns-in_default
returns-in_default c =
    let w = c.next_word-word.result in
    let nw = c.next_word-word.ensures in
    let h : w.start < w.end = next w.start w.end nw.before (λ z. c.if-word.false (sym z)) in
    unknown c.args.line.now w nw no_word h c.in_default.ensures refl

pub returns : goal.returns
returns c =
    let w = c.next_word-word.result in
    let nw = c.next_word-word.ensures in
    let h : w.start < w.end = next w.start w.end nw.before (λ z. c.if-word.false (sym z)) in
    known c.args.line.now w nw (line_number c.in-Some.kind) h c.in-Some.ensures (told 0 c.field_fault.result) (never_unknown c.in-Some.kind) c.field_fault.ensures
