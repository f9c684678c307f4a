use mathlib.Core.Path.{◌∙◌, refl, sym}
use Prim.Native.Nat.{◌<◌}
use native.Mathlib.Omega.{arith}
use Rattle.parsing.proofs.Faults.{ends_early, ends_well, never_none, right_word, wrong_word}
use Rattle.parsing.proofs.Words.{next}
use Rattle.parsing.specs.Numbers.{fault_number, line_number}
use Rattle.parsing.proofs.field_fault.Goals as goal

pub returns-then-is_complete : goal.returns-then-is_complete
returns-then-is_complete c =
    let at = c.loop-kind in
    ends_well (line_number c.args.kind) c.args.line.now c.args.«from» at.at at.field at.invariant.2 c.next_word-word.result c.next_word-word.ensures c.if-word.true (sym c.is_complete.ensures ∙ c.if-is_complete.true)

pub returns-then-word : goal.returns-then-word
returns-then-word c =
    let at = c.loop-kind in
    ends_early (line_number c.args.kind) c.args.line.now c.args.«from» at.at at.field at.invariant.2 c.next_word-word.result c.next_word-word.ensures c.if-word.true (sym c.is_complete.ensures ∙ c.if-is_complete.false)

pub returns-in-Some : goal.returns-in-Some
returns-in-Some c =
    let at = c.loop-kind in
    let q = c.args in
    let w = c.next_word-word.result in
    let nw = c.next_word-word.ensures in
    let h : w.start < w.end = next w.start w.end nw.before (λ z. c.if-word.false (sym z)) in
    wrong_word (line_number q.kind) q.line.now q.«from» at.at at.field at.invariant.2 w nw (fault_number c.in-Some.fault) h (rw c.width_at.ensures at c.in-Some.ensures) (never_none c.in-Some.fault)

pub loop-kind-preserved : goal.loop-kind-preserved
loop-kind-preserved c =
    let at = c.loop-kind in
    let q = c.args in
    let w = c.next_word-word.result in
    let nw = c.next_word-word.ensures in
    let h : w.start < w.end = next w.start w.end nw.before (λ z. c.if-word.false (sym z)) in
    (nw.inside, omega (arith, nw.behind), right_word (line_number q.kind) q.line.now q.«from» at.at at.field at.invariant.2 w nw 0 h (rw c.width_at.ensures at c.in_default.ensures) refl)
