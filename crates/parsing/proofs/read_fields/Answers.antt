use mathlib.Core.Path.{◌∙◌, ◌≡◌, sym}
use Prim.Native.Nat.{◌-◌, ◌<◌}
use mathlib.Core.Bool.{false}
use lib.ListN.{drop, take}
use native.Mathlib.Omega.{arith}
use native.Mathlib.Numerals.{add-one}
use Rattle.std.specs.Prelude.{None, Some}
use Rattle.output.specs.Writer.{room_of}
use Rattle.parsing.specs.Numbers.{line_number}
use Rattle.parsing.proofs.Reading.{fields_is, fields_none, fields_not, left_end, left_more}
use Rattle.parsing.proofs.Words.{next}
use Rattle.parsing.specs.Read.{complete, fields_from, number_in, width_at, words_in}
use Rattle.rules.specs.Bytes.{bytes_of}
use Rattle.parsing.proofs.read_fields.Goals as goal

pub returns-then-word : goal.returns-then-word
returns-then-word c =
    let at = c.loop-word in
    let line = c.args.line.now in
    let k = line_number c.args.kind in
    let e = c.next_word-word.ensures.none c.if-word.true in
    let p = left_end (fields_from k at.field (words_in (drop at.at line))) _ (room_of at.out) (room_of c.args.out.now) (complete k at.field) (fields_none k at.field (drop at.at line) e) at.invariant.3 in
    record { written = (at.invariant.2, p.0); tells = c.is_complete.ensures ∙ p.1 }

pub returns-in_default : goal.returns-in_default
returns-in_default c =
    let at = c.loop-word in
    let line = c.args.line.now in
    let k = line_number c.args.kind in
    let nw = c.next_word-word in
    let i = nw.result.start in
    let j = nw.result.end in
    let h : i < j = next i j nw.ensures.before (λ z. c.if-word.false (sym z)) in
    let w = take (j - i) (drop i line) in
    let n : number_in (width_at k at.field) w ≡ None = sym (rw c.width_at-width.ensures at c.number_in.ensures) ∙ c.in_default.is in
    let p = left_end (fields_from k at.field (words_in (drop at.at line))) _ (room_of at.out) (room_of c.args.out.now) false (fields_not k at.field (drop at.at line) w _ (nw.ensures.some h) n) at.invariant.3 in
    record { written = (at.invariant.2, p.0); tells = p.1 }

pub loop-word-preserved : goal.loop-word-preserved
loop-word-preserved c =
    let at = c.loop-word in
    let line = c.args.line.now in
    let k = line_number c.args.kind in
    let nw = c.next_word-word in
    let i = nw.result.start in
    let j = nw.result.end in
    let h : i < j = next i j nw.ensures.before (λ z. c.if-word.false (sym z)) in
    let w = take (j - i) (drop i line) in
    let v = c.in-Some.number in
    let n : number_in (width_at k at.field) w ≡ Some v = sym (rw c.width_at-width.ensures at c.number_in.ensures) ∙ c.in-Some.is in
    let l = left_more (fields_from k at.field (words_in (drop at.at line))) _ _ (room_of at.out) (room_of c.args.out.now) (bytes_of (width_at k at.field) v) (fields_is k at.field (drop at.at line) w _ (nw.ensures.some h) v n) at.invariant.3 in (
      nw.ensures.inside,
      omega (arith, nw.ensures.behind),
      c.put_le.ensures.0 ∙ at.invariant.2,
      rw (c.put_le.ensures.1, c.width_at-width.ensures, add-one) l,
    )
