use mathlib.Core.Path.{◌∙◌, sym}
use Prim.Native.Nat.{◌+◌, ◌-◌}
use mathlib.Core.Bool.{false, true}
use mathlib.Core.List.{[]}
use lib.ListN.{drop, take}
use native.Mathlib.Omega.{arith}
use Rattle.output.proofs.Rooms.{puts_join, puts_none}
use Rattle.output.specs.Writer.{room_of}
use Rattle.parsing.proofs.Reading.{end_in, good_line, good_none, good_not, good_on, good_stop, text_line, text_none, text_step, text_stop, then_not, then_on}
use Rattle.parsing.specs.Read.{bytes_of_text, good_bytes, words_in, words_read}
use borrow.Author.Rules.{rules}
use Rattle.parsing.proofs.read_text.Goals as goal

pub slice_bounds-read_line-end : goal.slice_bounds-read_line-end
slice_bounds-read_line-end c = end_in c.args.text.now c.loop-at.at c.find-end.result c.loop-at-test.true c.find-end.ensures

pub returns-then-not-read_line : goal.returns-then-not-read_line
returns-then-not-read_line c =
    let at = c.loop-at in
    let t = c.args.text.now in
    let f = c.find-end in
    let h = c.loop-at-test.true in
    let l = c.read_line in
    let g = words_read (words_in (take (f.result - at.at) (drop at.at t))) in
    let bad = sym l.ensures.tells ∙ c.if-not-read_line.true in
    let e = text_line t at.at f.result h f.ensures ∙ then_not g (bytes_of_text (drop (f.result + 1) t)) bad in
    let none = good_line t at.at f.result h f.ensures ∙ good_not g (good_bytes (drop (f.result + 1) t)) bad in
    let kept = rw c.new-writer.ensures.empty at at.invariant.3 in
    let put = rw c.new-writer.ensures.empty at at.invariant.4 in
    text_stop (bytes_of_text (drop at.at t)) (bytes_of_text t) (room_of at.writer) c.args.out.now at.lines g.bytes false _ l.new.out (good_bytes t) _ e kept (search rules) l.ensures.written.1
    (good_stop c.args.out.now at.writer.out.now (good_bytes (drop at.at t)) (good_bytes t) at.writer.cursor none put)

pub loop-at-preserved : goal.loop-at-preserved
loop-at-preserved c =
    let at = c.loop-at in
    let t = c.args.text.now in
    let f = c.find-end in
    let h = c.loop-at-test.true in
    let l = c.read_line in
    let g = words_read (words_in (take (f.result - at.at) (drop at.at t))) in
    let u = bytes_of_text (drop (f.result + 1) t) in
    let r = room_of at.writer in
    let ok = sym l.ensures.tells ∙ c.if-not-read_line.false in
    let e = text_line t at.at f.result h f.ensures ∙ then_on g u ok in
    let i = end_in t at.at f.result h f.ensures in (
      omega arith,
      omega (arith, f.ensures),
      l.ensures.written.0 ∙ at.invariant.2,
      rw l.ensures.written.1 (text_step (bytes_of_text (drop at.at t)) (bytes_of_text t) u r (room_of c.new-writer.result) at.lines g.bytes e at.invariant.3),
      rw (
        l.ensures.written.1,
        ← puts_join r g.bytes (good_bytes (drop (f.result + 1) t)),
        ← good_on g (good_bytes (drop (f.result + 1) t)) ok,
        ← good_line t at.at f.result h f.ensures,
      )
          at.invariant.4,
    )

pub returns : goal.returns
returns c =
    let at = c.loop-at in
    let t = c.args.text.now in
    let e = text_none t at.at c.loop-at-test.false in
    let kept = rw c.new-writer.ensures.empty at at.invariant.3 in
    let put = rw c.new-writer.ensures.empty at at.invariant.4 in
    text_stop (bytes_of_text (drop at.at t)) (bytes_of_text t) (room_of at.writer) c.args.out.now at.lines [] true _ at.writer (good_bytes t) _ e kept (search rules) (sym (puts_none (room_of at.writer)))
    (good_stop c.args.out.now at.writer.out.now (good_bytes (drop at.at t)) (good_bytes t) at.writer.cursor (good_none t at.at c.loop-at-test.false) put)
