use mathlib.Core.Path.{◌∙◌, ◌≡◌, sym}
use Rattle.output.specs.Room.{filled}
use Rattle.output.specs.Writer.{room_of}
use Rattle.printing.proofs.Lengths.{text_short}
use Rattle.printing.specs.Text.{text_of}
use native.Mathlib.Omega.{arith}
use borrow.Author.Rules.{rules}
use Rattle.text.proofs.Calls.{says_refused, text_filled, text_refused, text_written, whole_in, wrote_all}
use Rattle.text.proofs.write_text.Goals as goal

pub returns-then-text-file : goal.returns-then-text-file
returns-then-text-file c = says_refused c.from.result 6 c.args.text.now _ (search rules) (text_refused c.args.file.now c.args.text.now (omega arith))

pub slice_bounds-put_rest-count : goal.slice_bounds-put_rest-count
slice_bounds-put_rest-count c = omega (arith, c.put_whole-passed.ensures.passed, whole_in c.args.file.now)

pub slice_bounds-put_rest-start : goal.slice_bounds-put_rest-start
slice_bounds-put_rest-start c = omega (arith, c.put_whole-passed.ensures.passed, whole_in c.args.file.now)

pub returns : goal.returns
returns c =
    let t = c.args.text.now in
    let file = c.args.file.now in
    let p = c.put_whole-passed in
    let w = c.put_rest.new.out in
    let start = rw c.new-writer.ensures.empty at p.ensures.text.1 in
    let e : room_of w ≡ filled t (text_of file) = text_filled file t p.new.out p.result _ p.ensures.passed start c.put_rest.ensures.1 in
    rw c.from-2.ensures (wrote_all t _ (text_of file) w (search rules) e (omega (arith, text_short file)) ∙ sym (text_written file t (omega arith)))
