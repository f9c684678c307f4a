use Rattle.events.proofs.Records.{stands}
use Rattle.printing.proofs.Records.{line_puts, whole_line}
use Rattle.lines.proofs.Paste.{rest}
use lib.ListN.{length-drop}
use native.Mathlib.Omega.{arith}
use borrow.Author.Rules.{rules}
use Rattle.printing.proofs.put_event.Goals as goal

pub bounds-bytes-0 : goal.bounds-bytes-0
bounds-bytes-0 c = (stands c.args.bytes.now c.requires).some

pub slice_bounds-put_body-count : goal.slice_bounds-put_body-count
slice_bounds-put_body-count c = omega (arith, (stands c.args.bytes.now c.requires).some)

pub slice_bounds-put_body-start : goal.slice_bounds-put_body-start
slice_bounds-put_body-start c = omega (arith, (stands c.args.bytes.now c.requires).some)

pub put_body-requires : goal.put_body-requires
put_body-requires c = rw (rest c.args.bytes.now 1, length-drop) (stands c.args.bytes.now c.requires).room_for

pub returns : goal.returns
returns c =
    let r = c.args.bytes.now in
    let b = rw (rest r 1) at c.put_body.ensures in
    rw (whole_line r c.requires, line_puts) (search rules)
