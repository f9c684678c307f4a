use Rattle.std.proofs.Common.{sym, arith}
use Rattle.lines.proofs.Paste.{rest}
use Rattle.events.proofs.Records.{pos}
use Rattle.tracing.proofs.Due.{at_end, at_full, at_last, goes_on}
use Rattle.tracing.proofs.trace_piece.Goals as goal

pub returns-in_default : goal.returns-in_default
returns-in_default c =
    let l = c.loop-board in
    let x = rest c.args.piece.now l.passed in
    at_full _ _ _ _ _ _ _ _ _ l.invariant _ _ c.in_default.ensures (sym (rw x at c.loop-board-test.ensures))

pub returns-after-loop-board : goal.returns-after-loop-board
returns-after-loop-board c =
    let l = c.loop-board in
    at_end _ _ _ _ _ _ _ _ _ l.invariant (sym (rw (rest c.args.piece.now l.passed) at c.loop-board-test.ensures))

pub returns-then-traced-eq0 : goal.returns-then-traced-eq0
returns-then-traced-eq0 c =
    let l = c.loop-board in
    let x = rest c.args.piece.now l.passed in
    at_last _ _ _ _ _ _ _ _ _ l.invariant _ _ c.in-Some.traced (rw x at c.in-Some.ensures) (sym (rw x at c.loop-board-test.ensures)) c.if-traced-eq0.true

pub overflow_add-passed : goal.overflow_add-passed
overflow_add-passed c =
    let l = c.loop-board in
    let v = goes_on _ _ _ _ _ _ _ _ _ l.invariant _ _ c.in-Some.traced (rw (rest c.args.piece.now l.passed) at c.in-Some.ensures) c.if-traced-eq0.false in
    omega (arith, v.inside, c.well_formed)

pub loop-board-smaller : goal.loop-board-smaller
loop-board-smaller c =
    let l = c.loop-board in
    let v = goes_on _ _ _ _ _ _ _ _ _ l.invariant _ _ c.in-Some.traced (rw (rest c.args.piece.now l.passed) at c.in-Some.ensures) c.if-traced-eq0.false in
    omega (arith, v.inside, pos _ c.if-traced-eq0.false)

pub loop-board-preserved : goal.loop-board-preserved
loop-board-preserved c =
    let l = c.loop-board in
    goes_on _ _ _ _ _ _ _ _ _ l.invariant _ _ c.in-Some.traced (rw (rest c.args.piece.now l.passed) at c.in-Some.ensures) c.if-traced-eq0.false
