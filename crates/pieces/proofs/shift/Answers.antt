use Rattle.std.proofs.Common.{◌≡◌, ◌-◌, arith, sym, ◌∙◌}
use Rattle.pieces.proofs.Move.{moved_all, moved_short, pasted, shifted_none}
use Rattle.pieces.proofs.shift.Goals as goal
use Rattle.pieces.proofs.shift.Goals.{then-buf-n-via-then-buf-n, then-buf-n-via-else-buf-n+then-n-from}

pub returns-then-buf-n : goal.returns-then-buf-n
returns-then-buf-n c =
    let d = c.args.buf.now in
    let a = c.args.«from» in
    let n = c.args.n in
    elim c.then-buf-n.branch [
      | then-buf-n-via-then-buf-n w ↦ (sym (moved_short d a n w.if-buf-n.true), sym (shifted_none d a))
      | then-buf-n-via-else-buf-n+then-n-from w ↦ let e : n - a ≡ 0 = omega (arith, w.if-n-from.true) in (sym (moved_all d a n (omega (arith, w.if-buf-n.false)) ∙ e), sym (shifted_none d a))
    ]

pub returns : goal.returns
returns c =
    let d = c.args.buf.now in
    let a = c.args.«from» in
    let n = c.args.n in
    (sym (moved_all d a n (omega arith)), c.copy_within.ensures.after ∙ pasted d a (n - a))
