use Rattle.std.proofs.Common.{◌≡◌, ◌<◌, ◌∙◌, ℕ, ap, sym, arith, length, false, leb}
use borrow.Author.Tests.{le-leb, leb-false, leb-true}
use Rattle.rules.specs.Record.{shares_at}
use Rattle.rules.specs.Tables.{fresh_tables}
use Rattle.undo.proofs.Laws.{test}
use Rattle.board.proofs.Start.{many_lines, many_threads, start_answer, start_far, start_short}
use Rattle.board.proofs.setup.Goals as goal

above : (m n x : ℕ) → m < n → (x < n → ⊥) → m < x
above m n x k h = test (leb x m) (λ e. absurd (h (omega (arith, leb-true x m e)))) (λ e. leb-false x m e)

pub returns-then-shares-ne-SHARES : goal.returns-then-shares-ne-SHARES
returns-then-shares-ne-SHARES c = let a = c.args in sym (start_short a.threads a.lines a.shares.now a.memory.now c.if-shares-ne-SHARES.true)

pub returns-in_default : goal.returns-in_default
returns-in_default c =
    let a = c.args in
    sym (start_far a.threads a.lines a.shares.now a.memory.now c.if-shares-ne-SHARES.false (many_threads a.threads a.lines (above 8 256 a.threads (omega arith) c.in_default.ensures)))

pub returns-in_default-try_from : goal.returns-in_default-try_from
returns-in_default-try_from c =
    let a = c.args in
    sym (start_far a.threads a.lines a.shares.now a.memory.now c.if-shares-ne-SHARES.false (many_lines a.threads a.lines (above 256 65536 a.lines (omega arith) c.in_default-try_from.ensures)))

pub returns : goal.returns
returns c =
    let a = c.args in
    let f = c.fresh_tables-tables in
    let ten : length a.shares.now ≡ 10 = c.if-shares-ne-SHARES.false in
    let z = ap (λ ts. ts.size) (sym f.ensures) in
    let s : c.shares_at.result ≡ shares_at a.shares.now = c.shares_at.ensures ∙ rw (le-leb 10 (length a.shares.now) (omega (arith, ten))) in
    rw (c.test_setup.ensures (fresh_tables false (length a.memory.now)) z, s, c.in-Ok.ensures.1, c.in-Ok-try_from.ensures.1)
    (sym (start_answer a.threads a.lines a.shares.now a.memory.now ten))
