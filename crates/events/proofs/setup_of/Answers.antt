use Prim.Native.Nat.{◌≤◌}
use mathlib.Core.Path.{◌∙◌, ◌≡◌, ap}
use mathlib.Core.Bool.{cond}
use lib.Dec.{leb}
use lib.ListN.{drop, length, length-drop}
use native.Mathlib.Omega.{arith}
use borrow.Author.Tests.{le-leb}
use Rattle.lines.proofs.Paste.{rest}
use Rattle.lines.proofs.Words.{num_two}
use Rattle.rules.specs.Record.{event_of, shares_at}
use Rattle.rules.specs.Tables.{no_shares}
use Rattle.events.proofs.setup_of.Goals as goal

pub returns : goal.returns
unfolding event_of
returns c =
    let b = c.args.body.now in
    let l : 10 ≤ length (drop 3 b) = rw length-drop (omega arith) in
    let s : c.shares_at.result ≡ shares_at (drop 3 b)
    = c.shares_at.ensures ∙ ap (λ x. cond (leb 10 (length x)) (shares_at x) no_shares) (rest b 3) ∙ rw (le-leb 10 (length (drop 3 b)) l) in
    rw (c.join8.ensures, num_two b 1 (omega arith), s)
