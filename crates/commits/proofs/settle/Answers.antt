use Rattle.std.proofs.Common.{◌≡◌, ◌∙◌, ◌-◌, ap, sym, arith}
use Rattle.rules.specs.Commit.{settled}
use Rattle.commits.proofs.Turns.{counted, parts, settle_full, settle_more, settle_stop, settled_from, settled_none}
use Rattle.commits.proofs.settle.Goals as goal

pub returns-then-not-has_ripe : goal.returns-then-not-has_ripe
returns-then-not-has_ripe c =
    let t = c.args.tables.now in
    let p = parts t 0 (settled t) (sym (settled_none t (sym c.has_ripe.ensures.found ∙ c.if-not-has_ripe.true))) in
    record { tables = p.0; count = p.1 }

pub loop-committed-init : goal.loop-committed-init
loop-committed-init c =
    let t = c.args.tables.now in
    record { within = omega arith; rest = ap (counted 0) (settled_from t c.done_all.new.regions c.has_ripe.ensures.long c.done_all.ensures) }

pub loop-committed-preserved : goal.loop-committed-preserved
loop-committed-preserved c =
    let l = c.loop-committed in
    let y = sym c.commits.ensures ∙ c.if-not-commits.false in
    record {
      within = omega arith;
      rest = rw c.commit.ensures (settle_more l.committed c.earliest-next.result l.tables (omega arith) c.earliest-next.ensures y ∙ l.invariant.rest);
    }

pub returns-clause-tables : goal.returns-clause-tables
returns-clause-tables c =
    let l = c.loop-committed in
    (parts l.tables l.committed (settled c.args.tables.now) (sym (settle_full l.committed l.tables (omega arith)) ∙ l.invariant.rest)).0

pub returns-clause-count : goal.returns-clause-count
returns-clause-count c =
    let l = c.loop-committed in
    let p = parts l.tables l.committed (settled c.args.tables.now) (sym (settle_full l.committed l.tables (omega arith)) ∙ l.invariant.rest) in
    let n : 32 ≡ l.committed = omega arith in
    n ∙ p.1

pub returns-then-not-commits : goal.returns-then-not-commits
returns-then-not-commits c =
    let l = c.loop-committed in
    let e = rw c.earliest-next.ensures at (sym c.commits.ensures ∙ c.if-not-commits.true) in
    let p = parts l.tables l.committed (settled c.args.tables.now) (sym (settle_stop (32 - l.committed) l.committed l.tables e) ∙ l.invariant.rest) in
    record { tables = p.0; count = p.1 }
