use Rattle.std.proofs.Common.{◌∙◌, sym}
use Rattle.judging.proofs.Judged.{judged_first, judged_table}
use Rattle.judging.proofs.contradicts.Goals.{then-any_faulty-via-then-any_faulty, then-any_faulty-via-else-any_faulty+then-any_broken}
use Rattle.judging.specs.Reach.{rows_of}
use Rattle.judging.proofs.contradicts.Goals as goal

pub returns-then-any_faulty : goal.returns-then-any_faulty
returns-then-any_faulty c =
    let first = judged_first 32 c.args.regions.now c.args.log.now c.min.result c.min.ensures in
    elim c.then-any_faulty.branch [
      | then-any_faulty-via-then-any_faulty w ↦ rw (first, ← c.any_faulty.ensures, w.if-any_faulty.true)
      | then-any_faulty-via-else-any_faulty+then-any_broken w ↦ rw (first, ← c.any_faulty.ensures, w.if-any_faulty.false, ← w.any_broken.ensures, w.if-any_broken.true)
    ]

pub returns-then-any_round : goal.returns-then-any_round
returns-then-any_round c =
    let a = c.args in
    let t = c.of-table in
    let told = judged_table 32 a.regions.now a.log.now c.min.result c.min.ensures
    (sym c.any_faulty.ensures ∙ c.if-any_faulty.false) (sym c.any_broken.ensures ∙ c.if-any_broken.false)
    t.result.regions.now (rows_of t.result) t.ensures.same t.ensures.rows in
    rw (told, ← c.any_round.ensures, c.if-any_round.true)

pub returns-else-any_round : goal.returns-else-any_round
returns-else-any_round c =
    let a = c.args in
    let t = c.of-table in
    let told = judged_table 32 a.regions.now a.log.now c.min.result c.min.ensures
    (sym c.any_faulty.ensures ∙ c.if-any_faulty.false) (sym c.any_broken.ensures ∙ c.if-any_broken.false)
    t.result.regions.now (rows_of t.result) t.ensures.same t.ensures.rows in
    rw (told, ← c.any_round.ensures, c.if-any_round.false, c.any_clash.ensures)
