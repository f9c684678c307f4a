use Rattle.std.proofs.Common.{◌∙◌, sym}
use Rattle.std.proofs.lemmas.Result.{err_from_is_err_and}
use Rattle.recovery.proofs.Accepted.{read_accepted, read_contradicted, read_refused}
use Rattle.recovery.proofs.read_image.Goals as goal

pub returns-in_err-scan : goal.returns-in_err-scan
returns-in_err-scan c =
    let told = err_from_is_err_and c.from_residual.result c.from_residual.ensures.1 in
    rw (told.1, told.2) (read_refused c.args.headed c.args.src.now _ c.in_err-scan.ensures)

pub returns-then-contradicts : goal.returns-then-contradicts
returns-then-contradicts c =
    read_contradicted c.args.headed c.args.src.now c.in_ok-scan.scan c.in_ok-scan.ensures
    (rw (← c.regions.ensures, ← c.log.ensures) (sym c.contradicts.ensures ∙ c.if-contradicts.true))

pub returns : goal.returns
returns c =
    read_accepted c.args.headed c.args.src.now c.in_ok-scan.scan c.in_ok-scan.ensures
    (rw (← c.regions.ensures, ← c.log.ensures) (sym c.contradicts.ensures ∙ c.if-contradicts.false))
