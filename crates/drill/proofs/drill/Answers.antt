-- What the save and the last step return is what demand 3 speaks about.
use mathlib.Core.Path.{◌≡◌}
use lib.ListN.{length, take}
use Rattle.recovery.proofs.Places.{all_bytes}
use Rattle.drill.proofs.Laws.{drill_accepted, drill_refused, part_long, size_fits}
use borrow.Author.Rules.{rules}
use Rattle.drill.proofs.drill.Goals as goal

pub returns-then-saved-ne0 : goal.returns-then-saved-ne0
returns-then-saved-ne0 c =
    let a = c.args in
    drill_refused a.file.now a.memory.now a.acts.now a.image.now _ c.run_image-saved.result c.run_image-saved.ensures c.if-saved-ne0.true

pub slice_bounds-recover-end : goal.slice_bounds-recover-end
slice_bounds-recover-end c =
    let a = c.args in
    size_fits a.file.now a.memory.now a.acts.now a.image.now _ c.run_image-saved.result c.run_image-saved.ensures c.if-saved-ne0.false

pub slice_bounds-recover-end-2 : goal.slice_bounds-recover-end-2
slice_bounds-recover-end-2 c =
    let a = c.args in
    part_long _ c.run_image-saved.new.image
    (size_fits a.file.now a.memory.now a.acts.now a.image.now _ c.run_image-saved.result c.run_image-saved.ensures c.if-saved-ne0.false)

pub returns : goal.returns
returns c =
    let a = c.args in
    let s = c.run_image-saved in
    let e = s.new.image in
    let l : length c.recover-last.new.image ≡ length (take s.result.value e) = search rules in
    drill_accepted a.file.now a.memory.now a.acts.now a.image.now e s.result s.ensures c.if-saved-ne0.false
    (all_bytes a.file.now (λ i. search rules)) (all_bytes a.memory.now (λ i. search rules)) c.recover-last.result c.recover-last.new.image l c.recover-last.ensures.steps
