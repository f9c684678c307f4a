use Rattle.std.proofs.Common.{refl, sym, arith}
use Rattle.output.proofs.Rooms.{puts_none}
use Rattle.tracing.proofs.Saved.{none_saved, saved_fits, taken}
use Rattle.tracing.proofs.saved_words.Goals as goal

pub slice_bounds-image_words-end : goal.slice_bounds-image_words-end
slice_bounds-image_words-end c = omega (arith, c.save-saved.auto.image, saved_fits _ _ _ c.save-saved.result c.save-saved.ensures c.if-saved-eq0.true)

pub slice_bounds-image_words-end-then-saved-eq0 : goal.slice_bounds-image_words-end-then-saved-eq0
slice_bounds-image_words-end-then-saved-eq0 c =
    taken _ _ (omega (arith, c.save-saved.auto.image, saved_fits _ _ _ c.save-saved.result c.save-saved.ensures c.if-saved-eq0.true))

pub returns-else-saved-eq0 : goal.returns-else-saved-eq0
returns-else-saved-eq0 c =
    (refl, rw (none_saved _ _ _ c.save-saved.result c.save-saved.ensures c.args.board.now.tables.size.lines c.if-saved-eq0.false) (sym (puts_none _)))
