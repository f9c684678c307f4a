use mathlib.Core.Path.{◌∙◌, ◌≡◌, ap, sym}
use native.Mathlib.Omega.{arith}
use borrow.Author.Tests.{eq-eqb, ne_eqb}
use lib.ListN.{length}
use lib.Seq.{take_all}
use Rattle.rules.specs.Bytes.{num_of}
use Rattle.headed.specs.Recovery.{recovery_call_as}
use Rattle.rules.specs.Recovery.{called_by}
use Rattle.lines.proofs.Paste.{sets_whole}
use Rattle.lines.proofs.Room.{put_room, word_room}
use Rattle.rules.proofs.Codec.Bytes.{length_bytes}
use Rattle.recovery.proofs.recovery_call.Goals as goal

pub returns-then-place-ne8 : goal.returns-then-place-ne8
unfolding recovery_call_as
returns-then-place-ne8 c = rw (ne_eqb _ _ c.if-place-ne8.true, c.from.ensures)

pub returns : goal.returns
unfolding recovery_call_as
returns c =
    let h : length c.args.place.now ≡ 8 = c.if-place-ne8.false in
    let n : c.take_word.result ≡ num_of c.args.place.now = c.take_word.ensures ∙ word_room c.args.place.now 0 (omega arith) ∙ ap num_of (take_all 8 c.args.place.now (omega arith)) in
    let w = c.put_word.ensures ∙ put_room 8 c.args.place.now 0 _ (omega arith) ∙ sets_whole c.args.place.now _ (length_bytes 8 _ ∙ sym h) in
    rw (eq-eqb _ _ h, ← n, w) (ap called_by c.step-answer.ensures)
