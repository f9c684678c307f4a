use Rattle.std.proofs.Common.{◌≡◌, ℕ, drop, take, arith, ap, refl, sym, ◌∙◌, length-take-le}
use Rattle.events.specs.Whole.{whole_length}
use Rattle.pieces.proofs.Flow.{on_ok}
use Rattle.pieces.proofs.Move.{moved_all, refilled_front, shifted_front}
use Rattle.printing.proofs.Lengths.{whole_short}
use Rattle.printing.specs.Text.{whole_text}
use Rattle.totext.proofs.Chain.{text_out}
use Rattle.totext.proofs.RecordsStage.turn.Goals as goal

pub shared_ref_as_front-may_come : goal.shared_ref_as_front-may_come
shared_ref_as_front-may_come g c =
    let r = c.refill-n in
    let counts = r.ensures.refilled.counts in
    omega (arith, c.shift-held.ensures.0, moved_all r.new.buf c.put_whole-passed.result r.result counts, counts, c.shift-held.auto.buf)

pub returns : goal.returns
returns g c =
    let r = c.refill-n in
    let d = r.new.buf in
    let n = r.result in
    let w = c.shift-held in
    let p = c.put_whole-passed in
    let counts = r.ensures.refilled.counts in
    let a = take n d in
    let l : take w.result w.new.buf ≡ drop (whole_length a) a = rw (w.ensures.1, w.ensures.0) (shifted_front d p.result n counts ∙ ap (λ (x : ℕ). drop x a) p.ensures.passed) in
    let out : take p.new.out.cursor.at p.new.out.out.now ≡ whole_text a =
    text_out c.args.self.now.text p.new.out.out.now (whole_text a) _ p.new.out.cursor c.new-writer.ensures.empty p.ensures.text.1
    (omega (arith, whole_short a, length-take-le n d counts, counts, r.auto.buf)) in
    record {
      came = drop c.args.self.now.left.held a;
      sent = whole_text a;
      turn =
          record {
            pieced =
                record {
                  piece = a;
                  begins = refilled_front c.args.self.now.file d c.args.self.now.left.held n r.ensures.refilled r.auto.buf;
                  left = l;
                  more = rw (← l, length-take-le n d counts) c.may_come.ensures;
                  ends = rw (length-take-le n d counts);
                };
            comes = refl;
            goes = refl;
          };
      streamed =
          record {
            reads = rw c.flush.ensures.kept.0 r.ensures.comes;
            writes = λ e. rw (← out, ← r.ensures.kept.0) (on_ok c.flush.result c.flush.ensures.all (sym c.is_ok-sent.ensures.value ∙ e));
            front = rw (← out, ← r.ensures.kept.0) c.flush.ensures.front;
          };
    }
