use Rattle.std.proofs.Common.{◌≡◌, ◌≤◌, drop, leb, length, take, arith, refl, sym, ◌∙◌, length-take-le, take-take}
use Rattle.parsing.proofs.Sizes.{read_front}
use Rattle.parsing.specs.Read.{good_bytes}
use Rattle.pieces.proofs.Flow.{on_ok}
use Rattle.pieces.proofs.Move.{refilled_front, shifted_front}
use Rattle.tobytes.specs.Results.{line_end}
use Rattle.tobytes.proofs.LinesStage.turn.Goals as goal

pub returns : goal.returns
returns g c =
    let s = c.args.self.now in
    let f = c.refill-n in
    let d = f.new.buf in
    let n = f.result in
    let b = c.line_end-end in
    let r = c.read_text-lines in
    let h = c.shift.ensures in
    let counts = f.ensures.refilled.counts in
    let l = length-take-le n d counts in
    let k : b.result ≡ line_end (leb (length (take n d)) s.left.held) (take n d) = rw l b.ensures.0 in
    let m : b.result ≤ n = omega (arith, b.ensures.1, l) in
    let t = take-take b.result n d m in
    let out : take r.result.good r.new.out ≡ good_bytes (take b.result d) =
    read_front (take b.result d) s.bytes r.new.out r.result r.ensures (omega (arith, length-take-le b.result d (omega (arith, m, counts)), m, counts, f.auto.buf)) in
    record {
      came = drop s.left.held (take n d);
      sent = good_bytes (take b.result d);
      turn =
          record {
            pieced =
                record {
                  piece = take n d;
                  begins = refilled_front s.text d s.left.held n f.ensures.refilled f.auto.buf;
                  left = rw (h.1, h.0, ← k) (shifted_front d b.result n counts);
                  reads = rw (← k, t, r.ensures.counted);
                  form = rw (← k, t) r.ensures.tells;
                  ends = rw l;
                };
            comes = refl;
            goes = rw (← k, t);
          };
      streamed =
          record {
            reads = rw c.flush.ensures.kept.0 f.ensures.comes;
            writes = λ e. rw (← out, ← f.ensures.kept.0) (on_ok c.flush.result c.flush.ensures.all (sym c.is_ok-sent.ensures.value ∙ e));
            front = rw (← out, ← f.ensures.kept.0) c.flush.ensures.front;
          };
    }
