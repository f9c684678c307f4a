use Rattle.std.proofs.lemmas.Result.{on_ok_weaker}
use Rattle.totext.proofs.Chain.{rest_over}
use Rattle.totext.specs.Results.{rest}
use Rattle.totext.specs.declared.Numbers.{Numbers}
use Rattle.totext.proofs.put_rest.Goals as goal

pub returns : goal.returns
returns g c =
    on_ok_weaker c.send-2.result
    (λ q.
    rw (c.send-2.ensures.kept.0, ← c.send.ensures.kept.0)
    (rest_over (λ (s : Numbers). rest s.0.file s.0.left.held) (λ (s : Numbers). s.0.left.sent) _ _ _ _ _ _ c.run.ensures c.if-not-rest.false c.in_ok-send.ensures.all q))
    c.send-2.ensures.all
