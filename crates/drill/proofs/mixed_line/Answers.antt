use Rattle.std.proofs.Common.{◌≡◌, length, rules, arith}
use Rattle.drill.proofs.Inside.{mixed_all}
use Rattle.drill.proofs.mixed_line.Goals as goal

pub returns : goal.returns
returns c =
    let l = c.loop-word in
    let eight : length c.args.now ≡ 8 = search rules in
    mixed_all _ c.args.now c.args.old l.value-items l.word (omega arith) l.invariant
