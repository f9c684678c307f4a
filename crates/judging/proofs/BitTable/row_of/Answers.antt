use Rattle.std.proofs.Common.{◌≡◌, ◌∙◌, bit_or, reverse, rules}
use Rattle.std.specs.List.{fold}
use Rattle.judging.proofs.Bits.{row_folded}
use Rattle.judging.specs.Reach.{rows_of, step_to}
use Rattle.judging.proofs.BitTable.row_of.Goals as goal

pub returns : goal.returns
returns c =
    let a = c.args in
    let folded : c.fold.result ≡ fold (λ row q. bit_or (step_to (rows_of a.self.now) q) row) 0 (reverse a.links.now) = search rules in
    folded ∙ row_folded (rows_of a.self.now) a.links.now
