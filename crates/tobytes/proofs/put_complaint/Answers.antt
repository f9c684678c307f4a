use Rattle.std.proofs.Common.{rules}
use Rattle.tobytes.proofs.Chain.{complaint_put}
use Rattle.tobytes.proofs.put_complaint.Goals as goal

pub returns : goal.returns
returns c = complaint_put c.args.out.now _ c.args.line _ _ _ _ (search rules) c.new-writer.ensures.empty c.put_all.ensures.1 c.put_decimal.ensures.1 c.put_all-2.ensures.1
