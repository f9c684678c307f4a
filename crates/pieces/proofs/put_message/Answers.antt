use Rattle.std.proofs.Common.{rules}
use Rattle.pieces.proofs.Message.{message_put}
use Rattle.pieces.proofs.put_message.Goals as goal

pub returns : goal.returns
returns c =
    message_put c.args.out.now _ c.args.name.now _ _ _ _ c.args.failed (search rules) c.failure.ensures c.new-writer.ensures.empty c.put_all.ensures.1 c.put_all-2.ensures.1
