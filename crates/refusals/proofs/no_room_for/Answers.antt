use Rattle.std.proofs.Common.{arith, sym, ◌≤◌, ◌+◌, ◌-◌}
use borrow.Author.Tests.{le-ltb}
use Rattle.rules.specs.Lists.{count}
use Rattle.rules.specs.Refusal.{is_of_party, other_party, party_of, reserve_of}
use Rattle.rules.specs.Tables.{channel_of, in_channel, thread_at}
use Rattle.refusals.proofs.no_room_for.Goals as goal

pub returns-then-taken-reserve-le-MOST_IN_CHANNEL : goal.returns-then-taken-reserve-le-MOST_IN_CHANNEL
returns-then-taken-reserve-le-MOST_IN_CHANNEL c =
    let ts = c.args.tables.now in
    let ch = channel_of ((thread_at c.args.thread ts).last + 1) in
    let o = other_party (party_of c.args.thread ts.size.shares) in
    let h = rw (c.count_channel-taken.ensures.count, c.reserve_of-reserve.ensures, c.other_party-other.ensures, c.party_of.ensures, c.channel_of-channel.ensures, c.last_of.ensures)
    at c.if-taken-reserve-le-MOST_IN_CHANNEL.true in
    let n : count (in_channel ch) ts.regions + 1 + (reserve_of o ts.size.shares - count (is_of_party ts.size.shares ch o) ts.regions) ≤ 16 = omega (arith, h) in
    sym (le-ltb 16 _ n)

pub returns : goal.returns
returns c =
    rw (c.saturating_sub.ensures, c.count_party-held.ensures.count, c.count_channel-taken.ensures.count, c.reserve_of-reserve.ensures, c.other_party-other.ensures, c.party_of.ensures, c.channel_of-channel.ensures, c.last_of.ensures)
