use Rattle.std.proofs.Common.{refl, rules}
use Rattle.walking.proofs.Turns.{walks_end, walks_more, walks_start}
use Rattle.walking.proofs.walk_order.Goals as goal

pub loop-place-init : goal.loop-place-init
loop-place-init c = walks_start c.args.regions.now c.min-left.result c.min-left.ensures c.copy_from_slice.new.self _ c.copy_from_slice.ensures.after refl

pub loop-place-preserved : goal.loop-place-preserved
loop-place-preserved c =
    let l = c.loop-place in
    walks_more _ l.left l.remaining l.count l.keys l.invariant c.next_place.result c.next_place.ensures c.in-Some.place c.in-Some.is c.remove.new.regions (search rules) c.remove.ensures

pub returns : goal.returns
returns c =
    let l = c.loop-place in
    walks_end _ l.left l.remaining l.count l.keys l.invariant c.next_place.result c.next_place.ensures c.in_default.is
