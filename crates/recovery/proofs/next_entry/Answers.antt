-- `recovery::next_entry` meets its contract: a place past the last entry; an entry.
use Prim.Native.Nat.{◌+◌}
use mathlib.Core.Path.{◌∙◌, ◌≡◌, sym}
use mathlib.Core.Bool.{true}
use native.Mathlib.Omega.{arith}
use Rattle.lines.proofs.Room.{line_room}
use Rattle.rules.specs.Marks.{no_mark}
use Rattle.recovery.proofs.Places.{all_bytes}
use Rattle.recovery.proofs.Leaves.{at_small, found_by, index_inside, log_few, next_more, next_past, old_room}
use Rattle.rules.specs.Claim.{is_byte}
use Rattle.rules.specs.Lists.{all}
use Rattle.recovery.proofs.next_entry.Goals as goal

pub returns-in_default : goal.returns-in_default
returns-in_default c =
    let a = c.args in
    let s = c.in_ok-scan.scan in
    let bytes : all is_byte a.image.now ≡ true = all_bytes a.image.now (λ i. (c.type_inv.image i).fits) in
    let found = found_by a.headed a.image.now bytes a.at s c.in_ok-scan.ensures _ c.regions.ensures _ c.log-log.ensures _ c.walk_order-order.ensures a.at _ c.entry_at.ensures ∙ c.in_default.is in
    next_past a.headed a.image.now bytes a.at s c.in_ok-scan.ensures found

pub offset_bounds-log-index : goal.offset_bounds-log-index
offset_bounds-log-index c =
    let a = c.args in
    let s = c.in_ok-scan.scan in
    let bytes : all is_byte a.image.now ≡ true = all_bytes a.image.now (λ i. (c.type_inv.image i).fits) in
    let found = found_by a.headed a.image.now bytes a.at s c.in_ok-scan.ensures _ c.regions.ensures _ c.log-log.ensures _ c.walk_order-order.ensures a.at _ c.entry_at.ensures ∙ c.in-Some.is in
    let few = log_few a.headed a.image.now bytes a.at s c.in_ok-scan.ensures c.in-Some.index found in
    let inside = index_inside a.headed a.image.now bytes a.at s c.in_ok-scan.ensures c.in-Some.index found in
    record { fits = omega (arith, few, inside) }

pub bounds-log-index : goal.bounds-log-index
bounds-log-index c =
    let a = c.args in
    let s = c.in_ok-scan.scan in
    let bytes : all is_byte a.image.now ≡ true = all_bytes a.image.now (λ i. (c.type_inv.image i).fits) in
    let found = found_by a.headed a.image.now bytes a.at s c.in_ok-scan.ensures _ c.regions.ensures _ c.log-log.ensures _ c.walk_order-order.ensures a.at _ c.entry_at.ensures ∙ c.in-Some.is in
    rw c.log-log.ensures (index_inside a.headed a.image.now bytes a.at s c.in_ok-scan.ensures c.in-Some.index found)

pub overflow_add-after : goal.overflow_add-after
overflow_add-after c =
    let a = c.args in
    let s = c.in_ok-scan.scan in
    let bytes : all is_byte a.image.now ≡ true = all_bytes a.image.now (λ i. (c.type_inv.image i).fits) in
    let found = found_by a.headed a.image.now bytes a.at s c.in_ok-scan.ensures _ c.regions.ensures _ c.log-log.ensures _ c.walk_order-order.ensures a.at _ c.entry_at.ensures ∙ c.in-Some.is in
    let h = at_small a.headed a.image.now bytes a.at s c.in_ok-scan.ensures c.in-Some.index found in
    record { fits = omega (arith, h) }

pub returns : goal.returns
returns c =
    let a = c.args in
    let s = c.in_ok-scan.scan in
    let bytes : all is_byte a.image.now ≡ true = all_bytes a.image.now (λ i. (c.type_inv.image i).fits) in
    let found = found_by a.headed a.image.now bytes a.at s c.in_ok-scan.ensures _ c.regions.ensures _ c.log-log.ensures _ c.walk_order-order.ensures a.at _ c.entry_at.ensures ∙ c.in-Some.is in
    rw (
      c.is_some-more.ensures,
      c.take_line-old.ensures,
      c.log-log.ensures,
      line_room a.image.now _ (old_room a.headed a.image.now bytes a.at s c.in_ok-scan.ensures c.in-Some.index found no_mark),
    )
    (next_more a.headed a.image.now bytes a.at s c.in_ok-scan.ensures c.in-Some.index found no_mark _
    (sym (found_by a.headed a.image.now bytes a.at s c.in_ok-scan.ensures _ c.regions.ensures _ c.log-log.ensures _ c.walk_order-order.ensures (a.at + 1) _ c.entry_at-2.ensures)))
