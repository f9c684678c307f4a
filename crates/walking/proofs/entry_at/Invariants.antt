use Rattle.std.proofs.Common.{◌≡◌, drop, map}
use Rattle.walking.specs.Indices.{nth, walk_indices, order_of}
use Rattle.walking.proofs.entry_at.Given as goal

abbrev pub invariant-loop-key : goal.invariant-loop-key
invariant-loop-key l = nth (walk_indices (drop l.key-index l.key-items) (map (λ m. m.key) l.log)) l.left ≡ nth (walk_indices (order_of l.order) (map (λ m. m.key) l.log)) l.place
