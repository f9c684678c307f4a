use Rattle.std.proofs.Common.{◌≡◌, map}
use Rattle.walking.specs.Indices.{indices_of, last_first, nth}
use Rattle.walking.proofs.entry_in.Given as goal

abbrev pub invariant-loop-i : goal.invariant-loop-i
invariant-loop-i l = nth (last_first l.key l.i (map (λ m. m.key) l.log)) l.left ≡ nth (indices_of (map (λ m. m.key) l.log) l.key) l.n
