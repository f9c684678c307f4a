-- The element at the place found passes.
use Prim.Native.Nat.{◌<◌}
use mathlib.Core.Path.{◌≡◌}
use mathlib.Core.Bool.{Bool, true}
use mathlib.Core.List.{List, [], ◌∷◌}
use lib.ListN.{get_or, length}
use native.Mathlib.Omega.{arith}
use Rattle.rules.specs.Lists.{place}
use Rattle.undo.proofs.Laws.{test}

module _ {A : Type 0} (p : A → Bool) where
  pub place_passes : (xs : List A) (d : A) → place p xs < length xs → p (get_or xs (place p xs) d) ≡ true
  unfolding place
  place_passes [] d h = absurd (omega arith)
  place_passes (x ∷ xs) d h =
      test (p x) (λ e. rw (e, e)) (λ e. rw e (place_passes xs d (let k : place p (x ∷ xs) < length (x ∷ xs) = h in omega (arith, rw e at k))))
