-- The dependences in their order, by the first and the others.
use Rattle.std.proofs.Common.{◌≡◌, ℕ, ◌-◌, ◌<◌, ◌≤◌, Bool, true, eqb, List, [], ◌∷◌, length, get_or, drop, take, refl, arith}
use lib.Seq.{take_all}
use Rattle.rules.specs.Contradiction.{in_order}
use Rattle.rules.specs.Lists.{all}
use Rattle.faults.specs.Faults.{stands}

pub none_left : (ds : List ℕ) → length ds < 1 → true ≡ in_order ds
unfolding in_order
none_left [] h = refl
none_left (d ∷ ds) h = absurd (omega arith)

-- those behind the first
abbrev pub others : List ℕ → List ℕ
others ds = take (length ds - 1) (drop 1 ds)

pub first_stands : (ds : List ℕ) (next : ℕ) (order empty : Bool) → 1 ≤ length ds
    → next ≡ get_or (others ds) 0 0 → order ≡ in_order (others ds) → empty ≡ all (eqb 0) (others ds) → stands (get_or ds 0 0) next order empty ≡ in_order ds
unfolding in_order
first_stands [] next order empty h n o e = absurd (omega arith)
first_stands (d ∷ ds) next order empty h n o e =
    let whole : take (length (d ∷ ds) - 1) ds ≡ ds = take_all (length (d ∷ ds) - 1) ds (omega arith) in
    rw (n, o, e, whole)
