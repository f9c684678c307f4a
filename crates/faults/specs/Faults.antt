-- What is wrong with a region by itself, and the places of regions by their keys.
use Rattle.std.specs.Prelude.{ℕ, Bool, ◌&&◌, ◌||◌, cond, not, List, eqb, ltb}
use Rattle.rules.specs.Contradiction.{in_order, is_astray, is_left_over, is_unknown_state, is_unnumbered}
use Rattle.rules.specs.Lists.{place}
use Rattle.rules.specs.Tables.{number_of}
use Rattle.rules.specs.declared.Listed.{Listed}
use Rattle.undo.specs.Table.{any}

abbrev pub is_region : ℕ → Listed → Bool
is_region k r = eqb r.key k

-- the place of region k; the number of regions where it is not listed
abbrev pub place_in : List Listed → ℕ → ℕ
place_in rs k = place (is_region k) rs

-- what is wrong with a region by itself
abbrev pub is_faulty : List Listed → Listed → Bool
is_faulty rs r =
    is_unnumbered r || (is_unknown_state r || (not (in_order r.deps) || (any (is_astray rs) r.deps || is_left_over r)))

-- a dependence d before others: x is the one behind it, the others are in order, the others are all empty
abbrev pub stands : ℕ → ℕ → Bool → Bool → Bool
stands d x in_o none = cond (eqb d 0) none (not (eqb (number_of d) 0) && (in_o && (eqb x 0 || ltb d x)))
