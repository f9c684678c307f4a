-- The log entries in the order in which they are restored, by their indices in the log.
use Rattle.std.specs.Prelude.{◌-◌, suc, zero, ℕ, cond, List, [], ◌++◌, ◌∷◌, map, eqb, get_or, length, replicate, take, None, Option, Some}
use Rattle.rules.specs.Measures.{most_regions}
use Rattle.rules.specs.declared.Mark.{Mark}
use Rattle.walking.specs.declared.Order.{Order}

-- the regions in the order of the walk, as the program holds them
abbrev pub order_of : Order → List ℕ
order_of o = take o.count o.keys

-- and as it makes them: behind the keys there are zeros
abbrev pub held_order : List ℕ → Order
held_order ks = record { count = length ks; keys = ks ++ replicate (most_regions - length ks) 0 }

-- the indices below n of the entries of region k, last entry first, in a log with these keys
unfoldable pub last_first : ℕ → ℕ → List ℕ → List ℕ
last_first k zero ks = []
last_first k (suc n) ks = cond (eqb (get_or ks n 0) k) (n ∷ last_first k n ks) (last_first k n ks)

abbrev pub indices_of : List ℕ → ℕ → List ℕ
indices_of ks k = last_first k (length ks) ks

-- region by region in the order of the walk
unfoldable pub walk_indices : List ℕ → List ℕ → List ℕ
walk_indices [] ks = []
walk_indices (k ∷ rs) ks = indices_of ks k ++ walk_indices rs ks

-- number n of a list
unfoldable pub nth : List ℕ → ℕ → Option ℕ
nth [] n = None
nth (i ∷ is) zero = Some i
nth (i ∷ is) (suc n) = nth is n

-- log entry number n of the walk
abbrev pub entry_at : List ℕ → List Mark → ℕ → Option ℕ
entry_at rs ms n = nth (walk_indices rs (map (λ m. m.key) ms)) n
