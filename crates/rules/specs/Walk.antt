-- "Regions go newest first: one on which no remaining region depends, lowest thread first; in a region, last entry first."
use Rattle.std.specs.Prelude.{suc, zero, ℕ, Bool, false, not, true, List, [], ◌++◌, ◌∷◌, reverse, eqb, ltb, drop, get_or, length, take}
use Rattle.rules.specs.Image.{Logged, Persistent, no_listed}
use Rattle.rules.specs.Lists.{place}
use Rattle.rules.specs.declared.Listed.{Listed}
use Rattle.undo.specs.Table.{any, keep}

-- some region of the list depends on region k
abbrev pub is_needed : List Listed → ℕ → Bool
is_needed rs k = any (λ r. any (eqb k) r.deps) rs

-- the index of the next region of those that remain: the list rises by thread
unfoldable pub next_place : List Listed → ℕ
next_place rs = place (λ r. not (is_needed rs r.key)) rs

-- the list without the element at i
unfoldable pub without : {A : Type 0} → ℕ → List A → List A
without i xs = take i xs ++ drop (suc i) xs

-- the keys of the regions in the order of the walk, at most n; "a listed region without entries goes in its turn too"
unfoldable pub walk_from : ℕ → List Listed → List ℕ
walk_from zero rs = []
walk_from (suc n) rs =
    elim (ltb (next_place rs) (length rs)) [
      | false ↦ []
      | true ↦ (get_or rs (next_place rs) no_listed).key ∷ walk_from n (without (next_place rs) rs)
    ]

unfoldable pub walk : Persistent → List ℕ
walk p = walk_from (length p.regions) p.regions

-- the entries of region k, last entry first
unfoldable pub entries_of : List Logged → ℕ → List Logged
entries_of es k = reverse (keep (λ e. eqb e.key k) es)

unfoldable pub entries_from : List Logged → List ℕ → List Logged
entries_from es [] = []
entries_from es (k ∷ ks) = entries_of es k ++ entries_from es ks

-- the log entries in the order in which they are restored
unfoldable pub walk_entries : Persistent → List Logged
walk_entries p = entries_from p.log (walk p)
