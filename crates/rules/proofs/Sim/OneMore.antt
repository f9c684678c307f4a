-- What one entry more says of a thread's depth, regions and reads, where the rest of the list stays as it is.
use Prim.Native.Nat.{◌+◌, ◌-◌, ℕ}
use mathlib.Core.Path.{◌≡◌, refl}
use mathlib.Core.Bool.{◌&&◌, ◌||◌, cond}
use mathlib.Core.List.{List, ◌∷◌}
use lib.Dec.{eqb}
use Rattle.rules.specs.History.{Account, Closes, Opens, Uses, depth_in, has_read_in, opened_in, region_in}

module _ (t j : ℕ) (es : List Account) where
  pub depth_opens : depth_in j (Opens t ∷ es) ≡ cond (eqb t j) (depth_in j es + 1) (depth_in j es)
  unfolding depth_in
  depth_opens = refl

  pub depth_closes : depth_in j (Closes t ∷ es) ≡ cond (eqb t j) (depth_in j es - 1) (depth_in j es)
  unfolding depth_in
  depth_closes = refl

  pub opened_opens : opened_in j (Opens t ∷ es) ≡ cond (eqb t j && eqb (depth_in j es) 0) (opened_in j es + 1) (opened_in j es)
  unfolding opened_in
  opened_opens = refl

  pub opened_closes : opened_in j (Closes t ∷ es) ≡ opened_in j es
  unfolding opened_in
  opened_closes = refl

module _ (t k l : ℕ) (es : List Account) where
  pub read_opens : has_read_in k l (Opens t ∷ es) ≡ has_read_in k l es
  unfolding has_read_in
  read_opens = refl

  pub read_closes : has_read_in k l (Closes t ∷ es) ≡ has_read_in k l es
  unfolding has_read_in
  read_closes = refl

  pub read_uses : (x : ℕ) → has_read_in k l (Uses t x ∷ es) ≡ ((eqb (region_in t es) k && eqb x l) || has_read_in k l es)
  unfolding has_read_in
  read_uses x = refl

module _ (t x j : ℕ) (es : List Account) where
  pub depth_uses : depth_in j (Uses t x ∷ es) ≡ depth_in j es
  unfolding depth_in
  depth_uses = refl

  pub opened_uses : opened_in j (Uses t x ∷ es) ≡ opened_in j es
  unfolding opened_in
  opened_uses = refl
