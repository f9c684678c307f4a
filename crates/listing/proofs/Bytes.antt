-- Bytes put into a room: of the elements of a list, of parts one behind the other.
use Rattle.std.proofs.Common.{◌≡◌, ℕ, ◌+◌, ◌<◌, ◌≤◌, Bool, List, [], ◌∷◌, length, get_or, drop, map, refl, sym}
use Rattle.listing.specs.Layout.{flag}
use Rattle.output.proofs.Rooms.{puts_cons, puts_join, puts_none}
use Rattle.output.specs.Room.{Room, puts}
use Rattle.rules.specs.Lists.{flat}
use Rattle.writing.proofs.Emit.{left_more, left_none}

-- one more element of a list
module _ {A : Type 0} (f : A → List ℕ) (r : Room) (xs : List A) (i : ℕ) where
  pub flat_next : (x : A) → i < length xs → x ≡ get_or xs i x → puts (puts r (f x)) (flat f (drop (i + 1) xs)) ≡ puts r (flat f (drop i xs))
  flat_next x h e = rw (left_more f xs i x h, ← e) (sym (puts_join r (f x) (flat f (drop (i + 1) xs))))

  pub flat_end : length xs ≤ i → puts r (flat f (drop i xs)) ≡ r
  flat_end h = rw (left_none f xs i h) (puts_none r)

pub ruleset elements = (flat_next, flat_end)

-- ---- parts one behind the other

-- a byte for each flag
pub flags : (r : Room) (bs : List Bool) → puts r (flat (λ b. flag b ∷ []) bs) ≡ puts r (map flag bs)
unfolding flat puts
flags r [] = refl
flags r (b ∷ bs) = flags (puts r (flag b ∷ [])) bs

pub ruleset parts = (puts_join, puts_cons, flags)
