-- The last writer of a line, where it is a region of the thread that asks: it is not another thread's.
use Prim.Native.Nat.{◌/◌, ℕ}
use mathlib.Core.Path.{◌≡◌, refl}
use mathlib.Core.Bool.{Bool, and-false, cond, false, not, true}
use lib.Dec.{eqb}
use Rattle.std.proofs.lemmas.Bool.{eq-eqb}
use lib.ListN.{get_or}
use Rattle.rules.specs.Refusal.{is_foreign_open}
use Rattle.rules.specs.Tables.{listed, owner_of, thread_of}
use Rattle.rules.specs.declared.Tables.{Tables}

own_listed : (b : Bool) (o t : ℕ) (ts : Tables) → thread_of o ≡ t → false ≡ is_foreign_open t (cond b o 0) ts
own_listed false o t ts e = refl
own_listed true o t ts e = rw (eq-eqb (o / 65536) t e, and-false (not (eqb o 0)))

pub own : (t l : ℕ) (ts : Tables) → thread_of (get_or ts.owner l 0) ≡ t → false ≡ is_foreign_open t (owner_of l ts) ts
unfolding owner_of
own t l ts e = own_listed (listed (get_or ts.owner l 0) ts.regions) (get_or ts.owner l 0) t ts e
