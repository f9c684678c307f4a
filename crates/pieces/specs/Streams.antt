-- What is read and what goes out, where a reader's and a writer's bytes are known.
use Rattle.std.specs.Prelude.{ℕ, ◌≡◌, Bool, true, List, take, Option}
use Rattle.std.specs.Io.KnownBytes.{Appends, Consumes}

-- the bytes that a writer holds grow by some from the front of bs
abbrev pub AppendsFront : Option (List ℕ) → Option (List ℕ) → List ℕ → Type 0
AppendsFront old new bs = (k : ℕ) × Appends old new (take k bs)

-- what came was read, from i to i', and what was handed over went out, from o to o'; where not all of it did, a part from its front
pub record Streamed (i i' o o' : Option (List ℕ)) (came sent : List ℕ) (all : Bool) : Type 0 where
  pub reads : Consumes i i' came
  pub writes : all ≡ true → Appends o o' sent
  pub front : AppendsFront o o' sent
