-- Turns so far, while a loop counts them.
use Prim.Native.Nat.{◌+◌, ℕ}
use mathlib.Core.Path.{◌≡◌}
use mathlib.Core.Bool.{Bool, false, true}
use mathlib.Core.List.{List, [], ◌++◌}
use Rattle.std.specs.Prelude.{◌⊎◌, Option}
use native.Mathlib.Numerals.{add-one}
use Rattle.pieces.proofs.Flow.{streamed_more, streamed_none}
use Rattle.pieces.specs.Chain.{Chain, ChainedOver, TurnedOver, most_turns, stop, turn}
use Rattle.pieces.specs.Streams.{Streamed}

-- from a reader to a writer: n turns so far
pub record GoneOver {S : Type 0} (goes_on : S → Bool) (Turn : S → S → List ℕ → List ℕ → Type 0) (s r : S) (i i' o o' : Option (List ℕ)) (all : Bool) (n : ℕ) : Type 0 where
  pub came : List ℕ
  pub sent : List ℕ
  pub run : Chain goes_on Turn s n came sent r
  pub streamed : Streamed i i' o o' came sent all

module _ {S : Type 0} {goes_on : S → Bool} {Turn : S → S → List ℕ → List ℕ → Type 0} {s : S} where
  pub gone_none : (i o : Option (List ℕ)) (all : Bool) → GoneOver goes_on Turn s s i i o o all 0
  gone_none i o all = record { came = []; sent = []; run = stop; streamed = streamed_none i o all }

  pub gone_more : {r t : S} {i i₁ i₂ o o₁ o₂ : Option (List ℕ)} {before all : Bool} {n : ℕ} → GoneOver goes_on Turn s r i i₁ o o₁ before n → goes_on r ≡ true → before ≡ true
      → TurnedOver Turn r t i₁ i₂ o₁ o₂ all → GoneOver goes_on Turn s t i i₂ o o₂ all (n + 1)
  gone_more {n = n} g e b t =
      rw (add-one n)
      (record {
        came = g.came ++ t.came;
        sent = g.sent ++ t.sent;
        run = turn g.run e t.turn;
        streamed = streamed_more _ _ _ _ _ _ g.came g.sent t.came t.sent _ _ g.streamed b t.streamed;
      })

  pub gone_all : {r : S} {i i' o o' : Option (List ℕ)} {all : Bool} {n : ℕ} → GoneOver goes_on Turn s r i i' o o' all n → (goes_on r ≡ false) ⊎ (n ≡ most_turns)
      → ChainedOver goes_on Turn s r i i' o o' all
  gone_all g e = record { run = record { turns = _; came = g.came; sent = g.sent; run = g.run; ends = e }; streamed = g.streamed }

-- ---- turns of a state are turns of what is seen of it

module _ {S T : Type 0} {goes_on : T → Bool} {Turn : T → T → List ℕ → List ℕ → Type 0} (f : S → T) where
  pub seen : {s r : S} {n : ℕ} {came sent : List ℕ} → Chain (λ a. goes_on (f a)) (λ a b. Turn (f a) (f b)) s n came sent r → Chain goes_on Turn (f s) n came sent (f r)
  seen stop = stop
  seen (turn c e t) = turn (seen c) e t

  pub seen_over : {s r : S} {i i' o o' : Option (List ℕ)} {all : Bool} → ChainedOver (λ a. goes_on (f a)) (λ a b. Turn (f a) (f b)) s r i i' o o' all
      → ChainedOver goes_on Turn (f s) (f r) i i' o o' all
  seen_over c = record { run = record { turns = c.run.turns; came = c.run.came; sent = c.run.sent; run = seen c.run.run; ends = c.run.ends }; streamed = c.streamed }
