-- The turns of a loop, one after the other, over any state S: by where a turn follows, and by what a turn from one state to the next takes in and hands over.
use Rattle.std.specs.Prelude.{suc, ℕ, ◌≡◌, Bool, false, true, List, [], ◌++◌, ◌⊎◌, Option}
use Rattle.pieces.specs.Streams.{Streamed}

-- a proved loop has to end, and nothing says that the input does: a loop counts its turns up to here
abbrev pub most_turns : ℕ
most_turns = 18446744073709551615

-- n turns from s on: the bytes that came with them, the bytes that were handed over to be written, and what stands then
pub data Chain {S : Type 0} (goes_on : S → Bool) (Turn : S → S → List ℕ → List ℕ → Type 0) (s : S) : ℕ → List ℕ → List ℕ → S → Type 0 where
  stop : Chain goes_on Turn s 0 [] [] s
  turn : {n : ℕ} {came sent new out : List ℕ} {t r : S} → Chain goes_on Turn s n came sent t → goes_on t ≡ true → Turn t r new out
      → Chain goes_on Turn s (suc n) (came ++ new) (sent ++ out) r

-- all turns: they end where none follows (or after as many as a loop counts)
pub record Chained {S : Type 0} (goes_on : S → Bool) (Turn : S → S → List ℕ → List ℕ → Type 0) (s r : S) : Type 0 where
  pub turns : ℕ
  pub came : List ℕ
  pub sent : List ℕ
  pub run : Chain goes_on Turn s turns came sent r
  pub ends : (goes_on r ≡ false) ⊎ (turns ≡ most_turns)

-- a turn from a reader to a writer: what came with it was read, and what was handed over went out
pub record TurnedOver {S : Type 0} (Turn : S → S → List ℕ → List ℕ → Type 0) (s r : S) (i i' o o' : Option (List ℕ)) (all : Bool) : Type 0 where
  pub came : List ℕ
  pub sent : List ℕ
  pub turn : Turn s r came sent
  pub streamed : Streamed i i' o o' came sent all

-- all turns from a reader to a writer
pub record ChainedOver {S : Type 0} (goes_on : S → Bool) (Turn : S → S → List ℕ → List ℕ → Type 0) (s r : S) (i i' o o' : Option (List ℕ)) (all : Bool) : Type 0 where
  pub run : Chained goes_on Turn s r
  pub streamed : Streamed i i' o o' run.came run.sent all
