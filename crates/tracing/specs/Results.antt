-- What an event of a file leaves, by the definitions.
use Rattle.std.specs.Prelude.{◌+◌, ℕ, ◌≡◌, Option, MatchOption, false, true, List, leb, length}
use Rattle.std.proofs.lemmas.List.Edits.{sets}
use Rattle.rules.specs.Step.{step}
use Rattle.rules.specs.declared.Board.{Board}
use Rattle.events.specs.Whole.{record_length}
use Rattle.tracing.specs.Text.{event_text, longest_text}
use Rattle.tracing.specs.declared.Traced.{Traced}

-- the buffer d has the bytes x from p on, and nothing else changed; p' is the place behind them
abbrev pub Put : List ℕ → List ℕ → ℕ → ℕ → List ℕ → Type 0
Put d d' p p' x = (d' ≡ sets d p x) × (p' ≡ p + length x)

-- an event on board b leaves board b', and its text in the buffer from `at` on; it finds room where the longest text would
pub record TracedEvent (b b' : Board) (bs d d' : List ℕ) (at : ℕ) (r : Traced) : Type 0 where
  pub room : leb (at + longest_text) (length d) ≡ true
  pub stands : b' ≡ (step b bs).board
  pub written : Put d d' at r.at (event_text b bs)
  pub passes : r.passed ≡ record_length bs

-- without room it is not made, and nothing is written
pub record NoRoom (b b' : Board) (d d' : List ℕ) (at : ℕ) : Type 0 where
  pub full : leb (at + longest_text) (length d) ≡ false
  pub stands : b' ≡ b
  pub written : d' ≡ d

abbrev pub Traces : Board → Board → List ℕ → List ℕ → List ℕ → ℕ → Option Traced → Type 0
Traces b b' bs d d' at r = MatchOption r (NoRoom b b' d d' at) (TracedEvent b b' bs d d' at)
