-- Event calls in a chain, each on the board that the last one left, and what is promised of them.
use Rattle.std.specs.Prelude.{ℕ, ◌≡◌, Bool, true, List, [], ◌∷◌}
use Rattle.rules.specs.Claim.{Holds, board_after, is_byte, is_byte_memory}
use Rattle.rules.specs.History.{accepted_in, has_cut}
use Rattle.rules.specs.Lists.{all}
use Rattle.rules.specs.Recovery.{Act}
use Rattle.rules.specs.Step.{Stepped, step}
use Rattle.rules.specs.Tables.{Memory, fresh}
use Rattle.rules.specs.declared.Board.{Board}
use Rattle.rules.specs.declared.Answer.{Answer}
use Rattle.torn.specs.Torn.{TornAct, TornHolds}

-- calls from board b to board c with their answers; the equation is the contract of `engine::event`
pub data Calls : Board → List (List ℕ) → Board → List Answer → Type 0 where
  stop : {b : Board} → Calls b [] b []
  call : {b d c : Board} {r : List ℕ} {rs : List (List ℕ)} {a : Answer} {as' : List Answer}
      → ◌≡◌ {A = Stepped} (record { board = d; answer = a }) (step b r) → Calls d rs c as' → Calls b (r ∷ rs) c (a ∷ as')

-- demand 3, of the board that the calls returned; with request 10 for every choice of words at the cut and inside steps
abbrev pub CallsRecover : Type 0
CallsRecover = (m : Memory) (rs : List (List ℕ)) (b : Board) (as' : List Answer) (ss : List Act) (p : ℕ → ℕ → Bool) (ts : List TornAct) → Calls (fresh m) rs b as'
    → is_byte_memory m ≡ true → all (all is_byte) rs ≡ true → has_cut (accepted_in m rs) ≡ true
    → (b ≡ board_after m rs) × (Holds m rs ss × TornHolds m rs p ts)
