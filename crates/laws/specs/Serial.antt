-- Request 5, a line somebody is reading: "A write to a line that another thread's open region has read is now refused. From then on every accepted read of a
-- committed region gives the value it would see if the committed regions ran one after another in the order they ended." By the event list alone.
use Rattle.std.specs.Prelude.{ℕ, ◌≡◌, ◌≢◌, false, true, List, [], ◌++◌, ◌∷◌, get_or, Ok}
use Rattle.laws.specs.Laws.{Accepts, Always, value_after}
use Rattle.rules.specs.Claim.{board_after}
use Rattle.rules.specs.History.{Account, Change, accepted_in, applied, committed, effects, ends_in, read_in, region_in, writes_in}
use Rattle.rules.specs.Record.{read_record}
use Rattle.rules.specs.Refusal.{is_foreign_open, is_read_elsewhere, refusal}
use Rattle.rules.specs.Step.{step}
use Rattle.rules.specs.Tables.{Memory, line_of, owner_of, start_lines}
use Rattle.rules.specs.declared.Event.TheVariants.{Read, Write}
use Rattle.rules.specs.declared.Tables.{Tables}
use Rattle.serial.specs.Claim.{earlier}
use Rattle.undo.specs.Table.{is_in}

-- ---- "the value it would see if the committed regions ran one after another in the order they ended"

-- memory as region k finds it then: the starting memory with the writes of the committed regions that ended before it, then with those of its own among ws
abbrev pub in_turn : Memory → List (List ℕ) → ℕ → List Change → List (List ℕ)
in_turn m rs k ws = applied k ws (effects (committed m rs) (writes_in (accepted_in m rs)) (start_lines m) (earlier k (ends_in (accepted_in m rs))))

-- an accepted read anywhere in the list, behind the records `before`, by a region that has committed at the end of the list
abbrev pub ReadsInTurn : Memory → List (List ℕ) → Type 0
ReadsInTurn m rs = (before : List (List ℕ)) (r : List ℕ) (after : List (List ℕ)) (t l w : ℕ) → rs ≡ before ++ r ∷ after → Accepts m before r (Read t l w)
    → committed m rs (region_in t (accepted_in m before)) ≡ true
    → value_after m before r ≡ get_or (line_of l (in_turn m rs (region_in t (accepted_in m before)) (writes_in (accepted_in m before)))) w 0

-- ---- "A write to a line that another thread's open region has read"

-- a write of thread t to line l after the events es, answered with n: 25 comes only where the open region of another thread has read the line, and no write is
-- accepted where one has
pub record Guarded (es : List Account) (t l n : ℕ) : Type 0 where
  pub read : n ≡ 25 → (u : ℕ) × ((u ≢ t) × (read_in u l es ≡ true))
  pub alone : n ≡ 0 → (u : ℕ) → read_in u l es ≡ true → u ≡ t

-- "25, after 17 and before 18": the tests of a write behind 25
abbrev pub behind_it : List ℕ
behind_it = 18 ∷ 19 ∷ 20 ∷ 21 ∷ []

-- on any tables, where 17 refuses 25 does not, and where 25 refuses the tests behind it do not
pub record InOrder (ts : Tables) (t l n : ℕ) : Type 0 where
  pub behind : is_foreign_open t (owner_of l ts) ts ≡ true → n ≢ 25
  pub before : is_read_elsewhere t l ts ≡ true → is_in n behind_it ≡ false

pub record SerialReads : Type 0 where
  pub serial : Always ReadsInTurn
  pub guarded : Always (λ m rs. (r : List ℕ) (t l w mask v : ℕ) → read_record r ≡ Ok (Write t l w mask v)
      → Guarded (accepted_in m rs) t l (step (board_after m rs) r).answer.refusal)
  pub order : (ts : Tables) (t l w mask v : ℕ) → InOrder ts t l (refusal ts (Write t l w mask v))
