-- The kinds and their numbers, and what the record reader's answer means: "a definition gives this paper's number for each of its cases".
use Rattle.std.specs.Prelude.{ℕ, ◌≡◌, Err, MatchResult, Ok, Result, false, true}
use Rattle.events.specs.declared.Kind.{Kind}
use Rattle.events.specs.declared.Kind.TheVariants.{Begin, Cut, DataAck, End, Fence, LogAck, Read, Setup, Write, WriteBytes}
use Rattle.rules.specs.Codes.{code}
use Rattle.rules.specs.Kinds.{is_kind}
use Rattle.rules.specs.Record.{Reading}
use Rattle.rules.specs.declared.Event.{Event}
use Rattle.rules.specs.declared.Refusal.{Refusal}
use Rattle.rules.specs.declared.Refusal.TheVariants.{UnknownKind}

abbrev pub number_of : Kind → ℕ
number_of Setup = 0
number_of Begin = 1
number_of End = 2
number_of Read = 3
number_of Write = 4
number_of LogAck = 5
number_of DataAck = 6
number_of Fence = 7
number_of Cut = 8
number_of WriteBytes = 10

-- the result is the kind of this number, or the refusal of a number that no kind has
abbrev pub Known : ℕ → Result Kind Refusal → Type 0
Known n r = MatchResult r (λ k. (number_of k ≡ n) × (is_kind n ≡ true)) (λ e. (e ≡ UnknownKind) × (is_kind n ≡ false))

-- the answer with its refusal by number
abbrev pub by_number : Result Event Refusal → Reading
by_number (Ok e) = Ok e
by_number (Err r) = Err (code r)
