-- The recovery step by what it finds: nothing to restore, or an entry.
use Prim.Native.Nat.{◌+◌, ◌<◌, ◌≤◌, ℕ}
use Rattle.std.specs.Prelude.{None, Option, Some, Result, Ok, Err}
use mathlib.Core.Path.{◌∙◌, ◌≡◌, ap, refl}
use mathlib.Core.Bool.{Bool, false, true, true≢false}
use lib.Dec.{eqb}
use mathlib.Core.List.{List, [], ◌∷◌}
use lib.ListN.{drop, length, length-drop}
use native.Mathlib.Omega.{arith}
use Rattle.headed.specs.Reader.{read_as}
use Rattle.headed.specs.Recovery.{restore_as}
use Rattle.reading.proofs.Walk.{read_laid}
use Rattle.recovery.proofs.Accepted.{read_records}
use Rattle.recovery.proofs.Places.{accepted_image, line_inside}
use Rattle.recovery.proofs.Leaves.{walk_few}
use Rattle.reading.specs.Scan.{by_number}
use Rattle.recovery.specs.Places.{entry_read, entry_told, next_of, stepped_by}
use Rattle.recovery.specs.declared.Next.{Next}
use Rattle.rules.specs.Codes as codes
use Rattle.rules.specs.declared.Answer.{Answer}
use Rattle.rules.specs.declared.Refusal.{Refusal}
use Rattle.undo.proofs.Laws.{test}
use Rattle.rules.proofs.Recover.Steps.{fits_left}
use Rattle.rules.specs.Claim.{is_byte}
use Rattle.rules.specs.Image.{Logged, Persistent}
use Rattle.rules.specs.Lists.{all}
use Rattle.rules.specs.Reader.{Reads, Refuses, Verdict}
use Rattle.rules.specs.Recovery.{Recovering, answered, line_start, restore_by}
use Rattle.rules.specs.Walk.{walk_entries}

-- the image is refused, or nothing is left at the place, or an entry is left there
pub data Finds (v : Verdict Persistent) (at : ℕ) : Type 0 where
  refused : (n : ℕ) → v ≡ Refuses n → Finds v at
  past : (p : Persistent) → v ≡ Reads p → drop at (walk_entries p) ≡ [] → Finds v at
  entry : (p : Persistent) (x : Logged) (xs : List Logged) → v ≡ Reads p → drop at (walk_entries p) ≡ x ∷ xs → Finds v at

pub finds : (v : Verdict Persistent) (at : ℕ) → Finds v at
finds (Refuses n) at = refused n refl
finds (Reads p) at = go (drop at (walk_entries p)) refl
  where
    go : (es : List Logged) → drop at (walk_entries p) ≡ es → Finds (Reads p) at
    go [] k = past p refl k
    go (x ∷ es) k = entry p x es refl k

-- ---- outcomes by their numbers

abbrev answer_of : Result ℕ ℕ → Answer
answer_of (Ok v) = answered 0 v
answer_of (Err n) = answered n 0

by_its_number : (r : Result ℕ Refusal) → codes.answered r ≡ answer_of (by_number r)
by_its_number (Ok v) = refl
by_its_number (Err x) = refl

value_told : (v : Verdict Persistent) (at : ℕ) → answer_of (entry_told (next_of v at)) ≡ entry_read v at
value_told v at = go (finds v at)
  where
    go : Finds v at → answer_of (entry_told (next_of v at)) ≡ entry_read v at
    go (refused n q) = rw q
    go (past p q k) = rw (q, k)
    go (entry p x xs q k) = rw (q, k)

-- the call that tells of an entry, by what a step finds
pub told_call : (v : Verdict Persistent) (at : ℕ) (r : Result ℕ Refusal) → by_number r ≡ entry_told (next_of v at) → codes.answered r ≡ entry_read v at
told_call v at r e = by_its_number r ∙ (ap answer_of e ∙ value_told v at)

-- whether an entry is found, and which
abbrev is_entry : Result (Option Next) ℕ → Bool
is_entry (Err n) = false
is_entry (Ok None) = false
is_entry (Ok (Some e)) = true

abbrev entry_or : Next → Result (Option Next) ℕ → Next
entry_or d (Err n) = d
entry_or d (Ok None) = d
entry_or d (Ok (Some e)) = e

module _ (headed : Bool) (bs : List ℕ) (at : ℕ) where
  abbrev there : Recovering
  there = record { bytes = bs; at = at }

  pub step_is : stepped_by (next_of (read_as headed bs) at) bs at ≡ restore_as headed there
  unfolding restore_as restore_by
  step_is = go (finds (read_as headed bs) at)
    where
      go : Finds (read_as headed bs) at → stepped_by (next_of (read_as headed bs) at) bs at ≡ restore_as headed there
      go (refused n q) = rw q
      go (past p q k) = rw (q, k)
      go (entry p x xs q k) = rw (q, k) (test (eqb (length xs) 0) (λ z. rw z) (λ z. rw z))

  -- ---- an entry that is found

  module _ (bytes : all is_byte bs ≡ true) (e : Next) (f : Ok (Some e) ≡ next_of (read_as headed bs) at) where
    -- its place is below 8192
    pub next_soon : at < 8192
    next_soon = go (finds (read_as headed bs) at)
      where
        go : Finds (read_as headed bs) at → at < 8192
        go (refused n q) = absurd (true≢false (rw q at (ap is_entry f)))
        go (past p q k) = absurd (true≢false (rw (q, k) at (ap is_entry f)))
        go (entry p x xs q k) = omega (arith, length-drop at (walk_entries p), ap length k, walk_few p (read_laid headed bs p (read_records headed bs p q)).few)

    -- its line is inside the image
    pub next_room : line_start e.line + 64 ≤ length bs
    next_room = go (finds (read_as headed bs) at)
      where
        go : Finds (read_as headed bs) at → line_start e.line + 64 ≤ length bs
        go (refused n q) = absurd (true≢false (rw q at (ap is_entry f)))
        go (past p q k) = absurd (true≢false (rw (q, k) at (ap is_entry f)))
        go (entry p x xs q k) =
            let i = accepted_image headed bs p bytes (read_records headed bs p q) in
            let same : e.line ≡ x.line = ap (λ (z : Next). z.line) (rw (q, k) at (ap (entry_or e) f)) in
            rw same (line_inside i x.line (fits_left p i.valid at k).0)
