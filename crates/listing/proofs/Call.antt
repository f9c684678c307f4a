-- All tables into a buffer: one that is too short, and one that has room.
use Rattle.std.proofs.Common.{◌∙◌, ◌≡◌, ℕ, ◌<◌, ◌≤◌, false, List, ◌++◌, length, drop, ap, arith}
use Rattle.std.proofs.lemmas.List.{take_all}
use borrow.Author.Tests.{le-leb, lt-leb}
use native.Mathlib.Nat.{zero-add}
use Rattle.listing.proofs.Lengths.{fixed}
use Rattle.listing.specs.Claim.{Long}
use Rattle.listing.specs.Layout.{tables_bytes, tables_into}
use Rattle.output.proofs.Rooms.{puts_filled}
use Rattle.output.specs.Room.{Room, filled, puts, room}
use Rattle.output.specs.declared.Cursor.{Cursor}
use Rattle.rules.specs.Run.{Wrote, wrote_into}
use Rattle.rules.specs.declared.Tables.{Tables}

module _ (ts : Tables) (long : Long ts) (d : List ℕ) where
  pub tables_short : length d < 5130 → ◌≡◌ {A = Wrote} (record { answer = record { refusal = 6; value = 0 }; buffer = d }) (tables_into ts d)
  unfolding tables_into wrote_into
  tables_short h = rw (lt-leb (length (tables_bytes ts)) (length d) (omega (arith, fixed ts long)))

  pub tables_whole : (d' : List ℕ) (c : Cursor) → room d' c ≡ puts (room d (record { at = 0; short = false })) (tables_bytes ts) → 5130 ≤ length d
      → ◌≡◌ {A = Wrote} (record { answer = record { refusal = 0; value = 5130 }; buffer = d' }) (tables_into ts d)
  unfolding tables_into wrote_into room filled
  tables_whole d' c e h =
      let l : length (tables_bytes ts) ≤ length d = omega (arith, fixed ts long) in
      let b : d' ≡ tables_bytes ts ++ drop (length (tables_bytes ts)) d = ap (λ (r : Room). r.buffer) (e ∙ puts_filled d (tables_bytes ts)) ∙ rw (take_all (length d) (tables_bytes ts) l) in
      rw (le-leb (length (tables_bytes ts)) (length d) l, zero-add, b, fixed ts long)
