-- What was read of an image, out of the tables that hold it.
use Rattle.std.specs.Prelude.{Result, Ok, Err, is_ok}
use lib.Seq.{take_all}
use mathlib.Core.Bool.{false≢true}
use Prim.Native.Nat.{◌≤◌, ℕ}
use mathlib.Core.Path.{◌∙◌, ◌≡◌, ap, refl, sym}
use mathlib.Core.Bool.{Bool, false, true}
use mathlib.Core.List.{List}
use lib.ListN.{length, take}
use Rattle.judging.proofs.Judged.{contradicts_marks}
use Rattle.judging.specs.Marks.{contradicts_in}
use Rattle.headed.specs.Reader.{read_as, records_read_as}
use Rattle.reading.proofs.Spots.{length_marks}
use Rattle.reading.proofs.Walk.{read_laid, take_filled}
use Rattle.reading.specs.Scan.{free_listed, log_of, olds_of, read_of, regions_of, scan_of}
use Rattle.reading.specs.declared.Scan.{Scan}
use Rattle.rules.proofs.Codec.Image.{accepted}
use Rattle.rules.proofs.Codec.Records.{read_or}
use Rattle.rules.specs.Contradiction.{contradicts}
use Rattle.rules.specs.Image.{Persistent}
use Rattle.rules.specs.Marks.{marks_of, no_mark}
use Rattle.rules.specs.Reader.{Reads, Refuses, Verdict, nothing}

-- what was read; nothing where it was refused
abbrev pub state_read : Verdict Persistent → Persistent
state_read v = read_or nothing v

ok_err : (r : Result Scan ℕ) (s : Scan) (n : ℕ) → r ≡ Ok s → r ≡ Err n → ⊥
ok_err r s n e f = false≢true (ap is_ok (sym f ∙ e))

scan_or : Scan → Result Scan ℕ → Scan
scan_or d (Ok s) = s
scan_or d (Err n) = d

number_or : ℕ → Result Scan ℕ → ℕ
number_or d (Ok s) = d
number_or d (Err n) = n

-- a reading without a refusal, and its tables
pub reads_plain : (bs : List ℕ) (v : Verdict Persistent) (s : Scan) → Ok s ≡ read_of bs v → (v ≡ Reads (state_read v)) × (s ≡ scan_of (olds_of bs (state_read v)) (state_read v))
unfolding scan_or
reads_plain bs (Refuses n) s e = absurd (ok_err (Err n) s n (sym e) refl)
reads_plain bs (Reads p) s e = (refl, ap (scan_or s) e)

pub refuses_plain : (bs : List ℕ) (v : Verdict Persistent) (n : ℕ) → Err n ≡ read_of bs v → v ≡ Refuses n
unfolding number_or
refuses_plain bs (Refuses m) n e = ap Refuses (sym (ap (number_or 0) e))
refuses_plain bs (Reads p) n e = absurd (ok_err (read_of bs (Reads p)) (scan_of (olds_of bs p) p) n refl (sym e))

-- an image that is accepted has accepted records
pub read_records : (headed : Bool) (bs : List ℕ) (p : Persistent) → read_as headed bs ≡ Reads p → records_read_as headed bs ≡ Reads p
unfolding read_as
read_records headed bs p e = (accepted (records_read_as headed bs) p e).0

-- ---- the tables of what was read

module _ (ps : List ℕ) (s : Scan) (p : Persistent) (e : s ≡ scan_of ps p) (few : (length p.regions ≤ 32) × (length p.log ≤ 256)) where
  pub regions_front : regions_of s ≡ p.regions
  unfolding scan_of
  regions_front = rw e (take_filled 32 free_listed p.regions few.0)

  pub log_front : log_of s ≡ marks_of ps p.log
  unfolding scan_of
  log_front =
      let l = length_marks ps p.log in
      rw (e, ← l) (take_filled 256 no_mark (marks_of ps p.log) (rw l few.1))

  -- they are all that count
  pub regions_all : take 32 (regions_of s) ≡ regions_of s
  regions_all = rw regions_front (take_all 32 p.regions few.0)

-- ---- the reading, 8 after all others

module _ (headed : Bool) (bs : List ℕ) where
  pub read_refused : (n : ℕ) → Err n ≡ read_of bs (records_read_as headed bs) → Err n ≡ read_of bs (read_as headed bs)
  unfolding read_as
  read_refused n e = let q = refuses_plain bs (records_read_as headed bs) n e in rw q

  module _ (s : Scan) (e : Ok s ≡ read_of bs (records_read_as headed bs)) where
    abbrev state : Persistent
    state = state_read (records_read_as headed bs)

    state_reads : records_read_as headed bs ≡ Reads state
    state_reads = (reads_plain bs (records_read_as headed bs) s e).0

    state_few : (length state.regions ≤ 32) × (length state.log ≤ 256)
    state_few = (read_laid headed bs state state_reads).few

    scan_is : s ≡ scan_of (olds_of bs state) state
    scan_is = (reads_plain bs (records_read_as headed bs) s e).1

    tables_judged : contradicts_in (take 32 (regions_of s)) (log_of s) ≡ contradicts state
    tables_judged =
        rw (regions_all (olds_of bs state) s state scan_is state_few, regions_front (olds_of bs state) s state scan_is state_few, log_front (olds_of bs state) s state scan_is state_few)
        (contradicts_marks state (olds_of bs state))

    pub read_contradicted : contradicts_in (take 32 (regions_of s)) (log_of s) ≡ true → Err 8 ≡ read_of bs (read_as headed bs)
    unfolding read_as
    read_contradicted c = let d : contradicts state ≡ true = sym tables_judged ∙ c in rw (state_reads, d)

    pub read_accepted : contradicts_in (take 32 (regions_of s)) (log_of s) ≡ false → Ok s ≡ read_of bs (read_as headed bs)
    unfolding read_as
    read_accepted c = let d : contradicts state ≡ false = sym tables_judged ∙ c in rw (state_reads, d, ← scan_is)
