-- "Recovery works inside the lent image. Each step restores one log entry to its line."
use Rattle.std.specs.Prelude.{◌*◌, ◌+◌, ℕ, Bool, ◌&&◌, cond, List, [], ◌∷◌, eqb, drop, length}
use Rattle.rules.specs.Bytes.{bytes_of, line_bytes, num_of, paste}
use Rattle.rules.specs.Image.{Logged, Persistent}
use Rattle.rules.specs.Reader.{Reads, Refuses, Verdict, read_image}
use Rattle.rules.specs.Walk.{walk_entries}
use Rattle.rules.specs.declared.Answer.{Answer}

-- the image and the walk's own place
pub record Recovering : Type 0 where
  pub bytes : List ℕ
  pub at : ℕ

pub record Restored : Type 0 where
  pub after : Recovering
  pub answer : Answer

-- where the 64 bytes of line l stand in an image: behind the head, each behind its kind
abbrev pub line_start : ℕ → ℕ
line_start l = 4 + (65 * l + 1)

-- what is put back where: the entry to its line
abbrev pub put_back : Logged → List ℕ → List ℕ
put_back e bs = paste bs (line_start e.line) (line_bytes e.old)

abbrev pub answered : ℕ → ℕ → Answer
answered n v = record { refusal = n; value = v }

-- 'finished': accepted, with the value 0
abbrev pub is_finished : Answer → Bool
is_finished a = eqb a.refusal 0 && eqb a.value 0

-- "It answers 'more' (value 1) while entries remain after it, else 'finished' (value 0); with none left, or a place past the last, it changes nothing"
unfoldable pub restore_by : List Logged → Recovering → Restored
restore_by [] r = record { after = r; answer = answered 0 0 }
restore_by (e ∷ es) r =
    record { after = record { bytes = put_back e r.bytes; at = r.at + 1 }; answer = answered 0 (cond (eqb (length es) 0) 0 1) }

abbrev pub restore_read : Verdict Persistent → Recovering → Restored
restore_read (Refuses n) r = record { after = r; answer = answered n 0 }
restore_read (Reads p) r = restore_by (drop r.at (walk_entries p)) r

-- a recovery step on image bytes of any content
unfoldable pub restore : Recovering → Restored
restore r = restore_read (read_image r.bytes) r

-- ---- "a list of recovery steps and cuts"; "a cut sets the place to 0 and keeps the image"

pub data Act : Type 0 where
  Restore : Act
  PowerCut : Act

unfoldable pub act : Recovering → Act → Recovering
act r Restore = (restore r).after
act r PowerCut = record { bytes = r.bytes; at = 0 }

unfoldable pub acts : Recovering → List Act → Recovering
acts r [] = r
acts r (a ∷ as') = acts (act r a) as'

-- ---- the call: the place in eight lent bytes, little-endian

pub record RecoveryCall : Type 0 where
  pub answer : Answer
  pub image : List ℕ
  pub place : List ℕ

abbrev pub called_by : Restored → RecoveryCall
called_by s = record { answer = s.answer; image = s.after.bytes; place = bytes_of 8 s.after.at }

-- "a place not of eight bytes gives 6 before any other check, with nothing written"
unfoldable pub recovery_call : List ℕ → List ℕ → RecoveryCall
recovery_call bs at =
    cond (eqb (length at) 8) (called_by (restore (record { bytes = bs; at = num_of at })))
    (record { answer = answered 6 0; image = bs; place = at })
