-- What the call that tells of a log entry says of a recovery step at the same place, on any bytes.
use Rattle.std.specs.Prelude.{◌%◌, ◌+◌, ◌/◌, ◌<◌, ℕ, ◌≡◌, ◌≢◌, true, List, get_or, length}
use Rattle.headed.specs.Reader.{read_as}
use Rattle.headed.specs.Recovery.{restore_as}
use Rattle.recovery.specs.Places.{entry_call}
use Rattle.rules.specs.Image.{Persistent, no_logged}
use Rattle.rules.specs.Reader.{Reads}
use Rattle.rules.specs.Recovery.{Recovering, Restored, put_back}

abbrev pub standing : List ℕ → ℕ → Recovering
standing bs at = record { bytes = bs; at = at }

-- a step over an image of either form
abbrev pub stepped : List ℕ → ℕ → Restored
stepped bs at = restore_as true (standing bs at)

-- the image's log holds an entry with the key and the line that the value v tells; the step puts it back, and its place goes on by one
pub record PutsBack (bs : List ℕ) (at v : ℕ) : Type 0 where
  pub held : Persistent
  pub read : read_as true bs ≡ Reads held
  pub index : ℕ
  pub inside : index < length held.log
  pub key : v / 256 ≡ (get_or held.log index no_logged).key
  pub line : v % 256 ≡ (get_or held.log index no_logged).line
  pub after : (stepped bs at).after ≡ standing (put_back (get_or held.log index no_logged) bs) (at + 1)

-- what the call tells of a step at the same place
pub record Told (bs : List ℕ) (at : ℕ) : Type 0 where
  pub refused : (entry_call bs at).refusal ≡ (stepped bs at).answer.refusal
  -- 0: the step changes nothing, and its place stays
  pub none : (entry_call bs at).value ≡ 0 → (stepped bs at).after ≡ standing bs at
  -- else: the step puts back the entry that the value tells
  pub some : (entry_call bs at).value ≢ 0 → PutsBack bs at (entry_call bs at).value

unfoldable pub EntriesTold : Type 0
EntriesTold = (bs : List ℕ) (at : ℕ) → Told bs at
