-- The image is the only one: accepted bytes are the image of what they read back to, and that fits.
use Prim.Native.Nat.{ℕ}
use mathlib.Core.Path.{◌≡◌, ap}
use mathlib.Core.Bool.{false, true}
use mathlib.Core.List.{List}
use Rattle.rules.proofs.Codec.Only.{records_only}
use Rattle.rules.proofs.Codec.Records.{not_reads, read_or}
use Rattle.rules.proofs.Codec.Valid.{Valid}
use Rattle.rules.specs.Claim.{OnlyImage, is_byte}
use Rattle.rules.specs.Contradiction.{contradicts}
use Rattle.rules.specs.Image.{Persistent}
use Rattle.rules.specs.Lists.{all}
use Rattle.rules.specs.Reader.{Reads, Refuses, Verdict, nothing, read_image, records_read, unless_contradicted}
use Rattle.undo.proofs.Laws.{test}

pub accepted : (v : Verdict Persistent) (p : Persistent) → unless_contradicted v ≡ Reads p → (v ≡ Reads p) × (contradicts p ≡ false)
accepted (Refuses n) p e = not_reads e
accepted (Reads q) p e =
    test (contradicts q) (λ c. not_reads (rw c at e))
    (λ c. let s : Reads q ≡ Reads p = rw c at e in (s, rw (ap (read_or q) s) at c))

pub read_records : (bs : List ℕ) (p : Persistent) → read_image bs ≡ Reads p → (records_read nothing 0 bs ≡ Reads p) × (contradicts p ≡ false)
unfolding read_image
read_records bs p e = accepted (records_read nothing 0 bs) p e

pub only_image : OnlyImage
only_image bs p y e = (records_only bs p y (read_records bs p e).0).same

pub read_valid : (bs : List ℕ) (p : Persistent) → all is_byte bs ≡ true → read_image bs ≡ Reads p → Valid p
read_valid bs p y e = (records_only bs p y (read_records bs p e).0).valid
