-- What is promised of the bytes of a new image, and of the reader of both forms. The proofs stand in proofs/.
use Rattle.std.specs.Prelude.{◌≤◌, ℕ, ◌≡◌, ◌≢◌, ◌⊎◌, Bool, ◌||◌, false, not, true, List, [], ◌++◌, ◌∷◌, eqb, length}
use Rattle.headed.specs.Image.{encode_headed, image_headed, log_records}
use Rattle.headed.specs.Reader.{is_header, read_as, read_headed}
use Rattle.rules.specs.Claim.{board_after, is_byte, is_byte_memory}
use Rattle.rules.specs.History.{accepted_in, has_cut}
use Rattle.rules.specs.Image.{Logged, Persistent, encode, saved}
use Rattle.rules.specs.Lists.{all}
use Rattle.rules.specs.Reader.{Reads, Refuses, read_image}
use Rattle.rules.specs.Tables.{Memory}
use Rattle.undo.specs.Table.{any}

-- ---- the records of a log: "1 to 7 entries of one region", "All records of a region but its last hold seven"

-- the entries of records
abbrev pub held : List (List Logged) → List Logged
held [] = []
held (g ∷ gs) = g ++ held gs

abbrev pub is_of : ℕ → Logged → Bool
is_of k e = eqb e.key k

-- behind a record of region k, whose first entry has n others beside it: the record is full, or what follows is of another region
abbrev pub is_apart : ℕ → ℕ → List Logged → Bool
is_apart k n [] = true
is_apart k n (e ∷ es) = eqb n 6 || not (eqb e.key k)

pub data Grouped : List (List Logged) → Type 0 where
  none : Grouped []
  group : (e : Logged) (es : List Logged) (gs : List (List Logged)) → length es ≤ 6 → all (is_of e.key) es ≡ true
      → is_apart e.key (length es) (held gs) ≡ true → Grouped gs → Grouped ((e ∷ es) ∷ gs)

-- ---- the promises

-- of a state that some bytes are read as: "A state has a single old image and a single new one"
pub record BothForms (p : Persistent) : Type 0 where
  -- the old reader takes its old image and refuses its new one by 2, if that holds entries; else the two are the same bytes
  pub old : read_image (encode p) ≡ Reads p
  pub stops : p.log ≢ [] → read_image (encode_headed p) ≡ Refuses 2
  pub same : p.log ≡ [] → encode_headed p ≡ encode p
  -- the new reader takes both
  pub takes_old : read_headed (encode p) ≡ Reads p
  pub takes_new : read_headed (encode_headed p) ≡ Reads p

pub record HeadedImages : Type 0 where
  -- the new image of every board after a cut reads back to the same persistent state, and so does the old one
  pub back : (m : Memory) (rs : List (List ℕ)) → is_byte_memory m ≡ true → all (all is_byte) rs ≡ true → has_cut (accepted_in m rs) ≡ true
      → (read_headed (image_headed (board_after m rs)) ≡ Reads (saved (board_after m rs))) × (BothForms (saved (board_after m rs)))
  -- bytes that are accepted are the old or the new image of what they read back to
  pub only : (bs : List ℕ) (p : Persistent) → all is_byte bs ≡ true → read_headed bs ≡ Reads p → (bs ≡ encode p) ⊎ (bs ≡ encode_headed p)
  pub both : (bs : List ℕ) (p : Persistent) → all is_byte bs ≡ true → read_headed bs ≡ Reads p → BothForms p
  -- the records of any log: all its entries in their order, and no other records would do
  pub whole : (es : List Logged) → (held (log_records es) ≡ es) × (Grouped (log_records es))
  pub single : (gs : List (List Logged)) → Grouped gs → log_records (held gs) ≡ gs
  -- on any bytes the new reader gives what the old one gives, unless that answers 2 at a header
  pub unless : (bs : List ℕ) → read_image bs ≢ Refuses 2 → read_headed bs ≡ read_image bs
  pub without : (bs : List ℕ) → any is_header bs ≡ false → read_headed bs ≡ read_image bs
  -- and without the seven kinds it is the old one
  pub plain : (bs : List ℕ) → read_as false bs ≡ read_image bs
