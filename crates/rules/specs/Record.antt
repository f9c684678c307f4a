-- "One byte of kind, then a body whose length the kind fixes": the reader of event records, by the table of kinds.
use Rattle.std.specs.Prelude.{suc, zero, ℕ, Bool, cond, false, true, List, [], ◌∷◌, eqb, ltb, drop, get_or, length, take, Err, Ok, Result}
use Rattle.rules.specs.Bytes.{num_of}
use Rattle.rules.specs.Kinds.{body_lengths, is_kind}
use Rattle.rules.specs.Measures.{whole_word}
use Rattle.rules.specs.declared.Event.{Event}
use Rattle.rules.specs.declared.Event.TheVariants.{Begin, Cut, DataAck, End, Fence, LogAck, Read, Setup, Write}
use Rattle.rules.specs.declared.Shares.{Shares}

-- the bytes of the body of a kind
abbrev pub body_length : ℕ → ℕ
body_length k = get_or body_lengths k 0

-- request 1: "After L, setup then carries eight bytes, the party (0 or 1) of each thread, and two bytes, the reserve of each party"
abbrev pub shares_at : List ℕ → Shares
shares_at bs = record { parties = num_of (take 8 bs); reserves = num_of (take 2 (drop 8 bs)) }

-- the event of a kind with its body; every other kind is read as a cut, and only 8 gets here
-- request 9: "Kind 4 becomes the same with all bits set"
unfoldable pub event_of : ℕ → List ℕ → Event
event_of k body =
    cond (eqb k 0) (Setup (get_or body 0 0) (num_of (take 2 (drop 1 body))) (shares_at (drop 3 body)))
    (cond (eqb k 1) (Begin (get_or body 0 0))
    (cond (eqb k 2) (End (get_or body 0 0))
    (cond (eqb k 3) (Read (get_or body 0 0) (get_or body 1 0) (get_or body 2 0))
    (cond (eqb k 4) (Write (get_or body 0 0) (get_or body 1 0) (get_or body 2 0) whole_word (num_of (take 8 (drop 3 body))))
    (cond (eqb k 5) (LogAck (get_or body 0 0))
    (cond (eqb k 6) (DataAck (get_or body 0 0))
    (cond (eqb k 7) (Fence (get_or body 0 0))
    (cond (eqb k 10) (Write (get_or body 0 0) (get_or body 1 0) (get_or body 2 0) (get_or body 3 0) (num_of (take 8 (drop 4 body)))) Cut))))))))

-- what a record is: an event, or the number of a refusal
abbrev pub Reading : Type 0
Reading = Result Event ℕ

-- "2 unknown kind (in an event not 0 to 8)": no kind's number, so that 10 is known and 9 is not. "1 record cut short or empty (bytes behind a whole record are
-- not looked at)." "Event order: 2, 1, .."
unfoldable pub read_record : List ℕ → Reading
read_record [] = Err 1
read_record (k ∷ body) =
    cond (is_kind k) (cond (ltb (length body) (body_length k)) (Err 1) (Ok (event_of k body))) (Err 2)

-- a record that does not end its file
abbrev pub is_whole : Reading → Bool
is_whole (Err n) = false
is_whole (Ok e) = true

-- the records of a file, each with all that stands behind it, where k bytes are still to pass before the next one
-- "1 and 2 end an event file; a file that stops behind a whole record, or is empty, ends without a refusal"
unfoldable pub records_from : ℕ → List ℕ → List (List ℕ)
records_from k [] = []
records_from (suc k) (b ∷ bs) = records_from k bs
records_from zero (b ∷ bs) = (b ∷ bs) ∷ cond (is_whole (read_record (b ∷ bs))) (records_from (body_length b) bs) []

abbrev pub records_of : List ℕ → List (List ℕ)
records_of file = records_from 0 file
