-- Reading an image of either form: "the new reader takes old and new images". The records that both forms have are read as before.
use Rattle.std.specs.Prelude.{◌*◌, ◌+◌, ◌-◌, suc, zero, ℕ, Bool, ◌&&◌, ◌||◌, cond, not, true, List, [], ◌++◌, ◌∷◌, eqb, leb, ltb, get_or}
use Rattle.rules.specs.Bytes.{line_at}
use Rattle.rules.specs.Image.{Logged, Persistent, with_logged}
use Rattle.rules.specs.Lists.{all, count}
use Rattle.rules.specs.Measures.{most_entries}
use Rattle.rules.specs.Reader.{Last, Next, Reads, Refuses, Stop, Turn, Verdict, fields_turn, image_body, is_image_kind, is_known_thread, is_logged_by, is_placed, key_at, last_logged, nothing, read_by, turn_by, unless_contradicted}
use Rattle.rules.specs.Tables.{thread_of}

-- how far an image is read: what was read, and the kind of the last log record, 0 before the first
pub record Progress : Type 0 where
  pub state : Persistent
  pub kind : ℕ

abbrev pub unread : Progress
unread = record { state = nothing; kind = 0 }

-- ---- kinds and places

abbrev pub is_header : ℕ → Bool
is_header k = leb 41 k && leb k 47

-- how many entries a record of kind 41 to 47 holds
abbrev pub held_by : ℕ → ℕ
held_by k = k - 40

-- the kinds of an image; with `headed` those of a new one too
abbrev pub is_kind_of : Bool → ℕ → Bool
is_kind_of headed k = is_image_kind k || (headed && is_header k)

abbrev pub headed_body : ℕ → ℕ
headed_body k = cond (is_header k) (3 + 65 * held_by k) (image_body k)

-- "An image that holds kind 35 beside any of 41 to 47 is refused with 7 for place"
abbrev pub is_beside : ℕ → ℕ → Bool
is_beside last k = (eqb k 35 && is_header last) || (is_header k && eqb last 35)

abbrev pub is_placed_in : Progress → ℕ → Bool
is_placed_in s k = is_placed s.state k && not (is_beside s.kind k)

-- ---- the fields of a record of kind 41 to 47

-- entry i of a body that holds n
abbrev pub entry_in : ℕ → List ℕ → ℕ → Logged
entry_in n bs i = record { key = key_at bs 0; line = get_or bs (3 + i) 0; old = line_at bs (3 + n + 64 * i) }

-- m entries of a body that holds n, from entry i on
unfoldable pub held_from : ℕ → List ℕ → ℕ → ℕ → List Logged
held_from n bs i zero = []
held_from n bs i (suc m) = entry_in n bs i ∷ held_from n bs (suc i) m

abbrev pub held_in : ℕ → List ℕ → List Logged
held_in n bs = held_from n bs 0 n

abbrev pub is_on_board : ℕ → Logged → Bool
is_on_board l e = ltb e.line l

-- ".. with 7 for keys a record that follows one of fewer than seven of its own region"
abbrev pub is_behind_short : Progress → ℕ → Bool
is_behind_short s k = is_header s.kind && (ltb s.kind 47 && eqb (last_logged s.state.log) k)

-- "keys and counts tested as for 35": 3 for the thread, 4 for any of the lines, 7 for the keys, 7 for the thread's entries with those of this record
unfoldable pub header_turn : Progress → ℕ → List ℕ → Turn Progress
header_turn s k bs =
    cond (is_known_thread s.state.threads (key_at bs 0))
    (cond (all (is_on_board s.state.lines) (held_in (held_by k) bs))
    (cond (leb (last_logged s.state.log) (key_at bs 0))
    (cond (not (is_behind_short s (key_at bs 0)))
    (cond (leb (count (is_logged_by (thread_of (key_at bs 0))) s.state.log + held_by k) most_entries)
    (Next (record { state = with_logged (s.state.log ++ held_in (held_by k) bs) s.state; kind = k }))
    (Stop 7)) (Stop 7)) (Stop 7)) (Stop 4)) (Stop 3)

-- any other record does what it does in an old image
abbrev pub onward : Progress → ℕ → Turn Persistent → Turn Progress
onward s k (Stop n) = Stop n
onward s k (Next p) = Next (record { state = p; kind = cond (eqb k 35) 35 s.kind })
onward s k (Last p) = Last (record { state = p; kind = s.kind })

unfoldable pub fields_in : Progress → ℕ → List ℕ → Turn Progress
fields_in s k bs = cond (is_header k) (header_turn s k bs) (onward s k (fields_turn s.state k bs))

-- ---- the whole image

abbrev pub turn_in : Bool → Progress → List ℕ → Turn Progress
turn_in headed = turn_by (is_kind_of headed) is_placed_in headed_body fields_in

abbrev pub records_in : Bool → Progress → ℕ → List ℕ → Verdict Progress
records_in headed = read_by (turn_in headed) headed_body

abbrev pub state_read : Verdict Progress → Verdict Persistent
state_read (Refuses n) = Refuses n
state_read (Reads s) = Reads s.state

-- the records that a reader of one form or of both takes
unfoldable pub records_read_as : Bool → List ℕ → Verdict Persistent
records_read_as headed bs = state_read (records_in headed unread 0 bs)

unfoldable pub read_as : Bool → List ℕ → Verdict Persistent
read_as headed bs = unless_contradicted (records_read_as headed bs)

-- the new reader
abbrev pub read_headed : List ℕ → Verdict Persistent
read_headed = read_as true
