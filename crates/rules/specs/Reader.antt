-- Reading an image: "each record in turn 1 if nothing is left, 2, 7 for place, 1, 6, 3, 4, 7 for keys and counts; then 7 for bytes after the end; then 8".
use Rattle.std.specs.Prelude.{◌+◌, ◌-◌, suc, zero, ℕ, Bool, ◌&&◌, ◌||◌, cond, List, [], ◌++◌, ◌∷◌, eqb, leb, ltb, drop, get_or, length, take}
use Rattle.rules.specs.Bytes.{line_at, num_of}
use Rattle.rules.specs.Contradiction.{contradicts}
use Rattle.rules.specs.Image.{Logged, Persistent, no_listed, no_logged, sized, with_listed, with_logged, with_medium}
use Rattle.rules.specs.Lists.{all, count}
use Rattle.rules.specs.Measures.{most_entries, most_regions}
use Rattle.rules.specs.Refusal.{in_range}
use Rattle.rules.specs.Tables.{key_of, thread_of}
use Rattle.rules.specs.declared.Listed.{Listed}

-- ---- records one behind the other: of any state S, by what each does to it and the length of its body

-- what a record does: it stops the reading with a refusal, it is added to what was read, or it is the end
pub data Turn (S : Type 0) : Type 0 where
  Stop : ℕ → Turn S
  Next : S → Turn S
  Last : S → Turn S

pub data Verdict (S : Type 0) : Type 0 where
  Refuses : ℕ → Verdict S
  Reads : S → Verdict S

module _ {S : Type 0} where
  -- a record at the front of the bytes: its kind, its place, its length, then its fields
  unfoldable pub turn_by : (ℕ → Bool) → (S → ℕ → Bool) → (ℕ → ℕ) → (S → ℕ → List ℕ → Turn S) → S → List ℕ → Turn S
  turn_by is_kind placed body fields s [] = Stop 1
  turn_by is_kind placed body fields s (k ∷ bs) =
      cond (is_kind k) (cond (placed s k) (cond (leb (body k) (length bs)) (fields s k bs) (Stop 1)) (Stop 7)) (Stop 2)

  -- all records, where k bytes are still to pass before the next one
  unfoldable pub read_by : (S → List ℕ → Turn S) → (ℕ → ℕ) → S → ℕ → List ℕ → Verdict S
  read_by turn body s k [] = Refuses 1
  read_by turn body s (suc k) (b ∷ bs) = read_by turn body s k bs
  read_by turn body s zero (b ∷ bs) =
      elim (turn s (b ∷ bs)) [ Stop n ↦ Refuses n | Next q ↦ read_by turn body q (body b) bs | Last q ↦ Reads q ]

-- ---- the records of an image

-- nothing read yet; T is 0 until the head is read
abbrev pub nothing : Persistent
nothing = sized 0 0

-- the lengths of the bodies of 32 to 36
abbrev pub image_body : ℕ → ℕ
image_body k = get_or (3 ∷ 64 ∷ 16 ∷ 68 ∷ []) (k - 32) 0

abbrev pub is_image_kind : ℕ → Bool
is_image_kind k = leb 32 k && leb k 36

-- 32, then L of 33, then any of 34, then any of 35, then 36
abbrev pub is_placed : Persistent → ℕ → Bool
is_placed p k =
    cond (eqb p.threads 0) (eqb k 32)
    (cond (ltb (length p.medium) p.lines) (eqb k 33)
    (cond (eqb (length p.log) 0) (leb 34 k) (leb 35 k)))

-- thread and number at a place of the body
abbrev pub key_at : List ℕ → ℕ → ℕ
key_at bs i = key_of (get_or bs i 0) (num_of (take 2 (drop (i + 1) bs)))

-- ---- the fields of each record, once its place and its length are right

unfoldable pub head_turn : List ℕ → Turn Persistent
head_turn bs =
    cond (in_range (get_or bs 0 0) (num_of (take 2 (drop 1 bs))))
    (Next (sized (get_or bs 0 0) (num_of (take 2 (drop 1 bs)))))
    (Stop 6)

unfoldable pub line_turn : Persistent → List ℕ → Turn Persistent
line_turn p bs = Next (with_medium (p.medium ++ (line_at bs 0 ∷ [])) p)

-- the entry that a body of kind 34 holds
unfoldable pub listed_at : List ℕ → Listed
listed_at bs = record { key = key_at bs 0; state = get_or bs 3 0; deps = key_at bs 4 ∷ key_at bs 7 ∷ key_at bs 10 ∷ key_at bs 13 ∷ [] }

-- 3 "thread not below T, in a dependence too"
abbrev pub is_known_thread : ℕ → ℕ → Bool
is_known_thread n k = ltb (thread_of k) n

abbrev pub last_listed : List Listed → ℕ
last_listed rs = (get_or rs (length rs - 1) no_listed).key

-- 7 "thread and number not rising, over 32 entries of kind 34"
unfoldable pub listed_turn : Persistent → Listed → Turn Persistent
listed_turn p r =
    cond (all (is_known_thread p.threads) (r.key ∷ r.deps))
    (cond (eqb (length p.regions) 0 || ltb (last_listed p.regions) r.key)
    (cond (ltb (length p.regions) most_regions)
    (Next (with_listed (p.regions ++ (r ∷ [])) p))
    (Stop 7)) (Stop 7)) (Stop 3)

-- the entry that a body of kind 35 holds
unfoldable pub logged_at : List ℕ → Logged
logged_at bs = record { key = key_at bs 0; line = get_or bs 3 0; old = line_at bs 4 }

abbrev pub last_logged : List Logged → ℕ
last_logged es = (get_or es (length es - 1) no_logged).key

abbrev pub is_logged_by : ℕ → Logged → Bool
is_logged_by t e = eqb (thread_of e.key) t

-- 4 "line not below L"; 7 "in kind 35: falling", "over 32 log entries of a thread"
unfoldable pub logged_turn : Persistent → Logged → Turn Persistent
logged_turn p e =
    cond (is_known_thread p.threads e.key)
    (cond (ltb e.line p.lines)
    (cond (leb (last_logged p.log) e.key)
    (cond (ltb (count (is_logged_by (thread_of e.key)) p.log) most_entries)
    (Next (with_logged (p.log ++ (e ∷ [])) p))
    (Stop 7)) (Stop 7)) (Stop 4)) (Stop 3)

-- 7 "bytes after the end"
unfoldable pub end_turn : Persistent → List ℕ → Turn Persistent
end_turn p bs = cond (eqb (length bs) 0) (Last p) (Stop 7)

unfoldable pub fields_turn : Persistent → ℕ → List ℕ → Turn Persistent
fields_turn p k bs =
    cond (eqb k 32) (head_turn bs)
    (cond (eqb k 33) (line_turn p bs)
    (cond (eqb k 34) (listed_turn p (listed_at bs))
    (cond (eqb k 35) (logged_turn p (logged_at bs)) (end_turn p bs))))

abbrev pub turn_of : Persistent → List ℕ → Turn Persistent
turn_of = turn_by is_image_kind is_placed image_body fields_turn

abbrev pub records_read : Persistent → ℕ → List ℕ → Verdict Persistent
records_read = read_by turn_of image_body

-- ---- the whole image

-- 8 after all others
abbrev pub unless_contradicted : Verdict Persistent → Verdict Persistent
unless_contradicted (Refuses n) = Refuses n
unless_contradicted (Reads p) = cond (contradicts p) (Refuses 8) (Reads p)

unfoldable pub read_image : List ℕ → Verdict Persistent
read_image bs = unless_contradicted (records_read nothing 0 bs)
