-- "Event records. One byte of kind, then a body whose length the kind fixes; numbers are little-endian. 0 setup: T (1 byte), L (2). 1 begin: thread (1).
-- 2 end: thread. 3 read: thread, line, word (1 each). 4 write: thread, line, word, value (8). 5 log acknowledgement: line. 6 data acknowledgement: line.
-- 7 fence: thread. 8 cut: empty." Request 9: "Kind 10 is a write with thread, line, word, a mask byte and 8 value bytes"
-- Request 1: "After L, setup then carries eight bytes, the party (0 or 1) of each thread, and two bytes, the reserve of each party"
-- The one table of kinds: everything about the form of an event record is read from it.
use Rattle.std.specs.Prelude.{◌+◌, suc, ℕ, Bool, cond, List, [], ◌∷◌, map, ltb, get_or, length}

-- a kind of event: its word in the readable form of an event file, and the widths in bytes of the numbers in its body
pub record Kind : Type 0 where
  pub word : List ℕ
  pub widths : List ℕ

abbrev pub no_kind : Kind
no_kind = record { word = []; widths = [] }

-- in the order of their numbers: setup, begin, end, read, write, log-ack, data-ack, fence, cut; none for 9; write-bytes
abbrev pub kinds : List Kind
kinds =
    record { word = 115 ∷ 101 ∷ 116 ∷ 117 ∷ 112 ∷ []; widths = 1 ∷ 2 ∷ 1 ∷ 1 ∷ 1 ∷ 1 ∷ 1 ∷ 1 ∷ 1 ∷ 1 ∷ 1 ∷ 1 ∷ [] }
    ∷ record { word = 98 ∷ 101 ∷ 103 ∷ 105 ∷ 110 ∷ []; widths = 1 ∷ [] }
    ∷ record { word = 101 ∷ 110 ∷ 100 ∷ []; widths = 1 ∷ [] }
    ∷ record { word = 114 ∷ 101 ∷ 97 ∷ 100 ∷ []; widths = 1 ∷ 1 ∷ 1 ∷ [] }
    ∷ record { word = 119 ∷ 114 ∷ 105 ∷ 116 ∷ 101 ∷ []; widths = 1 ∷ 1 ∷ 1 ∷ 8 ∷ [] }
    ∷ record { word = 108 ∷ 111 ∷ 103 ∷ 45 ∷ 97 ∷ 99 ∷ 107 ∷ []; widths = 1 ∷ [] }
    ∷ record { word = 100 ∷ 97 ∷ 116 ∷ 97 ∷ 45 ∷ 97 ∷ 99 ∷ 107 ∷ []; widths = 1 ∷ [] }
    ∷ record { word = 102 ∷ 101 ∷ 110 ∷ 99 ∷ 101 ∷ []; widths = 1 ∷ [] }
    ∷ record { word = 99 ∷ 117 ∷ 116 ∷ []; widths = [] }
    ∷ no_kind
    ∷ record { word = 119 ∷ 114 ∷ 105 ∷ 116 ∷ 101 ∷ 45 ∷ 98 ∷ 121 ∷ 116 ∷ 101 ∷ 115 ∷ []; widths = 1 ∷ 1 ∷ 1 ∷ 1 ∷ 8 ∷ [] }
    ∷ []

-- the kind of a number
unfoldable pub kind_at : ℕ → Kind
kind_at k = get_or kinds k no_kind

abbrev pub word_of : ℕ → List ℕ
word_of k = (kind_at k).word

abbrev pub widths_of : ℕ → List ℕ
widths_of k = (kind_at k).widths

-- a number is a kind's if that has a word
abbrev pub is_kind : ℕ → Bool
is_kind k = ltb 0 (length (word_of k))

-- bytes that are no whole record stand in a line of their own in the readable form, behind this word: bytes
abbrev pub bytes_word : List ℕ
bytes_word = 98 ∷ 121 ∷ 116 ∷ 101 ∷ 115 ∷ []

abbrev pub total : List ℕ → ℕ
total [] = 0
total (w ∷ ws) = w + total ws

-- the bytes of each body
abbrev pub body_lengths : List ℕ
body_lengths = map (λ k. total k.widths) kinds

abbrev pub largest : List ℕ → ℕ
largest [] = 0
largest (n ∷ ns) = cond (ltb (largest ns) n) n (largest ns)

-- the bytes of the longest record
abbrev pub longest_record : ℕ
longest_record = suc (largest body_lengths)
