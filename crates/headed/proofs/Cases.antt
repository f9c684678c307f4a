-- Worked cases of images in both forms, one table, computed from the definitions: each new refusal and each edge of its rule, and the bytes of a new image.
use Prim.Native.Nat.{◌*◌, ◌+◌, suc, zero, ℕ}
use mathlib.Core.Bool.{Bool, ◌&&◌}
use mathlib.Core.List.{List, [], ◌++◌, ◌∷◌}
use lib.Dec.{T, eqb}
use lib.ListN.{drop, length, replicate}
use Rattle.headed.specs.Image.{encode_headed, headed_record, log_records_from, same_front}
use Rattle.headed.specs.Reader.{fields_in, header_turn, held_from, read_as, read_headed, records_read_as}
use Rattle.rules.proofs.Cases.{same}
use Rattle.rules.specs.Bytes.{bytes_of, num_of, words_bytes, words_of}
use Rattle.rules.specs.Contradiction.{any_broken, any_clash, contradicts, in_order, reaches, reaches_in}
use Rattle.rules.specs.Image.{Logged, Persistent, head_record, key_bytes, line_record, region_record}
use Rattle.rules.specs.Lists.{all, count, flat, place}
use Rattle.rules.specs.Reader.{Reads, Refuses, Verdict, end_turn, fields_turn, head_turn, line_turn, listed_at, listed_turn, logged_at, logged_turn, read_by, read_image, turn_by}

-- ---- images of two threads and 14 lines, all zero

-- the refusal, 0 for none
refused : Verdict Persistent → ℕ
refused (Refuses n) = n
refused (Reads p) = 0

-- region k, which depends on region d; region 1 of thread 1 is 65537
region : ℕ → ℕ → List ℕ
region k d = region_record (record { key = k; state = 0; deps = d ∷ 0 ∷ 0 ∷ 0 ∷ [] })

-- n numbers from k on
from : ℕ → ℕ → List ℕ
from k zero = []
from k (suc n) = k ∷ from (suc k) n

-- a record of any kind with a region and lines, whose old lines are zero
under : ℕ → ℕ → List ℕ → List ℕ
under kind k ls = kind ∷ (key_bytes k ++ (ls ++ replicate (64 * length ls) 0))

-- the records of regions, then any bytes
image : List ℕ → List ℕ → List ℕ
image rs bs = head_record 2 14 ++ (flat line_record (replicate 14 (replicate 8 0)) ++ (rs ++ bs))

-- regions 1 to 5 of thread 0, each behind its predecessor; region 1 of thread 1
five : List ℕ
five = region 1 0 ++ (region 2 1 ++ (region 3 2 ++ (region 4 3 ++ region 5 4)))

both : List ℕ
both = region 1 0 ++ region 65537 0

end : List ℕ
end = 36 ∷ []

-- 28 entries of thread 0
four : List ℕ
four = under 47 1 (from 0 7) ++ (under 47 2 (from 0 7) ++ (under 47 3 (from 0 7) ++ under 47 4 (from 0 7)))

-- an image, and its refusal by the old and by the new reader
pub record ImageCase : Type 0 where
  pub bytes : List ℕ
  pub old : ℕ
  pub new : ℕ

case : List ℕ → ℕ → ℕ → ImageCase
case bs o n = record { bytes = bs; old = o; new = n }

cases : List ImageCase
cases =
    -- without entries
    case (image (region 1 0) end) 0 0
    -- "All records of a region but its last hold seven"
    ∷ case (image (region 1 0) (under 47 1 (from 0 7) ++ (under 41 1 (7 ∷ []) ++ end))) 2 0
    ∷ case (image (region 1 0) (under 47 1 (from 0 7) ++ (under 47 1 (from 7 7) ++ end))) 2 0
    ∷ case (image (region 1 0) (under 46 1 (from 0 6) ++ (under 41 1 (6 ∷ []) ++ end))) 2 7
    ∷ case (image (region 1 0) (under 41 1 (0 ∷ []) ++ (under 47 1 (from 1 7) ++ end))) 2 7
    ∷ case (image both (under 46 1 (from 0 6) ++ (under 41 65537 (6 ∷ []) ++ end))) 2 0
    -- "An image that holds kind 35 beside any of 41 to 47 is refused with 7 for place", before its length
    ∷ case (image (region 1 0) (under 35 1 (0 ∷ []) ++ (under 35 1 (1 ∷ []) ++ end))) 0 0
    ∷ case (image (region 1 0) (under 47 1 (from 0 7) ++ (under 35 1 (7 ∷ []) ++ end))) 2 7
    ∷ case (image (region 1 0) (under 35 1 (0 ∷ []) ++ (under 41 1 (1 ∷ []) ++ end))) 2 7
    ∷ case (image (region 1 0) (under 41 1 (0 ∷ []) ++ (35 ∷ []))) 2 7
    ∷ case (image (region 1 0) (under 35 1 (0 ∷ []) ++ (41 ∷ []))) 2 7
    -- seven kinds
    ∷ case (image (region 1 0) (under 40 1 [] ++ end)) 2 2
    ∷ case (image (region 1 0) (under 48 1 (from 0 8) ++ end)) 2 2
    -- cut short in the header, in the line numbers, in the old lines, behind them
    ∷ case (image (region 1 0) (42 ∷ 0 ∷ 1 ∷ [])) 2 1
    ∷ case (image (region 1 0) (42 ∷ 0 ∷ 1 ∷ 0 ∷ 0 ∷ [])) 2 1
    ∷ case (image (region 1 0) (42 ∷ 0 ∷ 1 ∷ 0 ∷ 0 ∷ 1 ∷ replicate 127 0)) 2 1
    ∷ case (image (region 1 0) (under 42 1 (from 0 2))) 2 1
    -- a region behind a header; bytes behind the end
    ∷ case (image (region 1 0) (under 41 1 (0 ∷ []) ++ (region 65537 0 ++ end))) 2 7
    ∷ case (image (region 1 0) (under 41 1 (0 ∷ []) ++ (36 ∷ 36 ∷ []))) 2 7
    -- 3 before 4, 4 for any of the lines, 4 before 7
    ∷ case (image (region 1 0) (under 42 131073 (13 ∷ 14 ∷ []) ++ end)) 2 3
    ∷ case (image (region 1 0) (under 42 1 (13 ∷ 14 ∷ []) ++ end)) 2 4
    ∷ case (image both (under 41 65537 (0 ∷ []) ++ (under 41 1 (14 ∷ []) ++ end))) 2 4
    -- keys that fall
    ∷ case (image both (under 41 65537 (0 ∷ []) ++ (under 41 1 (1 ∷ []) ++ end))) 2 7
    -- "the thread's entries with this record above 32"; another thread's do not count
    ∷ case (image five (four ++ (under 44 5 (from 0 4) ++ end))) 2 0
    ∷ case (image five (four ++ (under 45 5 (from 0 5) ++ end))) 2 7
    ∷ case (image (five ++ region 65537 0) (four ++ (under 44 5 (from 0 4) ++ (under 47 65537 (from 7 7) ++ end)))) 2 0
    -- a first record of number 0 is not behind another; a region not listed; one line logged twice
    ∷ case (image (region 1 0) (under 41 0 (0 ∷ []) ++ end)) 2 8
    ∷ case (image (region 1 0) (under 41 65537 (0 ∷ []) ++ end)) 2 8
    ∷ case (image (region 1 0) (under 42 1 (0 ∷ 0 ∷ []) ++ end)) 2 8
    ∷ []

holds : ImageCase → Bool
holds c = eqb (refused (read_image c.bytes)) c.old && eqb (refused (read_headed c.bytes)) c.new

table : T (all holds cases)
unfolding region_record head_record line_record flat bytes_of num_of words_bytes words_of read_image read_as records_read_as read_by turn_by fields_in fields_turn head_turn line_turn listed_turn listed_at logged_turn logged_at end_turn header_turn held_from contradicts in_order any_broken any_clash reaches reaches_in count place cases holds refused case image region end under from both five four
table = tt

-- ---- the bytes: "thread, number, the line numbers, then the old lines"

-- nine entries of region 258 of thread 1 and one of region 259, the old line of entry i eight words i
nine : ℕ → ℕ → List Logged
nine i zero = []
nine i (suc n) = record { key = 65794; line = 20 + i; old = replicate 8 i } ∷ nine (suc i) n

words : ℕ → ℕ → List ℕ
words i zero = []
words i (suc n) = flat (bytes_of 8) (replicate 8 i) ++ words (suc i) n

log : List Logged
log = nine 0 9 ++ (record { key = 65795; line = 29; old = replicate 8 9 } ∷ [])

written : T (same (drop 69 (encode_headed (record { threads = 2; lines = 1; medium = replicate 8 0 ∷ []; regions = []; log = log })))
    ((47 ∷ 1 ∷ 2 ∷ 1 ∷ (from 20 7 ++ words 0 7)) ++ ((42 ∷ 1 ∷ 2 ∷ 1 ∷ (from 27 2 ++ words 7 2)) ++ ((41 ∷ 1 ∷ 3 ∷ 1 ∷ (29 ∷ words 9 1)) ++ end))))
unfolding encode_headed headed_record log_records_from same_front region_record head_record line_record flat bytes_of words_bytes same log nine words from end
written = tt
