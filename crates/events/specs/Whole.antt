-- The whole records at the front of a file, which may be run or written before more of the file has come.
use Rattle.std.specs.Prelude.{suc, zero, ℕ, cond, List, [], ◌∷◌, get_or}
use Rattle.rules.specs.Record.{body_length, is_whole, read_record}

-- the length of the record at the front; 0 if it is not whole
unfoldable pub record_length : List ℕ → ℕ
record_length r = cond (is_whole (read_record r)) (suc (body_length (get_or r 0 0))) 0

-- the bytes up to the record that ends the file, where k bytes are still to pass before the next record
unfoldable pub whole_from : ℕ → List ℕ → ℕ
whole_from k [] = 0
whole_from (suc k) (b ∷ bs) = suc (whole_from k bs)
whole_from zero (b ∷ bs) = cond (is_whole (read_record (b ∷ bs))) (suc (whole_from (body_length b) bs)) 0

unfoldable pub whole_length : List ℕ → ℕ
whole_length file = whole_from 0 file
