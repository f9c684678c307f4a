-- Numbers, lines and bytes. "Numbers are little-endian"; "a line is eight words of 8 bytes, taken and given whole".
use Rattle.std.specs.Prelude.{◌%◌, ◌*◌, ◌+◌, ◌/◌, ◌^◌, suc, zero, ℕ, List, [], ◌++◌, ◌∷◌, drop, get_or, length, take}

-- the number n in k bytes, the low one first
unfoldable pub bytes_of : ℕ → ℕ → List ℕ
bytes_of zero n = []
bytes_of (suc k) n = n % 256 ∷ bytes_of k (n / 256)

-- byte i of a number, byte 0 the low one
abbrev pub byte_of : ℕ → ℕ → ℕ
byte_of i n = n / 256 ^ i % 256

-- the number that bytes hold, the low one first
unfoldable pub num_of : List ℕ → ℕ
num_of [] = 0
num_of (b ∷ bs) = b + 256 * num_of bs

-- n words, eight bytes each; a word that is missing counts as 0, so that the bytes are always 8 * n
unfoldable pub words_bytes : ℕ → List ℕ → List ℕ
words_bytes zero ws = []
words_bytes (suc n) ws = bytes_of 8 (get_or ws 0 0) ++ words_bytes n (drop 1 ws)

-- the 64 bytes of a line
abbrev pub line_bytes : List ℕ → List ℕ
line_bytes l = words_bytes 8 l

-- n words of eight bytes, out of bytes
unfoldable pub words_of : ℕ → List ℕ → List ℕ
words_of zero bs = []
words_of (suc n) bs = num_of (take 8 bs) ∷ words_of n (drop 8 bs)

-- the line that stands at a place of a list of bytes
abbrev pub line_at : List ℕ → ℕ → List ℕ
line_at bs at = words_of 8 (drop at bs)

-- the buffer d with the bytes bs from `at` on, and every other byte as it was
abbrev pub paste : List ℕ → ℕ → List ℕ → List ℕ
paste d at bs = take at d ++ (bs ++ drop (at + length bs) d)
