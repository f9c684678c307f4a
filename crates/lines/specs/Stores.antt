-- Request 9: "storing a word now promises byte by byte": what each of the 64 bytes of a line is after a write.
use Rattle.std.specs.Prelude.{◌%◌, ◌/◌, ◌<◌, suc, zero, ℕ, ◌≡◌, Bool, ◌&&◌, cond, false, List, [], ◌∷◌, eqb, get_or}
use Rattle.rules.specs.Bytes.{byte_of, line_bytes}

-- the lowest n bits of a mask, "bit 0 the lowest"
abbrev pub bits_of : ℕ → ℕ → List Bool
bits_of zero mask = []
bits_of (suc n) mask = eqb (mask % 2) 1 ∷ bits_of n (mask / 2)

-- byte j of a line
abbrev pub line_byte : ℕ → List ℕ → ℕ
line_byte j x = get_or (line_bytes x) j 0

-- byte j of a line is one that a write to word w stores
abbrev pub is_stored : ℕ → ℕ → ℕ → Bool
is_stored w mask j = eqb (j / 8) w && get_or (bits_of 8 mask) (j % 8) false

-- y is the line x with the bytes of v that the mask has, in word w, and no other
abbrev pub Stores : ℕ → ℕ → ℕ → List ℕ → List ℕ → Type 0
Stores w mask v x y = (j : ℕ) → j < 64 → line_byte j y ≡ cond (is_stored w mask j) (byte_of (j % 8) v) (line_byte j x)
