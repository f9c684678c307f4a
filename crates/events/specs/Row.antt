-- The widths in the table of kinds.
use Rattle.std.specs.Prelude.{ℕ, Bool, ◌||◌, eqb}

-- a number in a body has 1, 2 or 8 bytes
abbrev pub is_width : ℕ → Bool
is_width w = eqb w 1 || (eqb w 2 || eqb w 8)
