-- What a program says on standard error where its input or output fails.
use Rattle.std.specs.Prelude.{ℕ, List, [], ◌++◌, ◌∷◌, take}
use Rattle.pieces.specs.declared.Failed.{Failed}
use Rattle.pieces.specs.declared.Failed.TheVariants.{Input, Output}

-- ": standard input cannot be read", ": standard output cannot be written", each with the end of the line
abbrev pub unread : List ℕ
unread = 58 ∷ 32 ∷ 115 ∷ 116 ∷ 97 ∷ 110 ∷ 100 ∷ 97 ∷ 114 ∷ 100 ∷ 32 ∷ 105 ∷ 110 ∷ 112 ∷ 117 ∷ 116 ∷ 32 ∷ 99 ∷ 97 ∷ 110 ∷ 110 ∷ 111 ∷ 116 ∷ 32 ∷ 98 ∷ 101 ∷ 32 ∷ 114 ∷ 101 ∷ 97 ∷ 100 ∷ 10 ∷ []

abbrev pub unwritten : List ℕ
unwritten = 58 ∷ 32 ∷ 115 ∷ 116 ∷ 97 ∷ 110 ∷ 100 ∷ 97 ∷ 114 ∷ 100 ∷ 32 ∷ 111 ∷ 117 ∷ 116 ∷ 112 ∷ 117 ∷ 116 ∷ 32 ∷ 99 ∷ 97 ∷ 110 ∷ 110 ∷ 111 ∷ 116 ∷ 32 ∷ 98 ∷ 101 ∷ 32 ∷ 119 ∷ 114 ∷ 105 ∷ 116 ∷ 116 ∷ 101 ∷ 110 ∷ 10 ∷ []

-- what cannot be done
abbrev pub failure : Failed → List ℕ
failure Input = unread
failure Output = unwritten

-- the program's name, and that; at most 64 bytes
unfoldable pub message : Failed → List ℕ → List ℕ
message d name = take 64 (name ++ failure d)
