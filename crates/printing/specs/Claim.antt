-- A file in pieces of any size: what is written of them is the text of the file.
use Rattle.std.specs.Prelude.{ℕ, ◌≡◌, List, [], ◌++◌, ◌∷◌, drop}
use Rattle.events.specs.Whole.{whole_length}
use Rattle.printing.specs.Text.{line_text, text_of, whole_text}
use Rattle.rules.specs.Kinds.{bytes_word}
use Rattle.rules.specs.Lists.{flat}

-- what is left of a file behind its whole records, as a line of bytes
unfoldable pub rest_text : List ℕ → List ℕ
rest_text [] = []
rest_text (b ∷ bs) = line_text bytes_word (b ∷ bs)

-- what is written of a file that comes in pieces, where `held` is left of the earlier ones: the whole records of each piece, and then what is left
unfoldable pub text_in : List ℕ → List (List ℕ) → List ℕ
text_in held [] = rest_text held
text_in held (p ∷ ps) = whole_text (held ++ p) ++ text_in (drop (whole_length (held ++ p)) (held ++ p)) ps

-- that is the text of the file, whatever the pieces
unfoldable pub InPieces : Type 0
InPieces = (ps : List (List ℕ)) → text_in [] ps ≡ text_of (flat (λ p. p) ps)
