-- The first fault of short texts, computed from the definitions: its kind and its place.
use mathlib.Core.Path.{◌≡◌, refl}
use mathlib.Core.List.{[], ◌∷◌}
use Rattle.parsing.specs.Fault.{extra_number, fault, fault_by, fault_of, field_fault, kind_fault, line_fault, lines_fault, missing_number, not_number, or_else, out_of_range, unknown_word, word_end, word_fault, word_start, words_fault}
use Rattle.parsing.specs.Read.{complete, kind_of, lines_of, most_of, number_from, number_in, other_line, same, stops, width_at, with_digit, words_in}
use Rattle.rules.specs.Kinds.{kind_at}
use Rattle.rules.specs.Lists.{place}

-- "x"; "end x"; "end 256"; "cut 1"; "#x"
pub cases : (fault_of (120 ∷ []) ≡ fault unknown_word 0) × ((fault_of (101 ∷ 110 ∷ 100 ∷ 32 ∷ 120 ∷ []) ≡ fault not_number 4) × ((fault_of (101 ∷ 110 ∷ 100 ∷ 32 ∷ 50 ∷ 53 ∷ 54 ∷ []) ≡ fault out_of_range 4) × ((fault_of (99 ∷ 117 ∷ 116 ∷ 32 ∷ 49 ∷ []) ≡ fault extra_number 4) × (fault_of (35 ∷ 120 ∷ []) ≡ fault 0 2))))
unfolding fault_of or_else lines_fault lines_of line_fault words_fault words_in kind_fault kind_of same other_line place stops word_start word_end field_fault word_fault fault_by number_in number_from with_digit most_of width_at complete kind_at
cases = (refl, (refl, (refl, (refl, refl))))

-- "cut", CR and newline; TAB, "end 9 #" and newline; " end #"
pub third_line : fault_of (99 ∷ 117 ∷ 116 ∷ 13 ∷ 10 ∷ 9 ∷ 101 ∷ 110 ∷ 100 ∷ 32 ∷ 57 ∷ 32 ∷ 35 ∷ 10 ∷ 32 ∷ 101 ∷ 110 ∷ 100 ∷ 32 ∷ 35 ∷ []) ≡ fault missing_number 19
unfolding fault_of or_else lines_fault lines_of line_fault words_fault words_in kind_fault kind_of same other_line place stops word_start word_end field_fault word_fault fault_by number_in number_from with_digit most_of width_at complete kind_at
third_line = refl
