-- "after an accepted cut it prints M, line, word, value for each nonzero recovered word, rising": the recovered words are those of the expected memory.
use Rattle.std.specs.Prelude.{ℕ, ◌≡◌, true, List}
use Rattle.rules.specs.Claim.{board_after, is_byte, is_byte_memory}
use Rattle.rules.specs.History.{accepted_in, expected, has_cut, lines_in}
use Rattle.rules.specs.Lists.{all}
use Rattle.rules.specs.Tables.{Memory, line_of}
use Rattle.wording.specs.Text.{cut_text, flat_to, line_text}

-- for every starting memory and every list of event records of any content in which a cut was accepted
abbrev pub WordsExpected : Type 0
WordsExpected = (m : Memory) (rs : List (List ℕ)) → is_byte_memory m ≡ true → all (all is_byte) rs ≡ true → has_cut (accepted_in m rs) ≡ true
    → cut_text (board_after m rs) ≡ flat_to (λ l. line_text l (line_of l (expected m rs))) 0 (lines_in (accepted_in m rs))
