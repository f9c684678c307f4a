-- "The trace program .. prints kind, refusal (0 for accepted), value per event; after an accepted cut it prints M, line, word, value for each nonzero recovered
-- word, rising." Numbers are decimal, a space stands between them, a newline ends each line.
use Rattle.std.specs.Prelude.{◌+◌, suc, zero, ℕ, cond, List, [], ◌++◌, ◌∷◌, eqb, leb, get_or, length, replicate, take}
use Rattle.output.specs.Decimal.{decimal}
use Rattle.rules.specs.Bytes.{line_at}
use Rattle.rules.specs.Image.{save}
use Rattle.rules.specs.Measures.{line_words, most_logged}
use Rattle.rules.specs.Recovery.{Recovering, line_start, restore}
use Rattle.rules.specs.Run.{Wrote}
use Rattle.rules.specs.Tables.{no_line}
use Rattle.rules.specs.declared.Board.{Board}
use Rattle.rules.specs.declared.Answer.{Answer}

-- a number and the byte that ends it
unfoldable pub number_text : ℕ → ℕ → List ℕ
number_text n e = decimal n ++ (e ∷ [])

-- the line of an answer
unfoldable pub answer_text : ℕ → Answer → List ℕ
answer_text k a = number_text k 32 ++ (number_text a.refusal 32 ++ number_text a.value 10)

-- the line of a recovered word; none for zero
unfoldable pub word_text : ℕ → ℕ → ℕ → List ℕ
word_text l w v = cond (eqb v 0) [] (77 ∷ (32 ∷ (number_text l 32 ++ (number_text w 32 ++ number_text v 10))))

-- what f gives for n numbers from i on, one behind the other
unfoldable pub flat_to : (ℕ → List ℕ) → ℕ → ℕ → List ℕ
flat_to f i zero = []
flat_to f i (suc n) = f i ++ flat_to f (suc i) n

-- the words of line l
unfoldable pub line_text : ℕ → List ℕ → List ℕ
line_text l ws = flat_to (λ w. word_text l w (get_or ws w 0)) 0 line_words

-- line l of an image, out of its record; zero where the image does not hold it
abbrev pub image_line : List ℕ → ℕ → List ℕ
image_line bs l = cond (leb (line_start l + 64) (length bs)) (line_at bs (line_start l)) no_line

-- the words of the first n lines of an image
unfoldable pub memory_text : ℕ → List ℕ → List ℕ
memory_text n bs = flat_to (λ l. line_text l (image_line bs l)) 0 n

-- recovery steps until one answers other than 'more', at most n + 1; an image holds at most 256 log entries
unfoldable pub finish : ℕ → Recovering → List ℕ
finish zero r = (restore r).after.bytes
finish (suc n) r = cond (eqb (restore r).answer.value 1) (finish n (restore r).after) (restore r).after.bytes

abbrev pub recovered : List ℕ → List ℕ
recovered bs = finish most_logged (record { bytes = bs; at = 0 })

-- what recovery makes of a saved image of n lines; nothing where the save is refused
unfoldable pub recovered_text : ℕ → Wrote → List ℕ
recovered_text n s = cond (eqb s.answer.refusal 0) (memory_text n (recovered (take s.answer.value s.buffer))) []

-- a buffer for the longest image: 5 bytes, and for 256 lines 65, for 32 regions 17, for 256 log entries 69 bytes each
unfoldable pub image_buffer : List ℕ
image_buffer = replicate 34853 0

-- the words of what recovery makes of the board's image
unfoldable pub cut_text : Board → List ℕ
cut_text b = recovered_text b.tables.size.lines (save b image_buffer)
