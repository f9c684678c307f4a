-- A file in pieces: the lines of the whole records of a piece stand in the text of the file whatever comes behind it.
use Prim.Native.Nat.{◌≤◌, ℕ}
use mathlib.Core.Path.{◌∙◌, ◌≡◌, ap, refl}
use mathlib.Core.Bool.{true}
use mathlib.Core.List.{List, [], ◌++◌, ◌∷◌, append_assoc, append-nil}
use lib.ListN.{drop, length, length-drop}
use native.Mathlib.Omega.{arith}
use lib.Seq.{drop-append-le, take-append-le}
use Rattle.events.proofs.Records.{length_empty, not_whole, onto, read_front, records_split, stands, whole_pos, whole_stop, wholes}
use Rattle.events.proofs.Table.{body_total}
use Rattle.events.specs.Whole.{record_length, whole_length}
use Rattle.printing.proofs.Records.{whole_line}
use Rattle.printing.specs.Claim.{InPieces, rest_text, text_in}
use Rattle.printing.specs.Text.{numbers_of, record_text, text_of, whole_text}
use Rattle.rules.specs.Kinds.{total, widths_of}
use Rattle.rules.specs.Lists.{flat}
use Rattle.rules.specs.Record.{body_length, is_whole, read_record, records_from, records_of}
use Rattle.undo.proofs.Laws.{test}

-- the numbers of a body are in its own bytes, whatever stands behind
pub numbers_front : (ws xs ys : List ℕ) → total ws ≤ length xs → numbers_of ws (xs ++ ys) ≡ numbers_of ws xs
unfolding numbers_of
numbers_front [] xs ys l = refl
numbers_front (w ∷ ws) xs ys l =
    let t : w ≤ length xs = omega arith in
    let d : total ws ≤ length (drop w xs) = rw length-drop (omega arith) in
    rw (take-append-le w xs ys t, drop-append-le w xs ys t, numbers_front ws (drop w xs) ys d)

pub numbers_before : (k : ℕ) (body f : List ℕ) → body_length k ≤ length body → numbers_of (widths_of k) (body ++ f) ≡ numbers_of (widths_of k) body
numbers_before k body f l = numbers_front (widths_of k) body f (omega (arith, body_total k))

text_front : (r f : List ℕ) → is_whole (read_record r) ≡ true → record_text (r ++ f) ≡ record_text r
text_front [] f w = absurd (omega (arith, whole_pos [] w, length_empty [] refl))
text_front (k ∷ body) f w =
    let v : is_whole (read_record (k ∷ (body ++ f))) ≡ true = ap is_whole (read_front (k ∷ body) f w) ∙ w in
    let s = stands (k ∷ body) (whole_pos (k ∷ body) w) in
    rw (
      whole_line (k ∷ (body ++ f)) (whole_pos (k ∷ (body ++ f)) v),
      whole_line (k ∷ body) (whole_pos (k ∷ body) w),
      numbers_before k body f (omega (arith, s.room_for)),
    )

-- ---- the text of a file in pieces

texts : (f : List ℕ) (rs : List (List ℕ)) (R : List ℕ) (ss : List (List ℕ)) → flat record_text ss ≡ R → flat record_text (onto f (wholes rs) ++ ss) ≡ flat record_text (wholes rs) ++ R
unfolding flat
texts f [] R ss e = e
texts f (r ∷ rs) R ss e =
    test (is_whole (read_record r))
    (λ w. rw (w, text_front r f w, texts f rs R ss e, append_assoc))
    (λ w. rw w (texts f rs R ss e))

pub text_split : (a f : List ℕ) → text_of (a ++ f) ≡ whole_text a ++ text_of (drop (whole_length a) a ++ f)
unfolding text_of whole_text
text_split a f = rw (records_split a f) (texts f (records_of a) _ (records_of (drop (whole_length a) a ++ f)) refl)

-- what is left is a line of bytes
rest_text_lem : (r : List ℕ) → record_length r ≡ 0 → rest_text r ≡ text_of r
unfolding rest_text text_of records_from flat record_text
rest_text_lem [] e = refl
rest_text_lem (b ∷ bs) e = rw (not_whole (b ∷ bs) e, append-nil)

pieces : (held : List ℕ) (ps : List (List ℕ)) → record_length held ≡ 0 → text_in held ps ≡ text_of (held ++ flat (λ p. p) ps)
unfolding text_in flat
pieces held [] e = rw append-nil (rest_text_lem held e)
pieces held (p ∷ ps) e =
    let a = held ++ p in
    let f = flat (λ p. p) ps in
    rw (← append_assoc held p f, text_split a f, pieces (drop (whole_length a) a) ps (whole_stop a))

pub in_pieces : InPieces
unfolding InPieces
in_pieces ps = pieces [] ps (length_empty [] refl)
