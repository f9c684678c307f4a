-- A text in pieces: its whole lines stand in the text whatever comes behind them.
use Prim.Native.Nat.{◌-◌, ◌<◌, ◌≤◌, suc, zero, ℕ}
use mathlib.Core.Path.{◌∙◌, ◌≡◌, ap, refl, sym}
use mathlib.Core.Bool.{◌||◌, cond, false, false≢true}
use mathlib.Core.List.{List, [], ◌++◌, ◌∷◌, append_assoc}
use lib.Dec.{eqb, leb, ltb}
use lib.ListN.{drop, get_or, length, length-append, take}
use native.Mathlib.Omega.{arith}
use borrow.Author.Tests.{le-leb, leb-true, lt-ltb, ltb-false, ltb-true, ne_eqb}
use lib.Seq.{length-take-le, take_all, take-append_seam, take-suc}
use Rattle.parsing.specs.Claim.{LinesInPieces}
use Rattle.parsing.specs.Read.{bytes_of_text, glued, good_bytes, good_of, good_then, last_line, line_then, lines_of, lines_read, read_as, words_in, words_read}
use Rattle.parsing.specs.Results.{TextReadAs}
use Rattle.output.specs.Room.{Room, filled, room}
use Rattle.parsing.specs.declared.TextRead.{TextRead}
use Rattle.undo.proofs.Laws.{test}

-- ---- the last whole line

last_snoc : (xs : List ℕ) (c : ℕ) → last_line (xs ++ (c ∷ [])) ≡ cond (eqb c 10) (suc (length xs)) (last_line xs)
unfolding last_line
last_snoc [] c = test (eqb c 10) (λ e. rw e) (λ e. rw e)
last_snoc (x ∷ xs) c =
    test (eqb c 10)
    (λ e. let ih = last_snoc xs c in rw (ih, e) (test (eqb x 10) (λ f. rw f) (λ f. rw (f, lt-ltb 0 (suc (length xs)) (omega arith)))))
    (λ e. let ih = last_snoc xs c in rw (ih, e))

-- from the end on
pub last_at : (l : List ℕ) (i : ℕ) → i < length l → last_line (take (suc i) l) ≡ cond (eqb (get_or l i 0) 10) (suc i) (last_line (take i l))
last_at l i h = rw (take-suc l i 0 h, last_snoc (take i l) (get_or l i 0), length-take-le i l (omega arith))

pub last_none : last_line [] ≡ 0
unfolding last_line
last_none = refl

pub last_in : (l : List ℕ) → last_line l ≤ length l
unfolding last_line
last_in [] = omega arith
last_in (c ∷ cs) = test (eqb c 10 || ltb 0 (last_line cs)) (λ e. rw e (omega (arith, last_in cs))) (λ e. rw e (omega arith))

-- ---- whole lines stand whatever comes behind them

glue_on : (c : ℕ) (ls ms : List (List ℕ)) → 0 < length ls → glued c (ls ++ ms) ≡ glued c ls ++ ms
glue_on c [] ms h = absurd (omega arith)
glue_on c (l ∷ ls) ms h = refl

some_lines : (c : ℕ) (cs : List ℕ) → 0 < length (lines_of (c ∷ cs))
unfolding lines_of
some_lines c [] = test (eqb c 10) (λ e. rw e (omega arith)) (λ e. rw e (omega arith))
some_lines c (d ∷ ds) = let ih = some_lines d ds in test (eqb c 10) (λ e. rw e (omega arith)) (λ e. rw e (glued_some c (lines_of (d ∷ ds))))
  where
    glued_some : (c : ℕ) (ls : List (List ℕ)) → 0 < length (glued c ls)
    glued_some c [] = omega arith
    glued_some c (l ∷ ls) = omega arith

lines_taken : (m : ℕ) (l : List ℕ) → 0 < m → m ≤ length l → 0 < length (lines_of (take m l))
lines_taken zero l h k = absurd (omega arith)
lines_taken (suc m) [] h k = absurd (omega arith)
lines_taken (suc m) (c ∷ cs) h k = some_lines c (take m cs)

lines_split : (a f : List ℕ) → lines_of (a ++ f) ≡ lines_of (take (last_line a) a) ++ lines_of (drop (last_line a) a ++ f)
unfolding lines_of last_line
lines_split [] f = refl
lines_split (c ∷ cs) f =
    let ih = lines_split cs f in
    let m = last_line cs in
    test (ltb 0 m)
    (λ p. test (eqb c 10)
    (λ e. rw (e, ih, e))
    (λ e. rw (e, p, e, ih) (glue_on c (lines_of (take m cs)) _ (lines_taken m cs (ltb-true 0 m p) (last_in cs)))))
    (λ p. let z : last_line cs ≡ 0 = omega (arith, ltb-false 0 m p) in
    test (eqb c 10)
    (λ e. rw (e, z, e))
    (λ e. rw (e, p, e)))

good_append : (ls ms : List (List ℕ)) → good_of (ls ++ ms) ≡ good_of ls ++ cond (lines_read ls).ok (good_of ms) []
unfolding good_of good_then lines_read line_then read_as
good_append [] ms = refl
good_append (l ∷ ls) ms =
    test (words_read (words_in l)).ok
    (λ e. rw (e, good_append ls ms, append_assoc))
    (λ e. rw e)

pub lines_in_pieces : LinesInPieces
unfolding LinesInPieces good_bytes bytes_of_text
lines_in_pieces a f = rw (lines_split a f) (good_append (lines_of (take (last_line a) a)) (lines_of (drop (last_line a) a ++ f)))

-- ---- the bytes of the lines in the form stand at the front of what is read

bytes_good : (ls : List (List ℕ)) → (rest : List ℕ) × ((lines_read ls).bytes ≡ good_of ls ++ rest)
unfolding good_of good_then lines_read line_then read_as
bytes_good [] = ([], refl)
bytes_good (l ∷ ls) =
    let ih = bytes_good ls in
    test (words_read (words_in l)).ok
    (λ e. (ih.0, rw (e, ih.1, append_assoc)))
    (λ e. ((words_read (words_in l)).bytes, rw e))

pub good_front : (text d d' : List ℕ) (r : TextRead) → TextReadAs (bytes_of_text text) (good_bytes text) d d' r → r.cursor.short ≡ false → take r.good d' ≡ good_bytes text
unfolding good_bytes bytes_of_text room filled
good_front text d d' r t s =
    let ls = good_of (lines_of text) in
    let bs = (lines_read (lines_of text)).bytes in
    let o = bytes_good (lines_of text) in
    test (leb (length bs) (length d))
    (λ q. let l : length bs ≤ length d = leb-true (length bs) (length d) q in
    let x : d' ≡ bs ++ drop (length bs) d = ap (λ (w : Room). w.buffer) t.written ∙ rw (take_all (length d) bs l) in
    let k : length ls ≤ length d = omega (arith, ap length o.1, length-append ls o.0) in
    let g : r.good ≡ length ls = t.good_end ∙ rw (le-leb (length ls) (length d) k) in
    let y : d' ≡ ls ++ (o.0 ++ drop (length bs) d) = x ∙ (ap (λ (z : List ℕ). z ++ drop (length bs) d) o.1 ∙ append_assoc ls o.0 (drop (length bs) d)) in
    rw (g, y) (take-append_seam ls (o.0 ++ drop (length bs) d)))
    (λ q. absurd (false≢true (sym s ∙ (ap (λ (w : Room). w.cursor.short) t.written ∙ rw q))))

-- ---- the search for it from the end

pub last_found : (l : List ℕ) → 0 < length l → get_or l (length l - 1) 0 ≡ 10 → last_line l ≡ length l
last_found l z e =
    let n = length l - 1 in
    let m : suc n ≡ length l = omega arith in
    ap last_line (sym (take_all (suc n) l (omega arith))) ∙ (last_at l n (omega arith) ∙ rw (e, m))

pub last_back : (l : List ℕ) → 0 < length l → (get_or l (length l - 1) 0 ≡ 10 → ⊥) → last_line l ≡ last_line (take (length l - 1) l)
last_back l z f =
    let n = length l - 1 in
    ap last_line (sym (take_all (suc n) l (omega arith))) ∙ (last_at l n (omega arith) ∙ rw (ne_eqb (get_or l n 0) 10 f))

pub last_empty : (l : List ℕ) → length l ≡ 0 → last_line l ≡ length l
last_empty [] e = last_none
last_empty (c ∷ l) e = absurd (omega arith)
