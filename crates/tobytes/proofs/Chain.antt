-- The bytes that are handed over piece by piece are those of the text.
use Rattle.std.proofs.Common.{◌≡◌, ℕ, ◌≤◌, Bool, true, false, cond, not, ◌&&◌, ltb, leb, List, [], ◌++◌, Option, length, take, drop, sym, subst, refl, ◌∙◌, append_assoc, append-nil, arith, length-append, take-append-drop}
use mathlib.Core.Bool.{false≢true}
use lib.Seq.{drop-length, take-length}
use borrow.Author.Tests.{not-true}
use Rattle.output.proofs.Digits.{decimal_short}
use Rattle.output.proofs.Rooms.{put_front, puts_join}
use Rattle.output.specs.Decimal.{decimal}
use Rattle.output.specs.Room.{Room, puts, room}
use Rattle.output.specs.declared.Cursor.{Cursor}
use Rattle.parsing.proofs.Lines.{lines_in_pieces}
use Rattle.parsing.specs.Claim.{LinesInPieces}
use Rattle.parsing.specs.Read.{bytes_of_text, good_bytes, good_of, lines_of}
use Rattle.pieces.proofs.Message.{put_fits}
use Rattle.pieces.specs.Chain.{Chain, ChainedOver, stop, turn}
use Rattle.undo.proofs.Laws.{and_true, test}
use Rattle.tobytes.specs.Results.{Between, RanOver, Turned, between, complaint, complaint_end, complaint_start, follows, goes_on, line_end, start}
use Rattle.tobytes.specs.declared.Left.{Left}

-- where a piece follows, all lines were in the form and more may come
on_form : (s : Left) (room : ℕ) → goes_on s room ≡ true → s.form ≡ true
unfolding goes_on
on_form s room e =
    let g = and_true s.sent (s.form && (not s.last && ltb s.held room)) e in
    (and_true s.form (not s.last && ltb s.held room) g.1).0

on_more : (s : Left) (room : ℕ) → goes_on s room ≡ true → s.last ≡ false
unfolding goes_on
on_more s room e =
    let g = and_true s.sent (s.form && (not s.last && ltb s.held room)) e in
    let h = and_true s.form (not s.last && ltb s.held room) g.1 in
    not-true s.last (and_true (not s.last) (ltb s.held room) h.1).0

no_bytes : good_bytes [] ≡ []
unfolding good_bytes good_of lines_of
no_bytes = refl

-- a piece, and what comes behind it
piece_right : (last : Bool) (p f : List ℕ) → (last ≡ true → f ≡ []) → good_bytes (p ++ f) ≡ good_bytes (take (line_end last p) p) ++ cond (bytes_of_text (take (line_end last p) p)).ok (good_bytes (drop (line_end last p) p ++ f)) []
unfolding line_end LinesInPieces
piece_right true p f h =
    rw (h refl, append-nil p, take-length p, drop-length p, no_bytes) (test (bytes_of_text p).ok (λ e. rw (e, append-nil)) (λ e. rw (e, append-nil)))
piece_right false p f h = lines_in_pieces p f

pub run_right : {d : List ℕ} {n : ℕ} {came sent : List ℕ} {r : Between} → Chain follows Turned (between d start) n came sent r → (f : List ℕ) → (r.left.last ≡ true → f ≡ [])
    → good_bytes (came ++ f) ≡ sent ++ cond r.left.form (good_bytes (take r.left.held r.buffer ++ f)) []
run_right stop f h = refl
run_right (turn {came = came} {new = new} {t = a} c g t) f h =
    let p = t.pieced in
    let ih = run_right c (new ++ f) (λ z. absurd (false≢true (sym (on_more a.left (length a.buffer) g) ∙ z))) in
    let joined : take a.left.held a.buffer ++ (new ++ f) ≡ p.piece ++ f = rw (t.comes, ← p.begins, ← append_assoc, take-append-drop) in
    let last : leb (length p.piece) a.left.held ≡ true → f ≡ [] = λ z. h (p.ends ∙ z) in
    rw (append_assoc came new f, ih, on_form a.left (length a.buffer) g, joined, piece_right (leb (length p.piece) a.left.held) p.piece f last, p.form, p.left, t.goes, append_assoc)

complaint_short : (n : ℕ) → length (complaint n) ≤ 64
unfolding complaint
complaint_short n = omega (arith, decimal_short n, length-append complaint_start (decimal n ++ complaint_end), length-append (decimal n) complaint_end)

-- the parts of a complaint, in a buffer of 64 bytes
pub complaint_put : (d d' : List ℕ) (n : ℕ) (r₀ r₁ r₂ : Room) (c : Cursor) → length d ≡ 64 → r₀ ≡ room d (record { at = 0; short = false }) → r₁ ≡ puts r₀ complaint_start → r₂ ≡ puts r₁ (decimal n)
    → room d' c ≡ puts r₂ complaint_end → (take c.at d' ≡ complaint n) × (c.at ≤ 64)
unfolding complaint
complaint_put d d' n r₀ r₁ r₂ c l e₀ e₁ e₂ e₃ =
    let e : room d' c ≡ puts (room d (record { at = 0; short = false })) (complaint n) =
    e₃ ∙ rw (
      e₂,
      e₁,
      e₀,
      puts_join (room d (record { at = 0; short = false })) complaint_start (decimal n ++ complaint_end),
      puts_join (puts (room d (record { at = 0; short = false })) complaint_start) (decimal n) complaint_end,
    ) in
    (put_front d d' (complaint n) c e (omega (arith, l, complaint_short n)), rw (← l) (put_fits d d' (complaint n) c e))

-- ---- the whole run

pub run_over : (d d' : List ℕ) (s r : Left) (i i' o o' : Option (List ℕ)) → s ≡ start → ChainedOver follows Turned (between d s) (between d' r) i i' o o' r.sent
    → RanOver i i' o o' d d' r
run_over d d' s r i i' o o' e chained =
    let c : ChainedOver follows Turned (between d start) (between d' r) i i' o o' r.sent =
    subst (λ (x : Left). ChainedOver follows Turned (between d x) (between d' r) i i' o o' r.sent) e chained in
    record { ran = record { run = c.run; right = run_right c.run.run }; streamed = c.streamed }
