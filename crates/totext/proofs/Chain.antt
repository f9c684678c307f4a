-- The text that is handed over piece by piece is that of the file.
use Prim.Native.Nat.{◌≤◌, suc, zero, ℕ}
use mathlib.Core.Bool.{Bool, ◌&&◌, false, true}
use mathlib.Core.List.{List, [], ◌++◌, ◌∷◌, append_assoc, append-nil}
use mathlib.Core.Logic.{inl, inr}
use mathlib.Core.Path.{◌∙◌, ◌≡◌, ap, refl, subst}
use lib.Dec.{ltb}
use lib.ListN.{get_or, length, take, take-append-drop}
use native.Mathlib.Omega.{arith}
use borrow.Author.Tests.{ltb-false, ltb-true}
use Rattle.std.proofs.KnownBytes.{Appends-trans}
use Rattle.std.specs.Io.KnownBytes.{Appends}
use Rattle.std.specs.Prelude.{Option}
use Rattle.events.proofs.Records.{length_empty, length_whole, whole_stop}
use Rattle.events.specs.Whole.{record_length}
use Rattle.output.proofs.Rooms.{put_front}
use Rattle.output.specs.Room.{Room, puts, room}
use Rattle.output.specs.declared.Cursor.{Cursor}
use Rattle.pieces.proofs.Flow.{streamed_all}
use Rattle.pieces.specs.Chain.{Chain, ChainedOver, stop, turn}
use Rattle.printing.proofs.Pieces.{text_split}
use Rattle.printing.specs.Text.{line_text, number_text, text_of}
use Rattle.rules.specs.Kinds.{body_lengths, bytes_word, is_kind, largest, longest_record}
use Rattle.rules.specs.Lists.{flat}
use Rattle.undo.proofs.Laws.{and_true, test}
use Rattle.totext.specs.Results.{Between, Numbered, Parted, RanOver, Rest, RestedOver, Turned, between, follows, is_left, rest, start}
use Rattle.totext.specs.declared.Left.{Left}

abbrev Pieces : ℕ → List ℕ → List ℕ → Between → List ℕ → Type 0
Pieces n came sent r d = Chain follows Turned (between d start) n came sent r

pub run_right : {d : List ℕ} {n : ℕ} {came sent : List ℕ} {r : Between} → Pieces n came sent r d → (f : List ℕ)
    → text_of (came ++ f) ≡ sent ++ text_of (take r.left.held r.buffer ++ f)
run_right stop f = refl
run_right (turn {came = came} {new = new} {t = a} c g t) f =
    let p = t.pieced in
    let ih = run_right c (new ++ f) in
    let joined : take a.left.held a.buffer ++ (new ++ f) ≡ p.piece ++ f = rw (t.comes, ← p.begins, ← append_assoc, take-append-drop) in
    rw (append_assoc came new f, ih, joined, text_split p.piece f, p.left, t.goes, append_assoc)

pub run_rests : {d : List ℕ} {n : ℕ} {came sent : List ℕ} {r : Between} → Pieces n came sent r d → record_length (take r.left.held r.buffer) ≡ 0
run_rests stop = length_empty [] refl
run_rests (turn c g t) = rw t.pieced.left (whole_stop t.pieced.piece)

-- ---- as many bytes as the longest record has, and no whole record in front: an unknown kind

largest_at : (ns : List ℕ) (k : ℕ) → get_or ns k 0 ≤ largest ns
largest_at [] zero = omega arith
largest_at [] (suc k) = omega arith
largest_at (n ∷ ns) zero = test (ltb (largest ns) n) (λ e. rw e (omega arith)) (λ e. rw e (ltb-false (largest ns) n e))
largest_at (n ∷ ns) (suc k) = test (ltb (largest ns) n) (λ e. rw e (omega (arith, largest_at ns k, ltb-true (largest ns) n e))) (λ e. rw e (largest_at ns k))

pub long_unknown : (r : List ℕ) → longest_record ≤ length r → record_length r ≡ 0 → is_kind (get_or r 0 0) ≡ false
long_unknown r h e =
    test (is_kind (get_or r 0 0))
    (λ u. absurd (omega (arith, e, length_whole r (omega arith) u (omega (arith, largest_at body_lengths (get_or r 0 0))))))
    (λ u. u)

-- ---- the whole run

pub run_over : (d d' : List ℕ) (s r : Left) (i i' o o' : Option (List ℕ)) → s ≡ start → ChainedOver follows Turned (between d s) (between d' r) i i' o o' r.sent
    → RanOver i i' o o' d d' r
run_over d d' s r i i' o o' e chained =
    let c : ChainedOver follows Turned (between d start) (between d' r) i i' o o' r.sent =
    subst (λ (x : Left). ChainedOver follows Turned (between d x) (between d' r) i i' o o' r.sent) e chained in
    record {
      ran = record { run = c.run; right = run_right c.run.run; rests = run_rests c.run.run; unknown = λ h. long_unknown (take r.held d') h (run_rests c.run.run) };
      streamed = c.streamed;
    }

-- ---- what a turn gives

-- text that has room in an empty buffer stands at its front
pub text_out : (d d' bs : List ℕ) (r : Room) (c : Cursor) → r ≡ room d (record { at = 0; short = false }) → room d' c ≡ puts r bs → length bs ≤ length d → take c.at d' ≡ bs
text_out d d' bs r c e₀ e h = put_front d d' bs c (e ∙ ap (λ (x : Room). puts x bs) e₀) h

-- ---- the rest of a file

pub rest_right : {d : List ℕ} {held n : ℕ} {came sent : List ℕ} {r : Rest} → Chain is_left Parted (rest d held) n came sent r → take held d ++ came ≡ sent ++ take r.count r.buffer
rest_right {d} {held} stop = append-nil (take held d)
rest_right {d} {held} (turn {came = came} {new = new} {t = a} c g t) =
    rw (← append_assoc (take held d) came new, rest_right c, t.comes, t.goes, append_assoc)

flat_join : (f : ℕ → List ℕ) (xs ys : List ℕ) → flat f (xs ++ ys) ≡ flat f xs ++ flat f ys
unfolding flat
flat_join f [] ys = refl
flat_join f (x ∷ xs) ys = rw (flat_join f xs ys, append_assoc)

numbers_join : (out new bs ps : List ℕ) → out ≡ flat number_text bs → new ≡ flat number_text ps → out ++ new ≡ flat number_text (bs ++ ps)
numbers_join out new bs ps e p = rw (e, p, flat_join number_text bs ps)

-- a line of bytes: its word, the numbers and its end
line_over : (a b c e : Option (List ℕ)) (ns : List ℕ) → Appends a b bytes_word → Appends b c (flat number_text ns) → Appends c e (10 ∷ []) → Appends a e (line_text bytes_word ns)
unfolding line_text
line_over a b c e ns p q r = Appends-trans a b e bytes_word _ p (Appends-trans b c e _ _ q r)

module _ {S : Type 0} (f : S → Rest) (told : S → Bool) where
  abbrev Numbering : S → ℕ → List ℕ → List ℕ → S → Type 0
  Numbering s n came out r = Chain (λ (a : S). told a && is_left (f a)) (λ (a b : S) (new out : List ℕ). told b ≡ true → Numbered (f a) (f b) new out) s n came out r

  -- the bytes of all turns, where each was told to have gone out
  numbered : {s r : S} {n : ℕ} {came out : List ℕ} → Numbering s n came out r → told r ≡ true
      → (bytes : List ℕ) × (Chain is_left Parted (f s) n came bytes (f r) × (out ≡ flat number_text bytes))
  unfolding flat
  numbered stop e = ([], (stop, refl))
  numbered (turn {sent = out} {out = new} {t = a} c g t) e =
      let h = and_true (told a) (is_left (f a)) g in
      let before = numbered c h.0 in
      let p = t e in
      (before.0 ++ p.0, (turn before.1.0 h.1 p.1.0, numbers_join out new before.0 p.0 before.1.1 p.1.1))

  pub rest_over : {s r : S} (i i' o o₁ o₂ o' : Option (List ℕ))
      → ChainedOver (λ (a : S). told a && is_left (f a)) (λ (a b : S) (new out : List ℕ). told b ≡ true → Numbered (f a) (f b) new out) s r i i' o₁ o₂ (told r)
      → told r ≡ true → Appends o o₁ bytes_word → Appends o₂ o' (10 ∷ []) → RestedOver i i' o o' (f s).buffer (f r).buffer (f s).count
  rest_over {s} {r} i i' o o₁ o₂ o' c e p q =
      let n = numbered c.run.run e in
      record {
        rested =
            record {
              left = (f r).count;
              run = record { turns = c.run.turns; came = c.run.came; sent = n.0; run = n.1.0; ends = elim c.run.ends [ inl w ↦ inl (rw e at w) | inr w ↦ inr w ] };
              right = rest_right n.1.0;
            };
        streamed = streamed_all i i' o o' c.run.came (line_text bytes_word n.0) c.streamed.reads (line_over o o₁ o₂ o' n.0 p (rw (← n.1.1) (c.streamed.writes e)) q);
      }
