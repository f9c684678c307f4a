-- What is read of a line and of a text, one part after the other.
use Prim.Native.Nat.{◌+◌, ◌-◌, ◌<◌, ◌≤◌, suc, ℕ}
use mathlib.Core.Path.{◌∙◌, ◌≡◌, ap, refl, sym}
use mathlib.Core.Bool.{Bool, false, true}
use mathlib.Core.List.{List, [], ◌++◌, ◌∷◌}
use lib.Dec.{eqb}
use lib.ListN.{drop, drop_of_length-le, get_or, length, length-drop, take}
use native.Mathlib.Omega.{arith}
use borrow.Author.Tests.{ne_eqb}
use lib.Seq.{drop-cons, drop-drop}
use Rattle.parsing.specs.declared.Stop.TheVariants.{LineEnd}
use Rattle.std.specs.Prelude.{None, Some}
use Rattle.rules.proofs.Lists.{place_le}
use Rattle.rules.specs.Bytes.{bytes_of}
use Rattle.rules.specs.Lists.{place}
use Rattle.output.proofs.Rooms.{puts_filled, puts_join}
use Rattle.parsing.specs.Read.{Got, Text, behind, bytes_of_text, complete, field, fields_from, glued, good_bytes, good_of, good_then, got, kind_bytes, kind_of, kind_then, line_then, lines_of, lines_read, no_word, number_in, read_as, stops, width_at, words_in, words_read}
use Rattle.parsing.specs.Results.{ReadsAs, TextReadAs}
use Rattle.output.specs.Room.{Room, filled, puts, room}
use Rattle.output.specs.declared.Cursor.{Cursor}
use Rattle.output.specs.Writer.{Puts, room_of}
use Rattle.output.specs.declared.Writer.{Writer}
use Rattle.undo.proofs.Laws.{test}
use Rattle.undo.proofs.Values.{end}

-- what is still to read from a place on, behind what is put already, is what was to read from the start
pub record Left (g g₀ : Got) (r r₀ : Room) : Type 0 where
  pub same_bytes : puts r g.bytes ≡ puts r₀ g₀.bytes
  pub same_ok : g.ok ≡ g₀.ok

module _ (k f : ℕ) (l : List ℕ) where
  pub fields_none : words_in l ≡ [] → fields_from k f (words_in l) ≡ got [] (complete k f)
  unfolding fields_from
  fields_none e = rw e

  module _ (w : List ℕ) (ws : List (List ℕ)) (e : words_in l ≡ w ∷ ws) where
    pub fields_not : number_in (width_at k f) w ≡ None → fields_from k f (words_in l) ≡ got [] false
    unfolding fields_from field
    fields_not n = rw (e, n)

    pub fields_is : (v : ℕ) → number_in (width_at k f) w ≡ Some v → fields_from k f (words_in l) ≡ behind (bytes_of (width_at k f) v) (fields_from k (suc f) ws)
    unfolding fields_from field
    fields_is v n = rw (e, n)

-- the end of a line, in the form or not
pub left_end : (g g₀ : Got) (r r₀ : Room) (ok : Bool) → g ≡ got [] ok → Left g g₀ r r₀ → (r ≡ puts r₀ g₀.bytes) × (ok ≡ g₀.ok)
unfolding got puts
left_end g g₀ r r₀ ok e h = (let b = rw e at h.same_bytes in b, let o = rw e at h.same_ok in o)

-- a field more
pub left_more : (g g₀ h : Got) (r r₀ : Room) (bs : List ℕ) → g ≡ behind bs h → Left g g₀ r r₀ → Left h g₀ (puts r bs) r₀
unfolding got behind
left_more g g₀ h r r₀ bs e l = record { same_bytes = sym (puts_join r bs h.bytes) ∙ (rw e at l.same_bytes); same_ok = rw e at l.same_ok }

-- ---- a line by its words

module _ (line : List ℕ) where
  pub line_none : words_in line ≡ [] → words_read (words_in line) ≡ got [] true
  unfolding words_read
  line_none e = rw e

  module _ (w : List ℕ) (ws : List (List ℕ)) (e : words_in line ≡ w ∷ ws) where
    pub line_unknown : kind_of w ≡ no_word → words_read (words_in line) ≡ got [] false
    unfolding words_read kind_then
    line_unknown k = rw (e, k)

    pub line_kind : (kind_of w ≡ no_word → ⊥) → words_read (words_in line) ≡ behind (kind_bytes (kind_of w)) (fields_from (kind_of w) 0 ws)
    unfolding words_read kind_then
    line_kind k = rw (e, ne_eqb (kind_of w) no_word k)

pub reads_none : (g : Got) (w : Writer) (ok : Bool) → g ≡ got [] ok → ReadsAs g w w ok
unfolding got puts
reads_none g w ok e = record { written = (refl, rw e); tells = rw e }

pub reads_behind : (g h : Got) (bs : List ℕ) (w m x : Writer) (ok : Bool) → g ≡ behind bs h → Puts w bs m → ReadsAs h m x ok → ReadsAs g w x ok
unfolding got behind
reads_behind g h bs w m x ok e p l =
    record { written = (l.written.0 ∙ p.0, rw (e, puts_join, ← p.1) l.written.1); tells = rw e l.tells }

-- ---- a text by its lines

pub glued_line : (c : ℕ) (l : List ℕ) (ls : List (List ℕ)) (m : List (List ℕ)) → m ≡ l ∷ ls → glued c m ≡ (c ∷ l) ∷ ls
glued_line c l ls m e = rw e

lines_at : (c : ℕ) (cs : List ℕ) → lines_of (c ∷ cs) ≡ take (place (stops LineEnd) (c ∷ cs)) (c ∷ cs) ∷ lines_of (drop (suc (place (stops LineEnd) (c ∷ cs))) (c ∷ cs))
unfolding lines_of place stops
lines_at c [] = test (eqb c 10) (λ e. rw e) (λ e. rw e)
lines_at c (d ∷ ds) = let ih = lines_at d ds in test (eqb c 10) (λ e. rw e) (λ e. rw e (glued_line c _ _ _ ih))

-- the line at a place, and those behind it
pub lines_next : (text : List ℕ) (at end : ℕ) → at < length text → end ≡ at + place (stops LineEnd) (drop at text) → lines_of (drop at text) ≡ take (end - at) (drop at text) ∷ lines_of (drop (end + 1) text)
lines_next text at end h e =
    let l = drop at text in
    let n = place (stops LineEnd) l in
    let m : end - at ≡ n = omega arith in
    let u : end + 1 ≡ at + suc n = omega arith in
    let s : lines_of l ≡ take n l ∷ lines_of (drop (suc n) l) = rw (drop-cons text at 0 h) (lines_at (get_or text at 0) (drop (suc at) text)) in
    rw (m, u, ← drop-drop (suc n) at text, s)

pub text_line : (text : List ℕ) (at end : ℕ) → at < length text → end ≡ at + place (stops LineEnd) (drop at text) → bytes_of_text (drop at text) ≡ line_then (words_read (words_in (take (end - at) (drop at text)))) (bytes_of_text (drop (end + 1) text))
unfolding bytes_of_text lines_read
text_line text at end h e = rw (lines_next text at end h e)

-- the same of the lines in the form
pub good_line : (text : List ℕ) (at end : ℕ) → at < length text → end ≡ at + place (stops LineEnd) (drop at text) → good_bytes (drop at text) ≡ good_then (words_read (words_in (take (end - at) (drop at text)))) (good_bytes (drop (end + 1) text))
unfolding good_bytes good_of
good_line text at end h e = rw (lines_next text at end h e)

pub good_none : (text : List ℕ) (at : ℕ) → length text ≤ at → good_bytes (drop at text) ≡ []
unfolding good_bytes lines_of good_of
good_none text at h = rw (drop_of_length-le text h)

pub good_not : (g : Got) (bs : List ℕ) → g.ok ≡ false → good_then g bs ≡ []
unfolding good_then
good_not g bs e = rw e

pub good_on : (g : Got) (bs : List ℕ) → g.ok ≡ true → good_then g bs ≡ g.bytes ++ bs
unfolding good_then
good_on g bs e = rw e

-- where no line in the form is left, they are put
pub good_stop : (d x bs ls : List ℕ) (q : Cursor) → bs ≡ [] → puts (room x q) bs ≡ puts (room d (record { at = 0; short = false })) ls → q.at ≡ (filled d ls).cursor.at
unfolding puts room
good_stop d x bs ls q e h = ap (λ (r : Room). r.cursor.at) ((rw e at h) ∙ puts_filled d ls)

pub record LeftText (t t₀ : Text) (r r₀ : Room) (n : ℕ) : Type 0 where
  pub same_bytes : puts r t.bytes ≡ puts r₀ t₀.bytes
  pub same_lines : n + t.lines ≡ t₀.lines
  pub same_ok : t.ok ≡ t₀.ok

pub text_none : (text : List ℕ) (at : ℕ) → length text ≤ at → bytes_of_text (drop at text) ≡ read_as [] 0 true
unfolding bytes_of_text lines_of lines_read
text_none text at h = rw (drop_of_length-le text h)

pub then_not : (g : Got) (t : Text) → g.ok ≡ false → line_then g t ≡ read_as g.bytes 0 false
unfolding line_then
then_not g t e = rw e

pub then_on : (g : Got) (t : Text) → g.ok ≡ true → line_then g t ≡ read_as (g.bytes ++ t.bytes) (suc t.lines) t.ok
unfolding line_then
then_on g t e = rw e

-- the end of a text, in the form or not, where the writer w has filled the buffer x
pub text_stop : (t t₀ : Text) (r : Room) (d : List ℕ) (n : ℕ) (bs : List ℕ) (ok : Bool) (x : List ℕ) (w : Writer) (ls : List ℕ) (g : ℕ) → t ≡ read_as bs 0 ok → LeftText t t₀ r (room d (record { at = 0; short = false })) n → x ≡ w.out.now → room_of w ≡ puts r bs → g ≡ (filled d ls).cursor.at → TextReadAs t₀ ls d x (record { cursor = w.cursor; good = g; lines = n; ok = ok })
unfolding read_as
text_stop t t₀ r d n bs ok x w ls g e l y p z =
    record {
      good_end = z;
      written = rw y (p ∙ ((rw e at l.same_bytes) ∙ puts_filled d t₀.bytes));
      counted = let k = rw e at l.same_lines in omega arith;
      tells = rw e at l.same_ok;
    }

pub text_step : (t t₀ u : Text) (r r₀ : Room) (n : ℕ) (bs : List ℕ) → t ≡ read_as (bs ++ u.bytes) (suc u.lines) u.ok → LeftText t t₀ r r₀ n → LeftText u t₀ (puts r bs) r₀ (n + 1)
unfolding read_as
text_step t t₀ u r r₀ n bs e l =
    record {
      same_bytes = sym (puts_join r bs u.bytes) ∙ (rw e at l.same_bytes);
      same_lines = let k = rw e at l.same_lines in omega arith;
      same_ok = rw e at l.same_ok;
    }

pub end_in : (text : List ℕ) (at end : ℕ) → at < length text → end ≡ at + place (stops LineEnd) (drop at text) → end ≤ length text
end_in text at end h e = omega (arith, place_le (stops LineEnd) (drop at text), length-drop at text)
