-- The first fault of a text: where it is, and that a text without one is in the form.
use Prim.Native.Nat.{◌+◌, ◌-◌, ◌<◌, ◌≤◌, suc, zero, ℕ}
use mathlib.Core.Path.{◌∙◌, ◌≡◌, ap, refl, sym}
use mathlib.Core.Bool.{false, true}
use mathlib.Core.List.{List, [], ◌∷◌}
use lib.Dec.{eqb}
use lib.ListN.{drop, drop_of_length-le, length, length-drop, take}
use native.Mathlib.Omega.{arith}
use native.Mathlib.Numerals.{add-one}
use native.Mathlib.Nat.{add-zero, zero-add}
use borrow.Author.Tests.{eqb-false, eqb-true, ne_eqb}
use lib.Seq.{drop-drop, length-take-le}
use Rattle.parsing.specs.Numbers.{fault_number}
use Rattle.parsing.specs.declared.Fault.{Fault as FaultName}
use Rattle.parsing.specs.declared.Fault.TheVariants.{ExtraNumber, MissingNumber, NotNumber, OutOfRange, UnknownWord}
use Rattle.parsing.specs.declared.Stop.TheVariants.{LineEnd, WordEnd, WordStart}
use Rattle.std.specs.Prelude.{None, Option, Some}
use Rattle.rules.proofs.Lists.{place_le}
use Rattle.rules.specs.Lists.{all, place}
use Rattle.parsing.proofs.Reading.{lines_next}
use Rattle.parsing.specs.Claim.{FaultsTold}
use Rattle.parsing.specs.Fault.{fault, fault_by, fault_of, field_fault, further, in_field, kind_fault, line_fault, lines_fault, missing_number, no_fault, or_else, unknown_word, word_end, word_fault, word_start, words_fault}
use Rattle.parsing.specs.Read.{Got, behind, bytes_of_text, complete, field, fields_from, glued, got, is_digit, kind_of, kind_then, line_then, lines_of, lines_read, no_word, number_in, read_as, stops, width_at, words_in, words_read}
use Rattle.parsing.specs.Results.{Finds, NextWord}
use Rattle.parsing.specs.Fault.{Fault}
use Rattle.parsing.specs.declared.Span.{Span}
use Rattle.undo.proofs.Laws.{test}

-- ---- a word of a line starts in it

end_in : (cs : List ℕ) → word_end cs ≤ length cs
unfolding word_end
end_in cs =
    let s = place (stops WordStart) cs in
    omega (arith, place_le (stops WordStart) cs, place_le (stops WordEnd) (drop s cs), length-drop s cs)

start_in : (i : ℕ) (cs : List ℕ) → word_start i cs ≤ length cs
unfolding word_start
start_in zero cs = place_le (stops WordStart) cs
start_in (suc i) cs = omega (arith, end_in cs, start_in i (drop (word_end cs) cs), length-drop (word_end cs) cs)

pub line_in : (l : List ℕ) → (line_fault l).at ≤ length l
unfolding line_fault
line_in l = start_in (words_fault (words_in l)).at l

-- ---- no fault exactly where the line, and the text, is in the form

else_none : (f g : Fault) → f.kind ≡ 0 → or_else f g ≡ g
unfolding or_else
else_none f g e = rw e

else_some : (f g : Fault) → (f.kind ≡ 0 → ⊥) → or_else f g ≡ f
unfolding or_else
else_some f g n = rw (ne_eqb f.kind 0 n)

word_told : (n : Option ℕ) (w f : ℕ) (word : List ℕ) (g : Fault) (h : Got) → eqb g.kind 0 ≡ h.ok → eqb (or_else (fault (fault_by n w word) f) g).kind 0 ≡ (field w n h).ok
unfolding or_else fault_by field behind got
word_told (Some v) w f word g h e = e
word_told None w f word g h e = test (eqb w 0) (λ a. rw a) (λ a. rw a (test (all is_digit word) (λ b. rw b) (λ b. rw b)))

fields_told : (k f : ℕ) (ws : List (List ℕ)) → eqb (field_fault k f ws).kind 0 ≡ (fields_from k f ws).ok
unfolding field_fault fields_from got word_fault
fields_told k f [] = test (complete k f) (λ e. rw e) (λ e. rw e)
fields_told k f (w ∷ ws) = word_told (number_in (width_at k f) w) (width_at k f) f w (field_fault k (suc f) ws) (fields_from k (suc f) ws) (fields_told k (suc f) ws)

kind_told : (k : ℕ) (ws : List (List ℕ)) → eqb (kind_fault k ws).kind 0 ≡ (kind_then k ws).ok
unfolding kind_fault kind_then behind got
kind_told k ws = test (eqb k no_word) (λ e. rw e) (λ e. rw e (fields_told k 0 ws))

words_told : (ws : List (List ℕ)) → eqb (words_fault ws).kind 0 ≡ (words_read ws).ok
unfolding words_fault words_read got
words_told [] = refl
words_told (w ∷ ws) = kind_told (kind_of w) ws

line_told : (l : List ℕ) → eqb (line_fault l).kind 0 ≡ (words_read (words_in l)).ok
unfolding line_fault
line_told l = words_told (words_in l)

lines_told : (ls : List (List ℕ)) → eqb (lines_fault ls).kind 0 ≡ (lines_read ls).ok
unfolding lines_fault lines_read line_then read_as or_else
lines_told [] = refl
lines_told (l ∷ ls) =
    let e = line_told l in
    test (eqb (line_fault l).kind 0) (λ a. rw (a, sym e ∙ a) (lines_told ls)) (λ a. rw (a, sym e ∙ a, a))

-- ---- its place is in the text

-- the bytes of lines, with a newline for each
spread : List (List ℕ) → ℕ
spread [] = 0
spread (l ∷ ls) = suc (length l) + spread ls

lines_in : (ls : List (List ℕ)) → ((lines_fault ls).kind ≡ 0 → ⊥) → (lines_fault ls).at < spread ls
unfolding lines_fault or_else spread
lines_in [] n = absurd (n refl)
lines_in (l ∷ ls) n =
    test (eqb (line_fault l).kind 0)
    (λ e. rw e (let ih = lines_in ls (λ z. n (rw e z)) in omega arith))
    (λ e. rw e (omega (arith, line_in l)))

spread_in : (t : List ℕ) → spread (lines_of t) ≤ length t + 1
unfolding lines_of spread
spread_in [] = omega arith
spread_in (c ∷ cs) =
    let ih = spread_in cs in
    test (eqb c 10) (λ e. rw e (omega arith)) (λ e. rw e (glued_spread (lines_of cs) ih))
  where
    glued_spread : (ls : List (List ℕ)) → spread ls ≤ length cs + 1 → spread (glued c ls) ≤ suc (length cs) + 1
    glued_spread [] h = omega arith
    glued_spread (l ∷ ls) h = omega arith

pub faults_told : FaultsTold
unfolding FaultsTold fault_of bytes_of_text
faults_told text =
    let f = lines_fault (lines_of text) in
    let e = lines_told (lines_of text) in
    test (eqb f.kind 0)
    (λ a. let n = else_none f (fault 0 (length text)) (eqb-true f.kind 0 a) in rw n (sym a ∙ e, omega arith))
    (λ a. let n = else_some f (fault 0 (length text)) (eqb-false f.kind 0 a) in rw n (e, omega (arith, lines_in (lines_of text) (eqb-false f.kind 0 a), spread_in text)))

-- ---- the search for it in a line: f fields are passed, and the words from `at` on are still ahead

pub record Ahead (k : ℕ) (line : List ℕ) (start at f : ℕ) : Type 0 where
  pub same_fault : field_fault k f (words_in (drop at line)) ≡ field_fault k 0 (words_in (drop start line))
  pub same_place : (i : ℕ) → at + word_start i (drop at line) ≡ start + word_start (f + i) (drop start line)

pub never_none : (f : FaultName) → fault_number f ≡ 0 → ⊥
never_none UnknownWord e = absurd (omega arith)
never_none NotNumber e = absurd (omega arith)
never_none OutOfRange e = absurd (omega arith)
never_none MissingNumber e = absurd (omega arith)
never_none ExtraNumber e = absurd (omega arith)

-- what is found is a fault of the kind x in field f, or none
finds_fault : (g : Fault) (line : List ℕ) (at x f s : ℕ) → fault x f ≡ g → s ≡ at + word_start f (drop at line) → Finds g line at (record { kind = x; at = s })
finds_fault g line at x f s e h = record { tells = ap (λ (q : Fault). q.kind) e; placed = λ n. rw (← e) h }

finds_none : (g : Fault) (line : List ℕ) (at : ℕ) → g ≡ no_fault → Finds g line at no_fault
finds_none g line at e = record { tells = rw e; placed = λ n. absurd (n refl) }

module _ (k : ℕ) (line : List ℕ) (start at f : ℕ) (a : Ahead k line start at f) (w : Span) (nw : NextWord line at w) where
  here : w.start ≡ start + word_start f (drop start line)
  here = nw.starts ∙ (a.same_place 0 ∙ rw (add-zero f))

  pub ends_well : w.start ≡ w.end → complete k f ≡ true → Finds (field_fault k 0 (words_in (drop start line))) line start no_fault
  unfolding field_fault
  ends_well z e = finds_none (field_fault k 0 (words_in (drop start line))) line start (sym a.same_fault ∙ rw (nw.none z, e))

  pub ends_early : w.start ≡ w.end → complete k f ≡ false → Finds (field_fault k 0 (words_in (drop start line))) line start (record { kind = missing_number; at = w.start })
  unfolding field_fault
  ends_early z e = finds_fault (field_fault k 0 (words_in (drop start line))) line start missing_number f w.start (sym (sym a.same_fault ∙ rw (nw.none z, e))) here

  module _ (x : ℕ) (h : w.start < w.end) (e : x ≡ word_fault (width_at k f) (take (w.end - w.start) (drop w.start line))) where
    pub wrong_word : (x ≡ 0 → ⊥) → Finds (field_fault k 0 (words_in (drop start line))) line start (record { kind = x; at = w.start })
    unfolding field_fault
    wrong_word n =
        let u : field_fault k f (words_in (drop at line)) ≡ fault x f = rw (nw.some h, ← e) (else_some (fault x f) _ n) in
        finds_fault (field_fault k 0 (words_in (drop start line))) line start x f w.start (sym u ∙ a.same_fault) here

    pub right_word : x ≡ 0 → Ahead k line start w.end (f + 1)
    unfolding field_fault word_start
    right_word z =
        let u : field_fault k f (words_in (drop at line)) ≡ field_fault k (suc f) (words_in (drop w.end line)) = rw (nw.some h, ← e) (else_none (fault x f) _ z) in
        let d : drop (word_end (drop at line)) (drop at line) ≡ drop w.end line = rw (drop-drop (word_end (drop at line)) at line, ← nw.ends h) in
        record {
          same_fault = rw add-one (sym u ∙ a.same_fault);
          same_place = λ i. let p = rw d at (a.same_place (suc i)) in let m : (f + 1) + i ≡ f + suc i = omega arith in rw m (omega (arith, nw.ends h));
        }

-- ---- the fault of a line by its first word

module _ (line : List ℕ) (w : Span) (nw : NextWord line 0 w) where
  pub no_word_lem : w.start ≡ w.end → Finds (words_fault (words_in line)) line 0 no_fault
  unfolding words_fault
  no_word_lem z = finds_none (words_fault (words_in line)) line 0 (rw (nw.none z))

  module _ (k : ℕ) (h : w.start < w.end) (e : k ≡ kind_of (take (w.end - w.start) (drop w.start line))) where
    pub unknown : k ≡ no_word → Finds (words_fault (words_in line)) line 0 (record { kind = unknown_word; at = w.start })
    unfolding words_fault kind_fault
    unknown z = finds_fault (words_fault (words_in line)) line 0 unknown_word 0 w.start (rw (nw.some h, ← e, z)) nw.starts

    pub known : (r : Fault) → (k ≡ no_word → ⊥) → Finds (field_fault k 0 (words_in (drop w.end line))) line w.end r → Finds (words_fault (words_in line)) line 0 r
    unfolding words_fault kind_fault word_start
    known r n f =
        let g : words_fault (words_in line) ≡ in_field (field_fault k 0 (words_in (drop w.end line))) = rw (nw.some h, ← e, ne_eqb k no_word n) in
        let d : w.end ≡ word_end line = nw.ends h ∙ zero-add (word_end line) in
        record { tells = rw g f.tells; placed = λ z. f.placed z ∙ rw (g, zero-add, d) }

pub line_kind : (line : List ℕ) (r : Fault) → Finds (words_fault (words_in line)) line 0 r → r.kind ≡ (line_fault line).kind
unfolding line_fault
line_kind line r f = f.tells

pub line_place : (line : List ℕ) (r : Fault) → Finds (words_fault (words_in line)) line 0 r → (r.kind ≡ 0 → ⊥) → r.at ≡ (line_fault line).at
unfolding line_fault
line_place line r f n = f.placed n ∙ zero-add (word_start (words_fault (words_in line)).at line)

-- ---- the fault of a text by its lines

pub line_length : (text : List ℕ) (at e : ℕ) → e ≡ at + place (stops LineEnd) (drop at text) → length (take (e - at) (drop at text)) ≡ e - at
line_length text at e f = length-take-le (e - at) (drop at text) (omega (arith, place_le (stops LineEnd) (drop at text)))

module _ (text : List ℕ) (at : ℕ) (a : further at (lines_fault (lines_of (drop at text))) ≡ lines_fault (lines_of text)) where
  pub no_line : length text ≤ at → fault 0 (length text) ≡ fault_of text
  unfolding fault_of lines_fault lines_of
  no_line h =
      let z : (lines_fault (lines_of text)).kind ≡ 0 = ap (λ (q : Fault). q.kind) (sym a) ∙ rw (drop_of_length-le text h) in
      sym (else_none (lines_fault (lines_of text)) (fault 0 (length text)) z)

  module _ (e : ℕ) (h : at < length text) (f : e ≡ at + place (stops LineEnd) (drop at text)) where
    from_here : lines_fault (lines_of (drop at text)) ≡ or_else (line_fault (take (e - at) (drop at text))) (further (suc (length (take (e - at) (drop at text)))) (lines_fault (lines_of (drop (e + 1) text))))
    unfolding lines_fault
    from_here = rw (lines_next text at e h f)

    module _ (r : Fault) (l : Finds (words_fault (words_in (take (e - at) (drop at text)))) (take (e - at) (drop at text)) 0 r) where
      pub bad_line : (r.kind ≡ 0 → ⊥) → fault r.kind (at + r.at) ≡ fault_of text
      unfolding fault_of
      bad_line n =
          let g = line_fault (take (e - at) (drop at text)) in
          let k = line_kind (take (e - at) (drop at text)) r l in
          let m : g.kind ≡ 0 → ⊥ = λ z. n (k ∙ z) in
          let u : further at g ≡ lines_fault (lines_of text) = ap (further at) (sym (from_here ∙ else_some g _ m)) ∙ a in
          let v : (lines_fault (lines_of text)).kind ≡ 0 → ⊥ = λ z. m (ap (λ (q : Fault). q.kind) u ∙ z) in
          rw (k, line_place (take (e - at) (drop at text)) r l n) (u ∙ sym (else_some (lines_fault (lines_of text)) (fault 0 (length text)) v))

      pub good_line : r.kind ≡ 0 → further (e + 1) (lines_fault (lines_of (drop (e + 1) text))) ≡ lines_fault (lines_of text)
      good_line z =
          let g = line_fault (take (e - at) (drop at text)) in
          let rest = lines_fault (lines_of (drop (e + 1) text)) in
          let m : g.kind ≡ 0 = sym (line_kind (take (e - at) (drop at text)) r l) ∙ z in
          let p : e + 1 + rest.at ≡ at + (suc (length (take (e - at) (drop at text))) + rest.at) = omega (arith, line_length text at e f) in
          ap (fault rest.kind) p ∙ (ap (further at) (sym (from_here ∙ else_none g _ m)) ∙ a)
