-- Accepted images, of any content: the walk has every log entry once, and 'finished' comes with the last.
use Prim.Native.Nat.{◌+◌, ◌<◌, suc, zero, ℕ}
use mathlib.Core.Path.{◌∙◌, ◌≡◌, ap, refl, sym}
use mathlib.Core.Bool.{Bool, false, not, true}
use mathlib.Core.List.{List, [], ◌∷◌}
use lib.Dec.{eqb, leb}
use lib.ListN.{drop, get_or, length, length-drop, length-map}
use native.Mathlib.Omega.{arith}
use borrow.Author.Tests.{eqb-false, eqb-true, le-leb, lt-leb}
use Rattle.laws.proofs.Answers.{refuses_well}
use Rattle.laws.proofs.Circles.{keys_in}
use Rattle.laws.proofs.Whole.{all_counted, by_keys, keys_rise, walk_counted}
use Rattle.laws.specs.Images.{FinishedLast, WalkWhole, is_entry, is_image_refusal, logged_is}
use Rattle.rules.proofs.Codec.Image.{read_records, read_valid}
use Rattle.rules.proofs.Codec.Refusals.{refuses_by}
use Rattle.rules.proofs.Recover.Entries.{entries_read}
use Rattle.rules.proofs.Codec.Valid.{Valid}
use Rattle.rules.proofs.Lists.{any_none}
use Rattle.rules.specs.Claim.{entries_in, is_byte}
use Rattle.rules.specs.Contradiction.{any_broken, any_clash, clash, contradicts, in_order, is_astray, is_circle, is_left_over, is_listed, is_unknown_state, is_unnumbered}
use Rattle.rules.specs.Image.{Logged, Persistent, no_logged}
use Rattle.rules.specs.declared.Listed.{Listed}
use Rattle.rules.specs.Lists.{all, count}
use Rattle.rules.specs.Reader.{Reads, Refuses, Verdict, read_image}
use Rattle.rules.specs.Recovery.{Recovering, is_finished, restore, restore_by, restore_read}
use Rattle.rules.specs.Walk.{entries_from, walk, walk_entries, walk_from}
use Rattle.undo.proofs.Laws.{and_true, is_same, never, or_false, test}
use Rattle.undo.specs.Table.{any}

-- ---- what is not in contradiction

pub record Calm (p : Persistent) : Type 0 where
  pub numbered : any is_unnumbered p.regions ≡ false
  pub entries : any (λ e. not (is_listed e.key p.regions)) p.log ≡ false
  pub circles : any (is_circle p.regions) p.regions ≡ false
  pub clashes : any_clash p.regions p.log ≡ false

calm : (p : Persistent) → contradicts p ≡ false → Calm p
unfolding contradicts
calm p e =
    let rs = p.regions in
    let a = or_false (any is_unnumbered rs) _ e in
    let b = or_false (any is_unknown_state rs) _ a.1 in
    let c = or_false (any (λ r. not (in_order r.deps)) rs) _ b.1 in
    let d = or_false (any (λ r. any (is_astray rs) r.deps) rs) _ c.1 in
    let f = or_false (any (λ e. not (is_listed e.key rs)) p.log) _ d.1 in
    let g = or_false (any_broken rs) _ f.1 in
    let h = or_false (any (is_circle rs) rs) _ g.1 in
    let i = or_false (any is_left_over rs) (any_clash rs p.log) h.1 in
    record { numbered = a.0; entries = f.0; circles = h.0; clashes = i.1 }

-- ---- the walk

module _ (p : Persistent) (v : Valid p) (c : Calm p) where
  pub walk_whole : (f : Logged → Bool) → count f (walk_entries p) ≡ count f p.log
  unfolding walk_entries walk
  walk_whole f =
      let rs = p.regions in
      let es = p.log in
      let k = by_keys rs v.rising in
      let l = length-map rs (λ (r : Listed). r.key) in
      ap (λ qs. count f (entries_from es (walk_from (length rs) qs))) (sym k)
      ∙ walk_counted rs c.circles es f (length rs) (keys_in rs) (keys_rise rs c.numbered v.rising) (omega arith) (λ x e. e)
      ∙ all_counted es f rs c.entries

-- ---- each entry is another one

same_clash : (rs : List Listed) (a b : Logged) → is_entry b a ≡ true → clash rs a b ≡ true
same_clash rs a b e =
    let x = and_true (eqb b.key a.key) (eqb b.line a.line) e in
    rw (eqb-true b.key a.key x.0, eqb-true b.line a.line x.1, is_same a.key, is_same a.line)

clash_same : (rs : List Listed) (a b : Logged) → is_entry a b ≡ true → clash rs a b ≡ true
clash_same rs a b e =
    let x = and_true (eqb a.key b.key) (eqb a.line b.line) e in
    rw (eqb-true a.key b.key x.0, eqb-true a.line b.line x.1, is_same b.key, is_same b.line)

none_same : (rs : List Listed) (e : Logged) (es : List Logged) → any (clash rs e) es ≡ false → count (is_entry e) es ≡ 0
unfolding count
none_same rs e [] n = refl
none_same rs e (x ∷ es) n =
    let o = or_false (clash rs e x) (any (clash rs e) es) n in
    test (is_entry e x) (λ a. never (clash_same rs e x a) o.0) (λ a. rw a (none_same rs e es o.1))

counted_once : (rs : List Listed) (es : List Logged) (i : ℕ) (d : Logged) → any_clash rs es ≡ false → i < length es → count (is_entry (get_or es i d)) es ≡ 1
unfolding any_clash count
counted_once rs [] i d n h = absurd (omega arith)
counted_once rs (e ∷ es) zero d n h =
    let o = or_false (any (clash rs e) es) (any_clash rs es) n in
    rw (is_same e.key, is_same e.line) (ap suc (none_same rs e es o.0))
counted_once rs (e ∷ es) (suc i) d n h =
    let o = or_false (any (clash rs e) es) (any_clash rs es) n in
    let x = get_or es i d in
    let l : i < length es = omega arith in
    test (is_entry x e)
    (λ a. never (same_clash rs e x a) (any_none (clash rs e) es i d o.0 l))
    (λ a. rw a (counted_once rs es i d o.1 l))

pub walk_is_whole : WalkWhole
walk_is_whole bs p y e =
    let v = read_valid bs p y e in
    let c = calm p (read_records bs p e).1 in
    record {
      whole = walk_whole p v c;
      once = λ i h. walk_whole p v c (is_entry (logged_is i p)) ∙ counted_once p.regions p.log i no_logged c.clashes h;
    }

-- ---- 'finished'

count_length : {A : Type 0} (xs : List A) → count (λ x. true) xs ≡ length xs
unfolding count
count_length [] = refl
count_length (x ∷ xs) = ap suc (count_length xs)

module _ (bs : List ℕ) (n : ℕ) (y : all is_byte bs ≡ true) where
  abbrev asked : Recovering
  asked = record { bytes = bs; at = n }

  left_over : (es fs : List Logged) → drop n es ≡ fs → length es ≡ entries_in 0 bs → is_finished (restore_by fs asked).answer ≡ leb (entries_in 0 bs) (n + 1)
  unfolding restore_by
  left_over es [] q l =
      let z = length-drop n es in
      let x = ap length q in
      sym (le-leb (entries_in 0 bs) (n + 1) (omega arith))
  left_over es (f ∷ fs) q l =
      let z = length-drop n es in
      let x = ap length q in
      test (eqb (length fs) 0)
      (λ a. let w = eqb-true (length fs) 0 a in rw a (sym (le-leb (entries_in 0 bs) (n + 1) (omega arith))))
      (λ a. let w = eqb-false (length fs) 0 a in rw a (sym (lt-leb (entries_in 0 bs) (n + 1) (omega arith))))

  by_verdict : (v : Verdict Persistent) → read_image bs ≡ v → refuses_by is_image_refusal v ≡ true → (restore_read v asked).answer.refusal ≡ 0
      → is_finished (restore_read v asked).answer ≡ leb (entries_in 0 bs) (n + 1)
  by_verdict (Refuses c) e g z = let x : false ≡ true = rw z at g in never x refl
  by_verdict (Reads p) e g z =
      let w = (walk_is_whole bs p y e).whole (λ x. true) in
      left_over (walk_entries p) (drop n (walk_entries p)) refl
      (sym (count_length (walk_entries p)) ∙ w ∙ count_length p.log ∙ entries_read bs p (read_records bs p e).0)

pub finished_is_last : FinishedLast
unfolding restore
finished_is_last bs n y z = by_verdict bs n y (read_image bs) refl (refuses_well bs) z
