-- The choices of words leave what the request says: at the cut, and inside a step.
use Prim.Native.Nat.{◌<◌, suc, zero, ℕ}
use mathlib.Core.Path.{◌∙◌, ◌≡◌, ap, refl, subst, sym}
use mathlib.Core.Logic.{◌⊎◌, inl, inr, ⊎_elim}
use mathlib.Core.Bool.{Bool, cond, false, not, true}
use mathlib.Core.List.{List, [], ◌++◌, ◌∷◌}
use lib.Dec.{eqb, ltb}
use lib.ListN.{drop, length, set}
use lib.Seq.{ext_get_or, get_or-set_other, get_or-set_same}
use native.Mathlib.Nat.{zero-add}
use native.Mathlib.Omega.{arith}
use borrow.Author.Tests.{eq-eqb, eqb-false, eqb-true, ltb-false, ltb-true, not-false, not-true}
use Rattle.rules.proofs.Codec.Back.{image_read}
use Rattle.rules.proofs.Codec.Bytes.{all_at, is_line, is_word}
use Rattle.rules.proofs.Codec.Image.{only_image, read_records, read_valid}
use Rattle.rules.proofs.Codec.Store.{put_back_lem, put_valid}
use Rattle.rules.proofs.Codec.Valid.{Valid}
use Rattle.rules.proofs.Lists.{or_none}
use Rattle.rules.proofs.Recover.Steps.{fits_left}
use Rattle.rules.proofs.Tests.{passed}
use Rattle.rules.specs.Acknowledge.{data_ack}
use Rattle.rules.specs.Bytes.{line_at, num_of}
use Rattle.rules.specs.Claim.{is_byte}
use Rattle.rules.specs.Contradiction.{contradicts}
use Rattle.rules.specs.Image.{Logged, Persistent, encode, image, saved, saved_log, saved_thread, with_logged, with_medium}
use Rattle.rules.specs.Lists.{all}
use Rattle.rules.specs.Reader.{Reads, read_image}
use Rattle.rules.specs.Recovery.{Recovering, line_start, recovery_call, restore, restore_by}
use Rattle.rules.specs.Refusal.{in_flight, refusal, tests_of}
use Rattle.rules.specs.Step.{apply, settled_board}
use Rattle.rules.specs.Tables.{line_of}
use Rattle.rules.specs.declared.Board.{Board}
use Rattle.rules.specs.Walk.{walk_entries}
use Rattle.rules.specs.declared.Event.TheVariants.{Cut, DataAck}
use Rattle.laws.proofs.Reserves.{says}
use Rattle.laws.specs.Bench.{Bench, next_call}
use Rattle.torn.proofs.Torn.{cut_place}
use Rattle.undo.proofs.Laws.{and_true, never, test}
use Rattle.torn.proofs.Mixed.{behind_last, either, image_line, mixed_at, mixed_length, mixed_line, mixed_none, mixed_word, torn_length, torn_line}
use Rattle.torn.specs.Choices.{AtTheCut, Differs, Tears, TornWords, word_in}
use Rattle.torn.specs.Bench.{torn_call}
use Rattle.torn.specs.Torn.{Inside, is_torn, mixed, torn_act, torn_by, torn_from, torn_image, torn_state}

-- ---- at the cut

module _ (b : Board) where
  -- a line of the torn state
  line_torn : (p : ℕ → ℕ → Bool) (l : ℕ) → line_of l (torn_state p b).medium ≡ cond (in_flight l b.tables) (mixed (p l) 0 (line_of l (saved b).medium) (line_of l b.car)) (line_of l (saved b).medium)
  unfolding torn_state is_torn
  line_torn p l = let t = torn_line p b 0 l (saved b).medium in rw (zero-add l) at t

  lines_torn : (p : ℕ → ℕ → Bool) → length (torn_state p b).medium ≡ length (saved b).medium
  unfolding torn_state
  lines_torn p = torn_length p b 0 (saved b).medium

  rest_saved : (p : ℕ → ℕ → Bool) → torn_state p b ≡ with_medium (torn_state p b).medium (saved b)
  unfolding torn_state
  rest_saved p = refl

  differs : (p : ℕ → ℕ → Bool) → Differs b (torn_state p b)
  differs p = record { rest = rest_saved p; lines = lines_torn p; long = long; words = words }
    where
      long : (l : ℕ) → length (line_of l (torn_state p b).medium) ≡ length (line_of l (saved b).medium)
      long l =
          rw (line_torn p l)
          (test (in_flight l b.tables) (λ f. rw f (mixed_length (p l) 0 (line_of l (saved b).medium) (line_of l b.car))) (λ f. rw f))

      words : (l w : ℕ) → (word_in l w (torn_state p b).medium ≡ word_in l w (saved b).medium)
          ⊎ ((in_flight l b.tables ≡ true) × (word_in l w (torn_state p b).medium ≡ word_in l w b.car))
      words l w =
          let x = line_of l (saved b).medium in
          let y = line_of l b.car in
          rw (line_torn p l)
          (test (in_flight l b.tables)
          (λ f. rw f (test (ltb w (length x))
          (λ h. let z = mixed_at (p l) 0 x y w (ltb-true w (length x) h) in
          test (p l w) (λ c. inr (refl, rw (zero-add w, c) at z)) (λ c. inl (rw (zero-add w, c) at z)))
          (λ h. let n = ltb-false w (length x) h in
          inl (behind_last (mixed (p l) 0 x y) w (omega (arith, mixed_length (p l) 0 x y)) ∙ sym (behind_last x w (omega arith))))))
          (λ f. rw f (inl refl)))

  -- the words that are those of the flights
  abbrev chosen : Persistent → ℕ → ℕ → Bool
  chosen q l w = eqb (word_in l w q.medium) (word_in l w b.car)

  module _ (q : Persistent) (d : Differs b q) where
    same_word : (l w : ℕ) → w < length (line_of l (saved b).medium) → word_in l w (torn_state (chosen q) b).medium ≡ word_in l w q.medium
    same_word l w h =
        let x = line_of l (saved b).medium in
        let y = line_of l b.car in
        test (in_flight l b.tables)
        (λ f. let m : line_of l (torn_state (chosen q) b).medium ≡ mixed (chosen q l) 0 x y = rw f at (line_torn (chosen q) l) in
        let z = mixed_at (chosen q l) 0 x y w h in
        rw (m, rw (zero-add w) at z) (test (chosen q l w)
        (λ c. rw c (sym (eqb-true (word_in l w q.medium) (word_in l w b.car) c)))
        (λ c. rw c (⊎_elim (λ e. sym e) (λ e. absurd (eqb-false (word_in l w q.medium) (word_in l w b.car) c e.1)) (d.words l w)))))
        (λ f. let m : line_of l (torn_state (chosen q) b).medium ≡ x = rw f at (line_torn (chosen q) l) in
        rw m (⊎_elim (λ e. sym e) (λ e. never e.0 f) (d.words l w)))

    same_line : (l : ℕ) → line_of l (torn_state (chosen q) b).medium ≡ line_of l q.medium
    same_line l =
        ext_get_or 0 (line_of l (torn_state (chosen q) b).medium) (line_of l q.medium) ((differs (chosen q)).long l ∙ sym (d.long l))
        (λ w h. same_word l w (omega (arith, (differs (chosen q)).long l)))

    every : (p : ℕ → ℕ → Bool) × (torn_state p b ≡ q)
    every =
        let same : (torn_state (chosen q) b).medium ≡ q.medium
        = ext_get_or [] (torn_state (chosen q) b).medium q.medium (lines_torn (chosen q) ∙ sym d.lines) (λ l h. same_line l) in
        (chosen q, rest_saved (chosen q) ∙ (ap (λ md. with_medium md (saved b)) same ∙ sym d.rest))

  pub none_torn : (l : ℕ) (xs : List (List ℕ)) → torn_from (λ l w. false) b l xs ≡ xs
  unfolding torn_from
  none_torn l [] = refl
  none_torn l (x ∷ xs) =
      let ih = none_torn (suc l) xs in test (is_torn l b) (λ f. rw (f, mixed_none 0 x (line_of l b.car), ih)) (λ f. rw (f, ih))

  none : torn_image (λ l w. false) b ≡ image b
  unfolding torn_image torn_state image
  none = rw (none_torn 0 (saved b).medium)

  -- a cut leaves flights, medium and log as they were
  from_same : (p : ℕ → ℕ → Bool) (l : ℕ) (xs : List (List ℕ)) → torn_from p (apply b Cut).board l xs ≡ torn_from p b l xs
  unfolding torn_from apply is_torn
  from_same p l [] = refl
  from_same p l (x ∷ xs) = ap (λ ys. cond (is_torn l b) (mixed (p l) 0 x (line_of l b.car)) x ∷ ys) (from_same p (suc l) xs)

  log_same : (t n : ℕ) → saved_log t n (apply b Cut).board ≡ saved_log t n b
  unfolding saved_log saved_thread apply
  log_same t zero = refl
  log_same t (suc n) = ap (λ es. saved_thread t b ++ es) (log_same (suc t) n)

  cut : (p : ℕ → ℕ → Bool) → torn_state p (apply b Cut).board ≡ torn_state p b
  unfolding torn_state saved apply
  cut p =
      ap (λ md. with_medium md (saved (apply b Cut).board)) (from_same p 0 (saved b).medium)
      ∙ ap (λ es. with_medium (torn_from p b 0 (saved b).medium) (with_logged es (saved b))) (log_same 0 8)

  flies : (l : ℕ) → refusal b.tables (DataAck l) ≡ 0 → (in_flight l b.tables ≡ true) × ((apply b (DataAck l)).board.med ≡ set b.med l (line_of l b.car))
  unfolding apply settled_board data_ack tests_of
  flies l e = (not-false (in_flight l b.tables) (passed b.tables (DataAck l) e 22), refl)

  lies : (l : ℕ) → refusal b.tables (DataAck l) ≡ 22 → in_flight l b.tables ≡ false
  unfolding refusal tests_of
  lies l e = not-true (in_flight l b.tables) (sym (or_none (not (in_flight l b.tables))) ∙ says 22 (tests_of b.tables (DataAck l)) (λ n. omega arith) e)

  pub at_the_cut : AtTheCut b
  at_the_cut = record { differs = differs; every = every; none = none; cut = cut; flies = flies; lies = lies }

-- ---- inside a step

module _ (r : Recovering) (p : ℕ → Bool) (q : Persistent) (y : all is_byte r.bytes ≡ true) (e : read_image r.bytes ≡ Reads q) where
  valid : Valid q
  valid = read_valid r.bytes q y e

  -- with another medium that fits, the image reads as that
  other_reads : (md : List (List ℕ)) → Valid (with_medium md q) → read_image (encode (with_medium md q)) ≡ Reads (with_medium md q)
  unfolding contradicts
  other_reads md z = image_read (with_medium md q) z (read_records r.bytes q e).1

  inside_step : Tears p q (restore r).after.bytes (torn_act r (Inside p)).bytes
  unfolding restore restore_by torn_act torn_by
  inside_step = go (drop r.at (walk_entries q)) refl
    where
      go : (es : List Logged) → drop r.at (walk_entries q) ≡ es → Tears p q (restore r).after.bytes (torn_act r (Inside p)).bytes
      go [] k =
          record {
            behind = q.medium;
            torn = q.medium;
            restored = rw (e, k) e;
            reads = rw (e, k) e;
            words = λ l w. sym (either (p w) (word_in l w q.medium));
          }
      go (f ∷ fs) k =
          let c = fits_left q valid r.at k in
          let h = c.0 in
          let x = line_of f.line q.medium in
          let m : f.line < length q.medium = omega (arith, valid.whole) in
          let ok = all_at is_line q.medium f.line [] valid.medium m in
          let n : length f.old ≡ length x
          = eqb-true (length f.old) 8 (and_true (eqb (length f.old) 8) (all is_word f.old) c.1).0 ∙ sym (eqb-true (length x) 8 (and_true (eqb (length x) 8) (all is_word x) ok).0) in
          let bs : r.bytes ≡ encode q = sym (only_image r.bytes q y e) in
          let here : line_at (encode q) (line_start f.line) ≡ x = image_line q f.line valid h in
          let f' : Logged = record { key = f.key; line = f.line; old = mixed p 0 x f.old } in
          record {
            behind = set q.medium f.line f.old;
            torn = set q.medium f.line (mixed p 0 x f.old);
            restored = rw (e, k, bs, put_back_lem q f valid h) (other_reads (set q.medium f.line f.old) (put_valid q f valid c.1));
            reads = rw (e, k, bs, here, put_back_lem q f' valid h)
                (other_reads (set q.medium f.line (mixed p 0 x f.old)) (put_valid q f' valid (mixed_line p x f.old ok c.1)));
            words = λ l w. test (eqb l f.line)
                (λ d. let lq = eqb-true l f.line d in
                rw (lq, get_or-set_same q.medium f.line f.old [] m, get_or-set_same q.medium f.line (mixed p 0 x f.old) [] m) (mixed_word p x f.old n w))
                (λ d. let o = eqb-false l f.line d in
                rw (get_or-set_other q.medium f.line l f.old [] o, get_or-set_other q.medium f.line l (mixed p 0 x f.old) [] o)
                (sym (either (p w) (word_in l w q.medium))));
          }

-- a call with eight bytes of place is the step at the place that they hold
call_image : (b : Bench) → length b.place ≡ 8 → (restore (record { bytes = b.image; at = num_of b.place })).after.bytes ≡ (next_call b).image
unfolding recovery_call
call_image b n = rw (eq-eqb (length b.place) 8 n)

pub torn_words : TornWords
unfolding torn_act torn_call
torn_words =
    record {
      cut = at_the_cut;
      inside = λ r p q y e. (inside_step r p q y e, cut_place r (Inside p) refl);
      calls = λ b p q n y e. let r : Recovering = record { bytes = b.image; at = num_of b.place } in
          (subst (λ bs. Tears p q bs (torn_act r (Inside p)).bytes) (call_image b n) (inside_step r p q y e), refl);
      refused = λ r p n e. rw e;
    }
