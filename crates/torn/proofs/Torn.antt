-- Recovery from every torn image, with steps that are cut inside: each act is one of crate undo's.
use Rattle.undo.specs.Machine as u
use Rattle.undo.specs.History as v
use Rattle.undo.specs.Recovery as w
use Rattle.undo.specs.Claim.{Reach}
use Rattle.undo.proofs.Main.{structured}
use Rattle.undo.proofs.Laws.{and_true, test}
use Prim.Native.Nat.{◌-◌, ◌<◌, ℕ}
use mathlib.Core.Path.{◌∙◌, ◌≡◌, refl, sym}
use mathlib.Core.Bool.{Bool, cond, false, false≢true, true}
use mathlib.Core.List.{List, [], ◌∷◌}
use lib.Dec.{eqb, ltb}
use lib.ListN.{drop, get_or, length, take}
use lib.Seq.{get_or-take}
use native.Mathlib.Nat.{zero-add}
use native.Mathlib.Omega.{arith}
use borrow.Author.Tests.{eqb-true, lt-ltb, ltb-true}
use Rattle.rules.proofs.Codec.Back.{image_read, reads_back}
use Rattle.rules.proofs.Codec.Bytes.{all_at, is_line}
use Rattle.rules.proofs.Codec.Turns.{size_lines}
use Rattle.rules.proofs.Codec.Valid.{Valid}
use Rattle.rules.proofs.Commits.{commits_told}
use Rattle.rules.proofs.Cuts.{cut_is}
use Rattle.rules.proofs.Main.{recovery_is_right}
use Rattle.rules.proofs.Recover.Entries.{entries_read}
use Rattle.rules.proofs.Recover.Expected.{expected_length, expected_same}
use Rattle.rules.proofs.Recover.Olds.{undos}
use Rattle.rules.proofs.Recover.Sound.{sound}
use Rattle.rules.proofs.Recover.Steps.{Standing, cut_stands, good_left, line_stored, memory_found_lem, pass_finishes, stands, step_accepted, step_ended, step_stands, undo_left, walked_length}
use Rattle.rules.proofs.Recover.Valid.{saved_valid}
use Rattle.rules.proofs.Sim.All.{every}
use Rattle.rules.proofs.Sim.Data.{flies_here, found_flight, found_key, found_listed}
use Rattle.rules.proofs.Sim.Looks.{reach}
use Rattle.rules.proofs.Sim.State.{Sim, Simulated, by}
use Rattle.rules.specs.Acknowledge.{flight_place}
use Rattle.rules.specs.Bytes.{line_at}
use Rattle.rules.specs.Claim.{Holds, board_after, is_byte_memory, pass_length}
use Rattle.rules.specs.Contradiction.{contradicts}
use Rattle.rules.specs.History.{Account, accepted_in, expected, expected_bytes}
use Rattle.rules.specs.Image.{Logged, Persistent, encode, image, saved, with_medium}
use Rattle.rules.specs.Reader.{Reads, Refuses, Verdict, read_image}
use Rattle.rules.specs.Recovery.{Recovering, act, line_start, restore}
use Rattle.rules.specs.Refusal.{is_set_up}
use Rattle.rules.specs.Tables.{Memory, line_of, no_region, place_of, start_lines}
use Rattle.rules.specs.declared.Board.{Board}
use Rattle.rules.specs.Walk.{walk, walk_entries}
use Rattle.torn.proofs.Mixed.{image_line, mixed_line, torn_length, torn_line, torn_lines}
use Rattle.torn.specs.Torn.{Between, Inside, TornAct, TornHolds, TornRecovery, Whole, is_cut, is_torn, part_of, torn_act, torn_acts, torn_by, torn_from, torn_image, torn_read, torn_recovering, torn_state}

module _ {start : ℕ → List ℕ} {b : Board} {es : List Account} {s : u.State (List ℕ)} {h : v.History (List ℕ)} (rc : Reach start s h) (i : Sim b es s h)
    (up : is_set_up b.tables ≡ true) (quiet : contradicts (saved b) ≡ false) where
  -- ---- at the cut

  -- a line that may be torn has a persistent entry
  flight_logged : (l : ℕ) → l < 256 → is_torn l b ≡ true → w.persistent s l ≡ [] → ⊥
  unfolding is_torn
  flight_logged l n f =
      let rs = b.tables.regions in
      let k = (get_or rs (flight_place l rs) no_region).key in
      let g = i.shape.regions in
      let at : place_of k rs ≡ flight_place l rs = g.unique (flight_place l rs) (found_key rs l g.good f) in
      (structured start s h rc).flight_logged l k (line_of l b.car)
      (flies_here k l rc i n (found_listed rs l g.good f g.unique) (rw at (found_flight rs l g.good f)))

  -- what is left is a state that an image can hold
  pub torn_valid : (p : ℕ → ℕ → Bool) → Valid (torn_state p b)
  unfolding torn_state saved
  torn_valid p =
      let z = saved_valid rc i up in
      let n = b.tables.size.lines in
      let ll = size_lines b.tables.size.threads n up in
      let lm : length (take n b.med) ≡ n = z.whole in
      record {
        size = z.size;
        whole = torn_length p b 0 (take n b.med) ∙ lm;
        medium = torn_lines p b 0 (take n b.med) (omega arith) i.memories.car_lines z.medium;
        few = z.few;
        rising = z.rising;
        regions = z.regions;
        room = z.room;
        climbing = z.climbing;
        entries = z.entries;
      }

  pub torn_stands : (p : ℕ → ℕ → Bool) → Standing rc i up quiet (record { bytes = torn_image p b; at = 0 })
  unfolding torn_image torn_state saved
  torn_stands p =
      let n = b.tables.size.lines in
      let md = torn_from p b 0 (take n b.med) in
      -- behind the lines of the board anything may stand
      stands md (λ l. cond (ltb l n) (line_of l md) (s.med l)) refl (torn_valid p)
      (λ l k. rw (lt-ltb l n k))
      (w.begins {a = λ l. cond (ltb l n) (line_of l md) (s.med l)} (λ l k. test (ltb l n) (λ d. rw d (same l k (ltb-true l n d))) (λ d. rw d)))
    where
      -- a line without a persistent entry is not torn
      same : (l : ℕ) → w.persistent s l ≡ [] → l < b.tables.size.lines → line_of l (torn_from p b 0 (take b.tables.size.lines b.med)) ≡ s.med l
      same l k n =
          let ll = size_lines b.tables.size.threads b.tables.size.lines up in
          test (is_torn l b)
          (λ f. absurd (flight_logged l (omega arith) f k))
          (λ f. let t = torn_line p b 0 l (take b.tables.size.lines b.med) in
          rw (zero-add l, f) at t ∙ (get_or-take b.tables.size.lines b.med l [] n ∙ sym (i.med l)))

  -- ---- a step that is cut inside

  pub tear_stands : {r : Recovering} (p : ℕ → Bool) → Standing rc i up quiet r → Standing rc i up quiet (torn_act r (Inside p))
  unfolding torn_act torn_by saved contradicts walk_entries walk
  tear_stands {r} p (stands md a q z f pl) = rw (q, image_read (with_medium md (saved b)) z quiet) (go (drop r.at (walk_entries (saved b))) refl)
    where
      go : (e : List Logged) → drop r.at (walk_entries (saved b)) ≡ e
          → Standing rc i up quiet (torn_by p e (record { bytes = encode (with_medium md (saved b)); at = r.at }))
      go [] k = stands md a refl z f (w.cuts r.at pl)
      go (e ∷ fs) k =
          let g = good_left rc i up quiet r.at k in
          let gl = g.line in
          let zw = z.whole in
          let e' = part_of p e (encode (with_medium md (saved b))) in
          let here : line_at (encode (with_medium md (saved b))) (line_start e.line) ≡ line_of e.line md = image_line (with_medium md (saved b)) e.line z g.line in
          let ok : is_line e'.old ≡ true = rw here (mixed_line p (line_of e.line md) e.old (all_at is_line md e.line [] z.medium (omega arith)) g.old) in
          line_stored rc i up quiet e' 0 z f g.line ok (w.tears r.at (record { line = e.line; old = e.old }) (undos fs) e'.old (undo_left rc i up quiet r.at k) pl)

  -- ---- every act

  pub torn_act_stands : {r : Recovering} (c : TornAct) → Standing rc i up quiet r → Standing rc i up quiet (torn_act r c)
  unfolding torn_act act
  torn_act_stands Whole p = step_stands rc i up quiet p
  torn_act_stands Between p = cut_stands rc i up quiet p
  torn_act_stands (Inside q) p = tear_stands q p

  pub torn_acts_stand : {r : Recovering} (xs : List TornAct) → Standing rc i up quiet r → Standing rc i up quiet (torn_acts r xs)
  unfolding torn_acts
  torn_acts_stand [] p = p
  torn_acts_stand {r = r} (c ∷ xs) p = torn_acts_stand {r = torn_act r c} xs (torn_act_stands c p)

-- a cut sets the place to 0, whatever the image reads as
pub tear_place : (p : ℕ → Bool) (v : Verdict Persistent) (r : Recovering) → (torn_read p v r).at ≡ 0
unfolding torn_by
tear_place p (Refuses n) r = refl
tear_place p (Reads q) r = by_entries (drop r.at (walk_entries q))
  where
    by_entries : (es : List Logged) → (torn_by p es r).at ≡ 0
    by_entries [] = refl
    by_entries (e ∷ es) = refl

pub cut_place : (r : Recovering) (c : TornAct) → is_cut c ≡ true → (torn_act r c).at ≡ 0
unfolding torn_act act
cut_place r Whole e = absurd (false≢true e)
cut_place r Between e = refl
cut_place r (Inside p) e = tear_place p (read_image r.bytes) r

module _ (m : Memory) (rs : List (List ℕ)) (bm : is_byte_memory m ≡ true) {s : u.State (List ℕ)} {h : v.History (List ℕ)}
    (rc : Reach (λ l. line_of l (start_lines m)) s h) (i : Sim (board_after m rs) (accepted_in m rs) s h) where
  torn_holds : Holds m rs [] → (board_after m rs).tables.cut ≡ true → (p : ℕ → ℕ → Bool) (as' : List TornAct) → TornHolds m rs p as'
  unfolding expected_bytes image
  torn_holds hold cut p as' =
      let b = board_after m rs in
      let up = i.shape.cut_setup cut in
      let quiet = sound rc i (every m rs bm).rest in
      let st = torn_acts_stand rc i up quiet as' (torn_stands rc i up quiet p) in
      let n = entries_read (image b) (saved b) (reads_back (saved b) (saved_valid rc i up)) in
      let a = (restore (torn_recovering m rs p as')).answer in
      record {
        accepts = step_accepted rc i up quiet st;
        recovers = λ f. memory_found_lem rc i up quiet (expected m rs) (expected_length m rs) (expected_same m rs (commits_told m rs bm) rc i) (step_stands rc i up quiet st)
            (step_ended rc i up quiet st (eqb-true a.value 0 (and_true (eqb a.refusal 0) (eqb a.value 0) f).1))
            ∙ rw (i.told.lines up);
        finishes = λ c e. pass_finishes rc i up quiet (pass_length m rs - 1) (torn_act_stands rc i up quiet c st)
            (omega (arith, n, walked_length rc i up quiet, cut_place (torn_recovering m rs p as') c e));
        closed = hold.closed;
      }

pub torn_recovery : TornRecovery
torn_recovery m rs p as' bm br cut = go (every m rs bm).simulated
  where
    go : Simulated m (board_after m rs) (accepted_in m rs) → TornHolds m rs p as'
    go (by s h w i) = torn_holds m rs bm (reach w) i (recovery_is_right m rs [] bm br cut) (cut_is m rs ∙ cut) p as'
