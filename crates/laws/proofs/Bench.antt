-- The calls of a bench go in step with the recovery of demand 3: the eight bytes hold its place, which is never above 256.
use Prim.Native.Nat.{◌*◌, ◌+◌, ◌-◌, ◌≤◌, max, suc, zero, ℕ}
use mathlib.Core.Bool.{Bool, ◌&&◌, cond, false, true}
use mathlib.Core.List.{List, [], ◌∷◌}
use mathlib.Core.Path.{◌∙◌, ◌≡◌, ap, refl, subst, sym}
use lib.Dec.{eqb, leb, ltb}
use lib.ListN.{drop, length, length-drop, replicate, take}
use lib.Seq.{take-append_seam}
use native.Mathlib.Omega.{arith}
use borrow.Author.Tests.{eqb-false, le-ltb, lt-ltb, ltb-false, ltb-true}
use Rattle.rules.proofs.Codec.Bytes.{is_line, length_bytes, num_bytes}
use Rattle.rules.proofs.Codec.Turns.{size_threads}
use Rattle.rules.proofs.Codec.Valid.{Valid, fits_entry}
use Rattle.rules.proofs.Cuts.{cut_is}
use Rattle.rules.proofs.Laws.{records_bytes}
use Rattle.rules.proofs.Main.{recovery_is_right}
use Rattle.rules.proofs.Recover.Sound.{sound}
use Rattle.rules.proofs.Recover.Steps.{Standing, acts_stand, cut_stands, start_stands, step_reads, step_stands, walked_length}
use Rattle.rules.proofs.Recover.Valid.{saved_valid}
use Rattle.rules.proofs.Sim.All.{every}
use Rattle.rules.proofs.Sim.State.{Sim, Simulated, by}
use Rattle.rules.proofs.Sim.Looks.{reach}
use Rattle.rules.specs.Bytes.{bytes_of, num_of}
use Rattle.rules.specs.Claim.{Holds, entries_in, board_after, is_byte, is_byte_memory, pass_length, recovering, restores}
use Rattle.rules.specs.Contradiction.{contradicts}
use Rattle.rules.specs.History.{Account, accepted_in, memory_found}
use Rattle.rules.specs.Image.{Logged, image, image_call, save, saved}
use Rattle.rules.specs.Lists.{all, count}
use Rattle.rules.specs.Reader.{is_known_thread, is_logged_by}
use Rattle.rules.specs.Record.{records_of}
use Rattle.rules.specs.Recovery.{Act, PowerCut, Recovering, Restore, act, acts, called_by, is_finished, recovery_call, restore, restore_by}
use Rattle.rules.specs.Refusal.{is_set_up}
use Rattle.rules.specs.Run.{Wrote, wrote_into}
use Rattle.rules.specs.Tables.{Lent, Memory, thread_of}
use Rattle.rules.specs.declared.Board.{Board}
use Rattle.rules.specs.Walk.{walk_entries}
use Rattle.undo.proofs.Laws.{and_true, test}
use Rattle.undo.specs.Claim.{Reach}
use Rattle.undo.specs.History as v
use Rattle.undo.specs.Machine as u
use Rattle.laws.specs.Bench.{Bench, BenchHolds, BenchRecovers, bench_act, bench_acts, lent_image, next_call}

-- ---- a log has at most 256 entries

abbrev is_below : ℕ → Logged → Bool
is_below n e = ltb (thread_of e.key) n

none_below : (es : List Logged) → count (is_below 0) es ≡ 0
unfolding count
none_below [] = refl
none_below (e ∷ es) = rw (le-ltb (thread_of e.key) 0 (omega arith)) (none_below es)

one_more : (n : ℕ) (es : List Logged) → count (is_below (suc n)) es ≤ count (is_below n) es + count (is_logged_by n) es
unfolding count
one_more n [] = omega arith
one_more n (e ∷ es) =
    let ih = one_more n es in
    let t = thread_of e.key in
    test (ltb t n)
    (λ a. let z = ltb-true t n a in rw (a, lt-ltb t (suc n) (omega arith)) (test (eqb t n) (λ b. rw b (omega arith)) (λ b. rw b (omega arith))))
    (λ a. let z = ltb-false t n a in
    test (eqb t n)
    (λ b. rw (a, b) (test (ltb t (suc n)) (λ c. rw c (omega arith)) (λ c. rw c (omega arith))))
    (λ b. let y = eqb-false t n b in rw (a, b, le-ltb t (suc n) (omega arith)) ih))

some_below : (n : ℕ) (es : List Logged) → ((t : ℕ) → count (is_logged_by t) es ≤ 32) → count (is_below n) es ≤ 32 * n
some_below zero es f = let z = none_below es in omega arith
some_below (suc n) es f = omega (arith, some_below n es f, one_more n es, f n)

all_below : (n l : ℕ) (es : List Logged) → all (fits_entry n l) es ≡ true → count (is_below n) es ≡ length es
unfolding count
all_below n l [] h = refl
all_below n l (e ∷ es) h =
    let b = and_true (fits_entry n l e) (all (fits_entry n l) es) h in
    let c = and_true (is_known_thread n e.key) (ltb e.line l && is_line e.old) b.0 in
    rw c.0 (ap suc (all_below n l es b.1))

-- ---- calls and cuts in step

pub record InStep (r : Recovering) (c : Bench) : Type 0 where
  pub bytes : c.image ≡ r.bytes
  pub place : c.place ≡ bytes_of 8 r.at
  pub near : r.at ≤ 256

-- the eight bytes are read back
pub call_same : {r : Recovering} {c : Bench} → InStep r c → next_call c ≡ called_by (restore r)
unfolding recovery_call
call_same {r} {c} s =
    let l = length_bytes 8 r.at in
    let n = s.near in
    let e : num_of (bytes_of 8 r.at) ≡ r.at = num_bytes 8 r.at (omega arith) in
    rw (s.bytes, s.place, l, e)

module _ {start : ℕ → List ℕ} {b : Board} {es : List Account} {s : u.State (List ℕ)} {h : v.History (List ℕ)} (rc : Reach start s h) (i : Sim b es s h)
    (up : is_set_up b.tables ≡ true) (quiet : contradicts (saved b) ≡ false) where
  few_walked : length (walk_entries (saved b)) ≤ 256
  few_walked =
      let p = saved b in
      let z : Valid p = saved_valid rc i up in
      let w = walked_length rc i up quiet in
      let a = all_below p.threads p.lines p.log z.entries in
      omega (arith, some_below p.threads p.log z.room, size_threads p.threads p.lines z.size)

  step_near : {r : Recovering} → Standing rc i up quiet r → r.at ≤ 256 → (restore r).after.at ≤ 256
  unfolding restore_by
  step_near {r} p n = rw (step_reads rc i up quiet p) (go (drop r.at (walk_entries (saved b))) refl)
    where
      go : (e : List Logged) → drop r.at (walk_entries (saved b)) ≡ e → (restore_by e r).after.at ≤ 256
      go [] k = n
      go (e ∷ fs) k = let l = length-drop r.at (walk_entries (saved b)) in let q = ap length k in let w = few_walked in omega arith

  pub act_in_step : {r : Recovering} {c : Bench} (a : Act) → Standing rc i up quiet r → InStep r c → InStep (act r a) (bench_act c a)
  unfolding act bench_act bytes_of
  act_in_step Restore p t =
      let q = call_same t in
      record { bytes = ap (λ x. x.image) q; place = ap (λ x. x.place) q; near = step_near p t.near }
  act_in_step PowerCut p t = record { bytes = t.bytes; place = refl; near = omega arith }

  pub acts_in_step : {r : Recovering} {c : Bench} (as' : List Act) → Standing rc i up quiet r → InStep r c → InStep (acts r as') (bench_acts c as')
  unfolding acts bench_acts act
  acts_in_step [] p t = t
  acts_in_step {r = r} {c = c} (Restore ∷ as') p t = acts_in_step {r = (restore r).after} {c = bench_act c Restore} as' (step_stands rc i up quiet p) (act_in_step Restore p t)
  acts_in_step (PowerCut ∷ as') p t = acts_in_step as' (cut_stands rc i up quiet p) (act_in_step PowerCut p t)

pub restores_acts : (n : ℕ) (r : Recovering) → acts r (replicate n Restore) ≡ restores n r
unfolding acts act restores
restores_acts zero r = refl
restores_acts (suc n) r = restores_acts n (restore r).after

-- ---- an accepted image call: the buffer begins with the image of a board that is cut

pub record FromCut (b : Board) (w : Wrote) : Type 0 where
  pub cut : b.tables.cut ≡ true
  pub front : take w.answer.value w.buffer ≡ image b

wrote_front : (bs d : List ℕ) → (wrote_into bs (length bs) d).answer.refusal ≡ 0
    → take (wrote_into bs (length bs) d).answer.value (wrote_into bs (length bs) d).buffer ≡ bs
unfolding wrote_into
wrote_front bs d e =
    test (leb (length bs) (length d)) (λ a. rw a (take-append_seam bs (drop (0 + length bs) d)))
    (λ a. let z : 6 ≡ 0 = rw a at e in absurd (omega arith))

-- an image of either form: saved if b, else refused by 6
abbrev pub saved_if : Bool → List ℕ → List ℕ → Wrote
saved_if b bs d = cond b (wrote_into bs (length bs) d) (record { answer = record { refusal = 6; value = 0 }; buffer = d })

pub saved_if_lem : (b : Bool) (bs d : List ℕ) → (saved_if b bs d).answer.refusal ≡ 0 → (b ≡ true) × (take (saved_if b bs d).answer.value (saved_if b bs d).buffer ≡ bs)
saved_if_lem true bs d z = (refl, wrote_front bs d z)
saved_if_lem false bs d z = absurd (omega arith)

pub save_accepted : (b : Board) (d : List ℕ) → (save b d).answer.refusal ≡ 0 → FromCut b (save b d)
unfolding save
save_accepted b d e =
    let a = saved_if_lem (is_set_up b.tables && b.tables.cut) (image b) d e in
    record { cut = (and_true (is_set_up b.tables) b.tables.cut a.0).1; front = a.1 }

pub zero_place : bytes_of 8 0 ≡ replicate 8 0
unfolding bytes_of
zero_place = refl

-- ---- the bench, from the image of a board that is cut

module _ (m : Memory) (rs : List (List ℕ)) (bm : is_byte_memory m ≡ true) (br : all (all is_byte) rs ≡ true)
    (cut : (board_after m rs).tables.cut ≡ true) (bs : List ℕ) (e : bs ≡ image (board_after m rs)) where
  abbrev begun : Bench
  begun = record { image = bs; place = replicate 8 0 }

  -- after calls and cuts, and n more calls behind a cut
  pub record Along (as' : List Act) (n : ℕ) : Type 0 where
    pub now : InStep (recovering m rs as') (bench_acts begun as')
    pub later : InStep (restores n (act (recovering m rs as') PowerCut)) (bench_acts (bench_act (bench_acts begun as') PowerCut) (replicate n Restore))

  runs_along : (as' : List Act) (n : ℕ) → Along as' n
  runs_along as' n = go (every m rs bm).simulated
    where
      go : Simulated m (board_after m rs) (accepted_in m rs) → Along as' n
      go (by t h w i) =
          let rc = reach w in
          let up = i.shape.cut_setup cut in
          let quiet = sound rc i (every m rs bm).rest in
          let p = start_stands rc i up quiet in
          let there = acts_stand rc i up quiet as' p in
          let here : InStep (recovering m rs as') (bench_acts begun as')
          = acts_in_step rc i up quiet as' p (record { bytes = e; place = sym zero_place; near = omega arith }) in
          record {
            now = here;
            later = subst (λ r. InStep r (bench_acts (bench_act (bench_acts begun as') PowerCut) (replicate n Restore)))
                (restores_acts n (act (recovering m rs as') PowerCut))
                (acts_in_step rc i up quiet (replicate n Restore) (cut_stands rc i up quiet there) (act_in_step rc i up quiet PowerCut there here));
          }

  bench_holds : (as' : List Act) → BenchHolds m rs begun as'
  bench_holds as' =
      let hold : Holds m rs as' = recovery_is_right m rs as' bm br (sym (cut_is m rs) ∙ cut) in
      let q : next_call (bench_acts begun as') ≡ called_by (restore (recovering m rs as')) = call_same (runs_along as' 0).now in
      let n = pass_length m rs - 1 in
      record {
        accepts = ap (λ x. x.answer.refusal) q ∙ hold.accepts;
        recovers = λ f. ap (λ x. memory_found x.image) q ∙ hold.recovers (sym (ap (λ x. is_finished x.answer) q) ∙ f);
        finishes =
            subst (λ x. is_finished (next_call (bench_acts (bench_act (bench_acts begun as') PowerCut) (replicate (max 1 (entries_in 0 x) - 1) Restore))).answer ≡ true)
            (sym e)
            (ap (λ x. is_finished x.answer) (call_same (runs_along as' n).later) ∙ hold.finishes);
        closed = hold.closed;
      }

pub bench_recovers : BenchRecovers
unfolding image_call
bench_recovers file memory d as' bf bm z =
    let rs = records_of file in
    let s = save_accepted (board_after (Lent memory) rs) d z in
    bench_holds (Lent memory) rs bm (records_bytes 0 file bf) s.cut (lent_image (image_call file memory d)).image s.front as'
