-- Calls of a bench where cuts tear are in step with the acts on the image.
use Rattle.undo.specs.Machine as u
use Rattle.undo.specs.History as v
use Rattle.undo.specs.Claim.{Reach}
use Prim.Native.Nat.{◌-◌, ℕ}
use mathlib.Core.Path.{◌∙◌, ◌≡◌, ap, refl, subst, sym}
use mathlib.Core.Bool.{Bool, false, true}
use mathlib.Core.List.{List, [], ◌∷◌}
use lib.ListN.{replicate}
use native.Mathlib.Omega.{arith}
use Rattle.laws.proofs.Bench.{InStep, act_in_step, acts_in_step, call_same, restores_acts, save_accepted, zero_place}
use Rattle.laws.specs.Bench.{Bench, bench_acts, next_call}
use Rattle.rules.proofs.Codec.Bytes.{num_bytes}
use Rattle.rules.proofs.Cuts.{cut_is}
use Rattle.rules.proofs.Laws.{records_bytes}
use Rattle.rules.proofs.Recover.Sound.{sound}
use Rattle.rules.proofs.Recover.Steps.{Standing}
use Rattle.rules.proofs.Sim.All.{every}
use Rattle.rules.proofs.Sim.Looks.{reach}
use Rattle.rules.proofs.Sim.State.{Sim, Simulated, by}
use Rattle.rules.specs.Bytes.{bytes_of, num_of}
use Rattle.rules.specs.Claim.{board_after, entries_in, is_byte_memory, pass_length, restores}
use Rattle.rules.specs.Contradiction.{contradicts}
use Rattle.rules.specs.History.{Account, accepted_in, memory_found}
use Rattle.rules.specs.Image.{image, image_call, saved}
use Rattle.rules.specs.Record.{records_of}
use Rattle.rules.specs.Recovery.{PowerCut, Recovering, Restore, called_by, is_finished, restore}
use Rattle.rules.specs.Refusal.{is_set_up}
use Rattle.rules.specs.Tables.{Lent, Memory}
use Rattle.rules.specs.declared.Board.{Board}
use Rattle.torn.proofs.Torn.{cut_place, torn_act_stands, torn_acts_stand, torn_recovery, torn_stands}
use Rattle.torn.specs.Bench.{TornBenchHolds, TornBenchRecovers, torn_call, torn_calls}
use Rattle.torn.specs.Torn.{Between, Inside, TornAct, TornHolds, Whole, torn_act, torn_acts, torn_image, torn_recovering}

module _ {start : ℕ → List ℕ} {b : Board} {es : List Account} {s : u.State (List ℕ)} {h : v.History (List ℕ)} (rc : Reach start s h) (i : Sim b es s h)
    (up : is_set_up b.tables ≡ true) (quiet : contradicts (saved b) ≡ false) where
  call_in_step : {r : Recovering} {c : Bench} (a : TornAct) → Standing rc i up quiet r → InStep r c → InStep (torn_act r a) (torn_call c a)
  unfolding torn_act torn_call
  call_in_step Whole p t = act_in_step rc i up quiet Restore p t
  call_in_step Between p t = act_in_step rc i up quiet PowerCut p t
  call_in_step {r} {c} (Inside q) p t =
      let n = t.near in
      let e : num_of c.place ≡ r.at = ap num_of t.place ∙ num_bytes 8 r.at (omega arith) in
      let z : (torn_act r (Inside q)).at ≡ 0 = cut_place r (Inside q) refl in
      record {
        bytes = rw (t.bytes, e) refl;
        place = sym zero_place ∙ ap (bytes_of 8) (sym z);
        near = omega arith;
      }

  calls_in_step : {r : Recovering} {c : Bench} (as' : List TornAct) → Standing rc i up quiet r → InStep r c → InStep (torn_acts r as') (torn_calls c as')
  unfolding torn_acts torn_calls
  calls_in_step [] p t = t
  calls_in_step {r = r} {c = c} (a ∷ as') p t =
      calls_in_step {r = torn_act r a} {c = torn_call c a} as' (torn_act_stands rc i up quiet a p) (call_in_step a p t)

module _ (m : Memory) (rs : List (List ℕ)) (bm : is_byte_memory m ≡ true) (cut : (board_after m rs).tables.cut ≡ true) (p : ℕ → ℕ → Bool) where
  abbrev begun : Bench
  begun = record { image = torn_image p (board_after m rs); place = replicate 8 0 }

  -- after calls and cuts, and n more calls behind a cut
  pub record Along (as' : List TornAct) (n : ℕ) : Type 0 where
    pub now : InStep (torn_recovering m rs p as') (torn_calls begun as')
    pub later : (c : TornAct) → InStep (restores n (torn_act (torn_recovering m rs p as') c)) (bench_acts (torn_call (torn_calls begun as') c) (replicate n Restore))

  runs_along : (as' : List TornAct) (n : ℕ) → Along as' n
  runs_along as' n = go (every m rs bm).simulated
    where
      go : Simulated m (board_after m rs) (accepted_in m rs) → Along as' n
      go (by t h w i) =
          let rc = reach w in
          let up = i.shape.cut_setup cut in
          let quiet = sound rc i (every m rs bm).rest in
          let st = torn_stands rc i up quiet p in
          let there = torn_acts_stand rc i up quiet as' st in
          let here : InStep (torn_recovering m rs p as') (torn_calls begun as')
          = calls_in_step rc i up quiet as' st (record { bytes = refl; place = sym zero_place; near = omega arith }) in
          record {
            now = here;
            later = λ c. subst (λ r. InStep r (bench_acts (torn_call (torn_calls begun as') c) (replicate n Restore)))
                (restores_acts n (torn_act (torn_recovering m rs p as') c))
                (acts_in_step rc i up quiet (replicate n Restore) (torn_act_stands rc i up quiet c there) (call_in_step rc i up quiet c there here));
          }

  bench_holds : (as' : List TornAct) → TornHolds m rs p as' → TornBenchHolds m rs (entries_in 0 (image (board_after m rs))) begun as'
  bench_holds as' hold =
      let q : next_call (torn_calls begun as') ≡ called_by (restore (torn_recovering m rs p as')) = call_same (runs_along as' 0).now in
      record {
        accepts = ap (λ x. x.answer.refusal) q ∙ hold.accepts;
        recovers = λ f. ap (λ x. memory_found x.image) q ∙ hold.recovers (sym (ap (λ x. is_finished x.answer) q) ∙ f);
        finishes = λ c e. ap (λ x. is_finished x.answer) (call_same ((runs_along as' (pass_length m rs - 1)).later c)) ∙ hold.finishes c e;
        closed = hold.closed;
      }

pub torn_bench : TornBenchRecovers
unfolding image_call
torn_bench file memory d p as' bf bm z =
    let rs = records_of file in
    let br = records_bytes 0 file bf in
    let s = save_accepted (board_after (Lent memory) rs) d z in
    subst (λ bs. TornBenchHolds (Lent memory) rs (entries_in 0 bs) (begun (Lent memory) rs bm s.cut p) as') (sym s.front)
    (bench_holds (Lent memory) rs bm s.cut p as' (torn_recovery (Lent memory) rs p as' bm br (sym (cut_is (Lent memory) rs) ∙ s.cut)))
