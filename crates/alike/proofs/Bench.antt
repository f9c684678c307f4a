-- Calls on the new image go as the calls on the old one.
use Prim.Native.Nat.{◌-◌, max, suc, zero, ℕ}
use mathlib.Core.Path.{◌∙◌, ◌≡◌, ap, refl, sym}
use mathlib.Core.Bool.{◌&&◌, true}
use mathlib.Core.List.{List, [], ◌∷◌}
use lib.Dec.{eqb}
use lib.ListN.{length, replicate, take}
use native.Mathlib.Nat.{le_refl}
use borrow.Author.Tests.{le-leb}
use Rattle.headed.specs.Image.{image_headed, image_headed_call, save_headed}
use Rattle.headed.specs.Recovery.{recovery_call_as}
use Rattle.laws.proofs.Bench.{save_accepted, saved_if_lem}
use Rattle.laws.specs.Bench.{Bench, bench_act, bench_acts, lent_image, next_call}
use Rattle.rules.specs.Bytes.{bytes_of, num_of}
use Rattle.rules.specs.Claim.{board_after, entries_in}
use Rattle.rules.specs.Image.{image, image_call, save}
use Rattle.rules.specs.Record.{records_of}
use Rattle.rules.specs.Recovery.{Restore, is_finished, recovery_call}
use Rattle.rules.specs.Refusal.{is_set_up}
use Rattle.rules.specs.Run.{wrote_into}
use Rattle.rules.specs.Tables.{Lent}
use Rattle.rules.specs.declared.Board.{Board}
use Rattle.torn.proofs.Bench.{torn_bench}
use Rattle.torn.specs.Bench.{torn_call, torn_calls}
use Rattle.torn.specs.Torn.{Between, Inside, TornAct, Whole}
use Rattle.undo.proofs.Laws.{and_true, test}
use Rattle.alike.specs.Alike.{entries_under}
use Rattle.alike.specs.Bench.{HeadedBenchRecovers, headed_call, headed_calls, headed_next}
use Rattle.alike.proofs.Alike.{same_pass, start_beside}
use Rattle.alike.proofs.Forms.{Forms, same_lines, same_step, same_tear}

-- an old and a new image of one state, with one place
pub record Beside (c d : Bench) : Type 0 where
  pub bytes : Forms c.image d.image
  pub place : d.place ≡ c.place

pub record SameCall (c d : Bench) : Type 0 where
  pub answer : (headed_next d).answer ≡ (next_call c).answer
  pub bytes : Forms (next_call c).image (headed_next d).image
  pub place : (headed_next d).place ≡ (next_call c).place

pub same_call : {c d : Bench} → Beside c d → SameCall c d
unfolding recovery_call recovery_call_as
same_call {c} {d} b =
    let s = same_step (num_of c.place) b.bytes in
    test (eqb (length c.place) 8)
    (λ e. record { answer = rw (b.place, e) s.answer; bytes = rw (b.place, e) s.bytes; place = rw (b.place, e) (ap (bytes_of 8) s.at) })
    (λ e. record { answer = rw (b.place, e); bytes = rw (b.place, e) b.bytes; place = rw (b.place, e) })

pub call_beside : {c d : Bench} (a : TornAct) → Beside c d → Beside (torn_call c a) (headed_call d a)
unfolding torn_call headed_call bench_act
call_beside Whole b = let s = same_call b in record { bytes = s.bytes; place = s.place }
call_beside Between b = record { bytes = b.bytes; place = refl }
call_beside {c} {d} (Inside p) b = record { bytes = rw b.place (same_tear (num_of c.place) p b.bytes); place = refl }

pub calls_beside : {c d : Bench} (as' : List TornAct) → Beside c d → Beside (torn_calls c as') (headed_calls d as')
unfolding torn_calls headed_calls
calls_beside [] b = b
calls_beside {c = c} {d = d} (a ∷ as') b = calls_beside {c = torn_call c a} as' (call_beside a b)

-- n calls more
more_beside : {c d : Bench} (n : ℕ) → Beside c d → Beside (bench_acts c (replicate n Restore)) (headed_calls d (replicate n Whole))
unfolding bench_acts headed_calls torn_call
more_beside zero b = b
more_beside {c = c} {d = d} (suc n) b = more_beside {c = torn_call c Whole} n (call_beside Whole b)

-- an accepted image call: of a board that is cut, and its buffer begins with the new image
saved_headed : (b : Board) (d : List ℕ) → (save_headed b d).answer.refusal ≡ 0
    → ((is_set_up b.tables && b.tables.cut) ≡ true) × (take (save_headed b d).answer.value (save_headed b d).buffer ≡ image_headed b)
unfolding save_headed
saved_headed b d e = saved_if_lem (is_set_up b.tables && b.tables.cut) (image_headed b) d e

-- then the old image is saved into a buffer of its length
saved_old : (b : Board) → (is_set_up b.tables && b.tables.cut) ≡ true → (save b (image b)).answer.refusal ≡ 0
unfolding save wrote_into
saved_old b e = rw (e, le-leb (length (image b)) (length (image b)) (le_refl _))

pub headed_bench : HeadedBenchRecovers
unfolding image_headed_call image_call
headed_bench file memory d p as' bf bm z =
    let m = Lent memory in
    let rs = records_of file in
    let b = board_after m rs in
    let s = saved_headed b d z in
    let cut = (and_true (is_set_up b.tables) b.tables.cut s.0).1 in
    let old = torn_bench file memory (image b) p as' bf bm (saved_old b s.0) in
    let k = max 1 (entries_in 0 (lent_image (image_call file memory (image b))).image) in
    let n : max 1 (entries_under 0 (lent_image (image_headed_call file memory d)).image) ≡ k
    = rw (s.1, (save_accepted b (image b) (saved_old b s.0)).front) (same_pass m rs bm cut) in
    let t = start_beside m rs bm cut p in
    let along = calls_beside as' (record { bytes = t.bytes; place = refl }) in
    let next = same_call along in
    record {
      accepts = ap (λ x. x.refusal) next.answer ∙ old.accepts;
      recovers = λ f. same_lines next.bytes ∙ old.recovers (sym (ap is_finished next.answer) ∙ f);
      finishes = λ c e. rw n (ap is_finished (same_call (more_beside (k - 1) (call_beside c along))).answer ∙ old.finishes c e);
      closed = old.closed;
    }
