-- Request 5: what a committed region read is what it reads when the committed regions run one after another in the order they ended.
use Rattle.std.specs.Prelude.{Err, Ok}
use Rattle.undo.specs.Machine as u
use Rattle.undo.specs.History as v
use Prim.Native.Nat.{◌<◌, suc, zero, ℕ}
use mathlib.Core.Path.{◌∙◌, ◌≡◌, ap, refl, sym}
use mathlib.Core.Bool.{Bool, ◌&&◌, ◌||◌, false, not, true, true≢false}
use mathlib.Core.List.{List, [], ◌++◌, ◌∷◌, append_assoc, Memᴰ}
use lib.Dec.{eqb, leb}
use lib.ListN.{get_or, take}
use native.Mathlib.Omega.{arith}
use borrow.Author.Tests.{eqb-false, leb-false, not-false, not-true}
use Rattle.laws.proofs.Current.{value_is}
use Rattle.laws.proofs.Masks.{none_first}
use Rattle.laws.proofs.Reserves.{answered, says}
use Rattle.laws.specs.Laws.{Accepts, value_after}
use Rattle.laws.specs.Serial.{Guarded, InOrder, SerialReads, behind_it, in_turn}
use Rattle.rules.proofs.Commits.{commits_told}
use Rattle.rules.proofs.Lists.{or_none, place_true}
use Rattle.rules.proofs.Recover.Expected.{applied_same, committed_done, effects_length, effects_same}
use Rattle.rules.proofs.Sim.All.{every}
use Rattle.rules.proofs.Sim.Base.{lines_256}
use Rattle.rules.proofs.Sim.Looks.{reach, read_alone}
use Rattle.rules.proofs.Sim.State.{Looks, Sim, Simulated, Watched, by, conv, looks, other}
use Rattle.rules.proofs.Start.{start_length}
use Rattle.rules.proofs.Tests.{passed}
use Rattle.rules.specs.Access.{has_read, word_places}
use Rattle.rules.specs.Claim.{board_after, is_byte_memory}
use Rattle.rules.specs.History.{Account, Change, Uses, accepted_from, accepted_in, account_of, committed, ends_in, noted, region_in, writes_in}
use Rattle.rules.specs.Lists.{all, place}
use Rattle.rules.specs.Record.{read_record}
use Rattle.rules.specs.Refusal.{first_bad, is_read_elsewhere, is_set_up, refusal, tests_of}
use Rattle.rules.specs.Run.{run}
use Rattle.rules.specs.Step.{apply, step}
use Rattle.rules.specs.Tables.{Memory, fresh, line_of, start_lines, thread_at}
use Rattle.rules.specs.declared.Board.{Board}
use Rattle.rules.specs.declared.Event.TheVariants.{Read, Write}
use Rattle.rules.specs.Record.{Reading}
use Rattle.rules.specs.declared.Tables.{Tables}
use Rattle.serial.proofs.Main.{current, saw, serial}
use Rattle.serial.specs.Claim.{after, earlier}
use Rattle.serial.specs.Looks.{Look}
use Rattle.undo.proofs.Laws.{and_true, test}
use Rattle.undo.specs.Table.{is_in}

-- ---- the accepted events of a list in two parts

accepted_after : (rs rs' : List (List ℕ)) (b : Board) (es : List Account) → accepted_from b (rs ++ rs') es ≡ accepted_from (run b rs).board rs' (accepted_from b rs es)
unfolding accepted_from run
accepted_after [] rs' b es = refl
accepted_after (r ∷ rs) rs' b es = accepted_after rs rs' (step b r).board (noted (step b r).answer.refusal (read_record r) es)

-- those already noted stay
noted_more : (n : ℕ) (x : Reading) (es : List Account) → (ns : List Account) × (noted n x es ≡ ns ++ es)
noted_more zero (Ok e) es = (account_of e ∷ [], refl)
noted_more zero (Err n) es = ([], refl)
noted_more (suc n) x es = ([], refl)

accepted_more : (rs : List (List ℕ)) (b : Board) (es : List Account) → (ns : List Account) × (accepted_from b rs es ≡ ns ++ es)
unfolding accepted_from
accepted_more [] b es = ([], refl)
accepted_more (r ∷ rs) b es =
    let y = noted_more (step b r).answer.refusal (read_record r) es in
    let z = accepted_more rs (step b r).board (noted (step b r).answer.refusal (read_record r) es) in
    (z.0 ++ y.0, z.1 ∙ ap (λ ns. z.0 ++ ns) y.1 ∙ sym (append_assoc z.0 y.0 es))

-- a read accepted behind the records rs is one of the accepted events of the whole list
read_accepted : (m : Memory) (rs : List (List ℕ)) (r : List ℕ) (rs' : List (List ℕ)) (t l w : ℕ) → Accepts m rs r (Read t l w)
    → (ns : List Account) × (accepted_in m (rs ++ r ∷ rs') ≡ ns ++ Uses t l ∷ accepted_in m rs)
unfolding accepted_from
read_accepted m rs r rs' t l w a =
    let b : Board = board_after m rs in
    let z = accepted_more rs' (step b r).board (Uses t l ∷ accepted_in m rs) in
    (z.0, accepted_after rs (r ∷ rs') (fresh m) [] ∙ rw (a.is, a.unrefused) z.1)

-- an accepted read has its look
look_of : (t l : ℕ) (es ns : List Account) {ks : List (Look (List ℕ))} → Looks (ns ++ Uses t l ∷ es) ks
    → (k : Look (List ℕ)) × (Memᴰ k ks × ((k.rid ≡ region_in t es) × ((k.line ≡ l) × (k.before ≡ conv (writes_in es)))))
look_of t l es [] (looks k r x y lk) = (k, (Memᴰ.head refl, (r, (x, y))))
look_of t l es [] (other q lk) = absurd (true≢false q)
look_of t l es (n ∷ ns) (looks k r x y lk) = let z = look_of t l es ns lk in (z.0, (Memᴰ.tail z.1.0, z.1.1))
look_of t l es (n ∷ ns) (other q lk) = look_of t l es ns lk

-- ---- the value of a read

module _ (m : Memory) (bm : is_byte_memory m ≡ true) where
  abbrev start : ℕ → List ℕ
  start l = line_of l (start_lines m)

  -- a line of current memory, by the accepted writes
  line_now : (rs : List (List ℕ)) (l : ℕ) → line_of l (board_after m rs).cur ≡ after l (conv (writes_in (accepted_in m rs))) (start l)
  line_now rs l = go (every m rs bm).simulated
    where
      go : Simulated m (board_after m rs) (accepted_in m rs) → line_of l (board_after m rs).cur ≡ after l (conv (writes_in (accepted_in m rs))) (start l)
      go (by s h w i) = sym (i.cur l) ∙ current start s h (reach w) l ∙ ap (λ ws. after l ws (start l)) i.told.writes

  -- a line as its region finds it in turn, in the undo log and by the events
  line_in_turn : (rs : List (List ℕ)) {s : u.State (List ℕ)} {h : v.History (List ℕ)} → Watched start (board_after m rs) (accepted_in m rs) s h
      → Sim (board_after m rs) (accepted_in m rs) s h → (k l : ℕ) (ws : List Change) → l < 256
      → v.applied k (conv ws) (v.effects s.done h.writes start (earlier k h.ends)) l ≡ line_of l (in_turn m rs k ws)
  line_in_turn rs {s} {h} w i k l ws n =
      rw (i.told.writes, i.told.ends)
      (sym (applied_same 256 k ws _ _ (effects_length (committed m rs) (writes_in (accepted_in m rs)) (start_lines m) (earlier k (ends_in (accepted_in m rs))) ∙ start_length m)
      (effects_same 256 (committed m rs) s.done (writes_in (accepted_in m rs)) (start_lines m) start (earlier k (ends_in (accepted_in m rs))) (start_length m) (λ x g. refl)
      (λ j e. committed_done m rs (commits_told m rs bm) (reach w) i j)) l n))

  -- what the read of a committed region saw
  seen_in_turn : (before : List (List ℕ)) (r : List ℕ) (behind : List (List ℕ)) (t l w : ℕ) → Accepts m before r (Read t l w) → l < 256
      → committed m (before ++ r ∷ behind) (region_in t (accepted_in m before)) ≡ true
      → line_of l (board_after m before).cur ≡ line_of l (in_turn m (before ++ r ∷ behind) (region_in t (accepted_in m before)) (writes_in (accepted_in m before)))
  seen_in_turn before r behind t l w a n d = go (every m (before ++ r ∷ behind) bm).simulated
    where
      rs : List (List ℕ)
      rs = before ++ r ∷ behind

      k : ℕ
      k = region_in t (accepted_in m before)

      ws : List Change
      ws = writes_in (accepted_in m before)

      look : (j : Look (List ℕ)) {s : u.State (List ℕ)} {h : v.History (List ℕ)} → Watched start (board_after m rs) (accepted_in m rs) s h
          → Sim (board_after m rs) (accepted_in m rs) s h → j.seen ≡ v.applied j.rid j.before (v.effects s.done h.writes start (earlier j.rid h.ends)) j.line
          → j.seen ≡ after j.line j.before (start j.line) → j.rid ≡ k → j.line ≡ l → j.before ≡ conv ws
          → line_of l (board_after m before).cur ≡ line_of l (in_turn m rs k ws)
      look j {s} {h} x i p q e f g =
          let here : j.seen ≡ after l (conv ws) (start l) = rw (f, g) at q in
          let there : v.applied j.rid j.before (v.effects s.done h.writes start (earlier j.rid h.ends)) j.line ≡ line_of l (in_turn m rs k ws)
          = rw (e, f, g) (line_in_turn rs x i k l ws n) in
          line_now before l ∙ sym here ∙ p ∙ there

      go : Simulated m (board_after m rs) (accepted_in m rs) → line_of l (board_after m before).cur ≡ line_of l (in_turn m rs k ws)
      go (by s h x i) =
          let y = read_accepted m before r behind t l w a in
          let lk : Looks (y.0 ++ Uses t l ∷ accepted_in m before) x.seen = rw y.1 at x.looks in
          let z = look_of t l (accepted_in m before) y.0 lk in
          let dn : s.done z.0.rid ≡ true = rw z.1.1.0 (sym (committed_done m rs (commits_told m rs bm) (reach x) i k) ∙ d) in
          look z.0 x i (serial start s h x.seen x.seeing z.0 z.1.0 dn) (saw start s h x.seen x.seeing z.0 z.1.0)
          z.1.1.0 z.1.1.1.0 z.1.1.1.1

reads_in_turn : (m : Memory) → is_byte_memory m ≡ true → (before : List (List ℕ)) (r : List ℕ) (behind : List (List ℕ)) (t l w : ℕ) → Accepts m before r (Read t l w)
    → committed m (before ++ r ∷ behind) (region_in t (accepted_in m before)) ≡ true
    → value_after m before r ≡ get_or (line_of l (in_turn m (before ++ r ∷ behind) (region_in t (accepted_in m before)) (writes_in (accepted_in m before)))) w 0
unfolding apply tests_of
reads_in_turn m bm before r behind t l w a d =
    let ts : Tables = (board_after m before).tables in
    let z = value_is (board_after m before) r (Read t l w) a.is a.unrefused in
    let p = passed ts (Read t l w) z.1 in
    let n : l < 256 = omega (arith, leb-false ts.size.lines l (p 4), lines_256 ts (not-false (is_set_up ts) (p 6))) in
    z.0 ∙ ap (λ x. get_or x w 0) (seen_in_turn m bm before r behind t l w a n d)

-- ---- 25

module _ (ts : Tables) (t l w mask x : ℕ) where
  -- where it is given the line is one of 256, and another thread has marked it
  is_guarded : refusal ts (Write t l w mask x) ≡ 25 → (l < 256) × (is_read_elsewhere t l ts ≡ true)
  unfolding refusal tests_of
  is_guarded e =
      let z : (is_read_elsewhere t l ts || false) ≡ true = says 25 (tests_of ts (Write t l w mask x)) (λ n. omega arith) e in (
        test (is_set_up ts)
            (λ a. test (leb ts.size.lines l)
            (λ c. absurd (no_25 3 (rw (a, c)) refl))
            (λ c. omega (arith, leb-false ts.size.lines l c, lines_256 ts a)))
            (λ a. absurd (no_25 1 (rw a) refl)),
        sym (or_none (is_read_elsewhere t l ts)) ∙ z,
      )
    where
      no_25 : (n : ℕ) → refusal ts (Write t l w mask x) ≡ first_bad (take n (tests_of ts (Write t l w mask x)))
          → all (λ y. not (is_in y.code (25 ∷ []))) (take n (tests_of ts (Write t l w mask x))) ≡ true → ⊥
      no_25 n q c =
          eqb-false (first_bad (take n (tests_of ts (Write t l w mask x)))) 25 (sym (or_none _) ∙ none_first (25 ∷ []) (take n (tests_of ts (Write t l w mask x))) refl c)
          (sym q ∙ e)

  in_order : InOrder ts t l (refusal ts (Write t l w mask x))
  unfolding refusal tests_of
  in_order =
      record {
        behind = λ f e. let z : refusal ts (Write t l w mask x) ≡ first_bad (take 8 (tests_of ts (Write t l w mask x))) = rw f in
            eqb-false (first_bad (take 8 (tests_of ts (Write t l w mask x)))) 25
            (sym (or_none _) ∙ none_first (25 ∷ []) (take 8 (tests_of ts (Write t l w mask x))) refl refl) (sym z ∙ e);
        before = λ f. let z : refusal ts (Write t l w mask x) ≡ first_bad (take 9 (tests_of ts (Write t l w mask x))) = rw f in
            rw z (none_first behind_it (take 9 (tests_of ts (Write t l w mask x))) refl refl);
      }

guards : {m : Memory} {b : Board} {es : List Account} (r : List ℕ) (t l w mask x : ℕ) → Simulated m b es → read_record r ≡ Ok (Write t l w mask x)
    → Guarded es t l (step b r).answer.refusal
unfolding tests_of
guards {m} {b} {es} r t l w mask x (by s h y i) q =
    record {
      read = λ e. let z = is_guarded ts t l w mask x (says_it e) in
          let k : ℕ = get_or word_places (place marked word_places) 0 in
          let c = and_true (not (eqb k t)) (has_read l (thread_at k ts)) (place_true marked word_places 0 z.1) in
          (k, (eqb-false k t (not-true (eqb k t) c.0), sym (y.marks.marks k l z.0) ∙ c.1));
      alone = λ e. let p = passed ts (Write t l w mask x) (says_it e) in
          read_alone y i t l (omega (arith, leb-false ts.size.lines l (p 4), lines_256 ts (not-false (is_set_up ts) (p 6)))) (p 25);
    }
  where
    ts : Tables
    ts = b.tables

    marked : ℕ → Bool
    marked k = not (eqb k t) && has_read l (thread_at k ts)

    says_it : {n : ℕ} → (step b r).answer.refusal ≡ n → refusal ts (Write t l w mask x) ≡ n
    says_it e = sym (answered b r (Write t l w mask x) q) ∙ e

pub serial_reads : SerialReads
serial_reads =
    record {
      serial = λ m rs bm br before r behind t l w q a d. rw q (reads_in_turn m bm before r behind t l w a (rw q at d));
      guarded = λ m rs bm br r t l w mask x q. guards r t l w mask x (every m rs bm).simulated q;
      order = in_order;
    }
