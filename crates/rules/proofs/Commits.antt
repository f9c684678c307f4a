-- The regions that have committed, as the rules tell them over a list of records: those that were opened and are listed no more.
use Rattle.std.specs.Prelude.{Err, Ok}
use Prim.Native.Nat.{◌<◌, suc, zero, ℕ}
use mathlib.Core.Path.{◌∙◌, ◌≡◌, ap, refl, sym}
use mathlib.Core.Logic.{⊎_elim}
use mathlib.Core.Bool.{Bool, ◌&&◌, ◌||◌, false, not, true}
use mathlib.Core.List.{List, [], ◌++◌, ◌∷◌, map}
use lib.Dec.{eqb, leb}
use lib.ListN.{length}
use native.Mathlib.Omega.{arith}
use borrow.Author.Tests.{eqb-false, eqb-true, leb-false, lt-leb}
use Rattle.rules.proofs.Places.{Unique, listed_commit, listed_key, listed_mapped, unique_commit, unique_mapped}
use Rattle.rules.proofs.Sim.State.{Kept, Simulated, by}
use Rattle.rules.proofs.Sim.Looks.{reach}
use Rattle.rules.proofs.Sim.Ack.{log_ack_lem}
use Rattle.rules.proofs.Sim.All.{step_kept}
use Rattle.rules.proofs.Sim.Done.{ready}
use Rattle.rules.proofs.Sim.Data.{lands}
use Rattle.rules.proofs.Sim.Begin.{born_begun, listed_begun, new_room, new_key, unborn}
use Rattle.rules.proofs.Sim.End.{ends_region}
use Rattle.rules.proofs.Start.{initially}
use Rattle.rules.proofs.Views.{is_opened}
use Rattle.rules.specs.Access.{note_read, read, stored_in, write}
use Rattle.rules.specs.Acknowledge.{data_ack, log_ack}
use Rattle.rules.specs.Begin.{begin, opened}
use Rattle.rules.specs.Claim.{board_after, is_byte_memory}
use Rattle.rules.specs.Commit.{Settled, after_commit, before, commit, commits, done_region, earliest, settle, settled}
use Rattle.rules.specs.End.{end_region}
use Rattle.rules.specs.History.{Account, Closes, Nothing, Opens, accepted_from, accepted_in, account_of, commits_by, commits_from, commits_of, committed, depth_in, noted, opened_in}
use Rattle.rules.specs.Record.{read_record}
use Rattle.rules.specs.Refusal.{depth_of, refusal, tests_of}
use Rattle.rules.specs.Run.{run}
use Rattle.rules.specs.Step.{apply, settled_board, setup, step, step_by, step_event, step_read}
use Rattle.rules.specs.Tables.{Memory, current, fresh, listed, number_of, thread_at, thread_of, with_regions}
use Rattle.rules.specs.declared.Board.{Board}
use Rattle.rules.specs.declared.Event.{Event}
use Rattle.rules.specs.declared.Event.TheVariants.{Begin, Cut, DataAck, End, Fence, LogAck, Read, Setup, Write}
use Rattle.rules.specs.Record.{Reading}
use Rattle.rules.specs.declared.Region.{Region}
use Rattle.rules.specs.declared.Tables.{Tables}
use Rattle.undo.proofs.Laws.{and_true, never, or_true, test}
use Rattle.undo.specs.Table.{is_in}
use Rattle.rules.proofs.Tests.{passed}
use Rattle.rules.proofs.Keys.{board_names, data_names, end_names, listed_names, log_names, read_names, write_names}

is_in_both : (k : ℕ) (xs ys : List ℕ) → is_in k (xs ++ ys) ≡ (is_in k xs || is_in k ys)
is_in_both k [] ys = refl
is_in_both k (x ∷ xs) ys = test (eqb k x) (λ e. rw e) (λ e. rw e (is_in_both k xs ys))

-- ---- the commits of a step

-- what they leave listed; and what commits was listed
abbrev Takes : List Region → Settled → Type 0
Takes rs s = (k : ℕ) → (listed k s.tables.regions ≡ (not (is_in k s.keys) && listed k rs)) × (is_in k s.keys ≡ true → listed k rs ≡ true)

settle_takes : (n : ℕ) (ts : Tables) → Unique ts.regions → Takes ts.regions (settle n ts)
unfolding settle commit
settle_takes zero ts un = λ k. (refl, λ e. never e refl)
settle_takes (suc n) ts un = go (commits (earliest ts.regions)) refl (settle_takes n (commit (earliest ts.regions).key ts))
  where
    go : (x : Bool) → commits (earliest ts.regions) ≡ x
        → (Unique (map (after_commit (earliest ts.regions).key) ts.regions)
        → Takes (map (after_commit (earliest ts.regions).key) ts.regions) (settle n (commit (earliest ts.regions).key ts)))
        → Takes ts.regions (elim x as (λ y. Settled) [
          | false ↦ record { tables = ts; keys = [] }
          | true ↦ before (earliest ts.regions).key (settle n (commit (earliest ts.regions).key ts))
        ])
    go false e ih k = (refl, λ e. never e refl)
    go true e ih k =
        let q : ℕ = (earliest ts.regions).key in
        let r = ready ts.regions un e in
        let nz = listed_key q ts.regions r.0 in
        let z = ih (unique_commit q ts.regions nz un) k in
        let l = listed_commit q ts.regions nz k in (
          z.0
              ∙ rw l (test (eqb k q)
              (λ d. rw d (test (is_in k (settle n (commit q ts)).keys) (λ c. rw c) (λ c. rw c)))
              (λ d. rw d)),
          λ h. ⊎_elim
              (λ d. rw (eqb-true k q d) r.0)
              (λ d. (and_true (not (eqb k q)) (listed k ts.regions) (sym l ∙ z.1 d)).1)
              (or_true (eqb k q) (is_in k (settle n (commit q ts)).keys) h),
        )

settled_takes : (ts : Tables) → Unique ts.regions → Takes ts.regions (settled ts)
unfolding settled done_region
settled_takes ts un k =
    let z = settle_takes (length ts.regions) (with_regions (map done_region ts.regions) ts) (unique_mapped done_region ts.regions refl (λ r. (refl, refl)) un) k in
    let l : listed k (map done_region ts.regions) ≡ listed k ts.regions = listed_mapped done_region ts.regions refl (λ r. (refl, refl)) k in
    (z.0 ∙ rw l, λ e. sym l ∙ z.1 e)

-- ---- the regions that have committed

abbrev is_listed : ℕ → Board → Bool
is_listed k b = listed k b.tables.regions

abbrev Gone : Board → List Account → List ℕ → Type 0
Gone b es ks = (k : ℕ) → is_in k ks ≡ (is_opened es k && not (is_listed k b))

gone_settled : {m : Memory} (b b' : Board) (es es' : List Account) (ks : List ℕ) → Simulated m b' es' → board_names b' ≡ board_names b
    → ((k : ℕ) → is_opened es' k ≡ is_opened es k) → Gone b es ks → Gone (settled_board b').board es' ((settled b'.tables).keys ++ ks)
unfolding settled_board
gone_settled b b' es es' ks (by s h w i) same op p k =
    let z = settled_takes b'.tables i.shape.regions.unique k in
    rw (is_in_both k (settled b'.tables).keys ks, z.0)
    (test (is_in k (settled b'.tables).keys)
    (λ e. let bo : is_opened es' k ≡ true = sym (i.told.born k) ∙ (and_true (s.born k) (not (s.done k)) (sym (i.live k) ∙ z.1 e)).0 in rw (e, bo))
    (λ e. rw (e, listed_names b'.tables.regions b.tables.regions same k, op k) (p k)))

gone_begin : (t : ℕ) (m : Memory) (b : Board) (es : List Account) (ks : List ℕ) → refusal b.tables (Begin t) ≡ 0 → Kept m b es → Gone b es ks
    → Gone (apply b (Begin t)).board (Opens t ∷ es) ks
unfolding apply begin opened tests_of opened_in
gone_begin t m b es ks r kept p k = go kept.simulated
  where
    lt : t < b.tables.size.threads
    lt = leb-false b.tables.size.threads t (passed b.tables (Begin t) r 3)

    go : Simulated m b es → is_in k ks ≡ (is_opened (Opens t ∷ es) k && not (is_listed k (apply b (Begin t)).board))
    go (by s h w i) =
        test (eqb (depth_of t b.tables) 0)
        (λ d. let d0 : depth_in t es ≡ 0 = sym (i.told.depth t) ∙ eqb-true (depth_of t b.tables) 0 d in
        let few : opened_in t es < 65535 = rw (i.told.last t) at (leb-false 65535 (thread_at t b.tables).last (rw d at (passed b.tables (Begin t) r 14))) in
        let room = new_room b.tables t r d in
        rw (d, listed_begun (reach w) i t lt d0 few room k, ← born_begun (reach w) i t lt d0 few room k)
        (test (eqb k (new_key t b.tables))
        (λ e. let un : is_opened es k ≡ false = sym (i.told.born k) ∙ rw (eqb-true k (new_key t b.tables) e) (unborn (reach w) i t lt d0 few room) in
        rw e (p k ∙ rw un))
        (λ e. rw (e, i.told.born k) (p k))))
        (λ d. let n : eqb (depth_in t es) 0 ≡ false = rw (← i.told.depth t) d in
        rw d (test (eqb t (thread_of k))
        (λ e. let y : eqb (depth_in (thread_of k) es) 0 ≡ false = rw (← eqb-true t (thread_of k) e) n in rw (e, y) (p k))
        (λ e. rw e (p k))))

gone_after : (m : Memory) (b : Board) (es : List Account) (ks : List ℕ) (e : Event) → refusal b.tables e ≡ 0 → Kept m b es → Gone b es ks
    → Gone (apply b e).board (account_of e ∷ es) (commits_of e b ++ ks)
unfolding apply setup opened_in note_read
gone_after m b es ks (Setup n l s) r kept p = p
gone_after m b es ks (Begin t) r kept p = gone_begin t m b es ks r kept p
gone_after m b es ks (End t) r kept p =
    test (eqb (depth_of t b.tables) 1)
    (λ d. rw d (gone_settled b (end_region t b) es (Closes t ∷ es) ks (ends_region t m b es r d kept).0 (end_names t b) (λ k. refl) p))
    (λ d. rw d p)
gone_after m b es ks (Read t l w) r kept p =
    λ k. p k ∙ ap (λ x. is_opened es k && not x)
    (sym (listed_names (read (current t b.tables) l b.tables).regions b.tables.regions (read_names (current t b.tables) l b.tables) k))
gone_after m b es ks (Write t l w mask v) r kept p =
    λ k. rw (listed_names (write t l (stored_in w mask v) b).tables.regions b.tables.regions (write_names t l (stored_in w mask v) b) k) (p k)
gone_after m b es ks (LogAck l) r kept p =
    gone_settled b (log_ack l b) es (Nothing ∷ es) ks (log_ack_lem l m b es r kept).0 (log_names l b) (λ k. refl) p
gone_after m b es ks (DataAck l) r kept p =
    gone_settled b (data_ack l b) es (Nothing ∷ es) ks (lands l m b es r kept).0 (data_names l b) (λ k. refl) p
gone_after m b es ks (Fence t) r kept p = p
gone_after m b es ks Cut r kept p = p

step_gone : (m : Memory) (b : Board) (es : List Account) (ks : List ℕ) (x : Reading) → Kept m b es → Gone b es ks
    → Gone (step_read b x).board (noted (step_read b x).answer.refusal x es) (commits_by (step_read b x).answer.refusal x b ++ ks)
unfolding step_event step_by
step_gone m b es ks (Err zero) kept p = p
step_gone m b es ks (Err (suc n)) kept p = p
step_gone m b es ks (Ok e) kept p = go (refusal b.tables e) refl
  where
    go : (n : ℕ) → refusal b.tables e ≡ n
        → Gone (step_by n b e).board (noted (step_by n b e).answer.refusal (Ok e) es) (commits_by (step_by n b e).answer.refusal (Ok e) b ++ ks)
    go zero r = gone_after m b es ks e r kept p
    go (suc n) r = p

run_gone : (m : Memory) (rs : List (List ℕ)) (b : Board) (es : List Account) (ks : List ℕ) → Kept m b es → Gone b es ks
    → Gone (run b rs).board (accepted_from b rs es) (commits_from b rs ks)
unfolding run accepted_from step commits_from
run_gone m [] b es ks kept p = p
run_gone m (r ∷ rs) b es ks kept p =
    run_gone m rs (step b r).board (noted (step b r).answer.refusal (read_record r) es) (commits_by (step b r).answer.refusal (read_record r) b ++ ks)
    (step_kept m b es (read_record r) kept) (step_gone m b es ks (read_record r) kept p)

-- what is committed was opened and is listed no more
abbrev pub CommitsTold : Memory → List (List ℕ) → Type 0
CommitsTold m rs = (k : ℕ) → committed m rs k ≡ (is_opened (accepted_in m rs) k && not (listed k (board_after m rs).tables.regions))

pub commits_told : (m : Memory) (rs : List (List ℕ)) → is_byte_memory m ≡ true → CommitsTold m rs
unfolding committed opened_in
commits_told m rs bm = run_gone m rs (fresh m) [] [] (initially m bm) (λ k. sym (none (number_of k) (not (is_listed k (fresh m)))))
  where
    none : (n : ℕ) (x : Bool) → ((not (eqb n 0) && leb n 0) && x) ≡ false
    none n x =
        test (eqb n 0)
        (λ e. rw e)
        (λ e. rw (e, lt-leb n 0 (let z = eqb-false n 0 e in omega arith)))
