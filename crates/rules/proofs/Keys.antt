-- The keys of the listed regions, place by place. An accepted event leaves them as they are, puts one more at the first free place, or takes some away.
use Prim.Native.Nat.{◌+◌, suc, zero, ℕ}
use mathlib.Core.Path.{◌∙◌, ◌≡◌, ap, refl, sym}
use mathlib.Core.Bool.{Bool, ◌&&◌, cond, false, not, true}
use mathlib.Core.List.{List, [], ◌∷◌, map}
use lib.Dec.{eqb}
use lib.ListN.{get_or, length, set}
use borrow.Author.Tests.{eqb-true}
use Rattle.rules.proofs.Lists.{any_map, count_map, place_map}
use Rattle.rules.specs.Access.{logged, needs_log, note_read, read, stored, stored_in, write, wrote}
use Rattle.rules.specs.Acknowledge.{data_ack, dropped, flight_place, landed, log_ack, unlocked}
use Rattle.rules.specs.Begin.{begin, opened}
use Rattle.rules.specs.Commit.{Settled, after_commit, before, commit, commits, done_region, earliest, settle, settled}
use Rattle.rules.specs.End.{closed, end_region, outside}
use Rattle.rules.specs.Flight.{flown}
use Rattle.rules.specs.History.{commits_of}
use Rattle.rules.specs.Lists.{count, place}
use Rattle.rules.specs.Refusal.{depth_of}
use Rattle.rules.specs.Step.{apply, settled_board, setup}
use Rattle.rules.specs.Tables.{channel_of, current, free_place, is_held, is_key, is_placed, key_of, listed, no_region, number_of, place_of, thread_at, with_regions}
use Rattle.rules.specs.declared.Board.{Board}
use Rattle.rules.specs.declared.Event.{Event}
use Rattle.rules.specs.declared.Event.TheVariants.{Begin, Cut, DataAck, End, Fence, LogAck, Read, Setup, Write}
use Rattle.rules.specs.declared.Region.{Region}
use Rattle.rules.specs.declared.Tables.{Tables}
use Rattle.undo.proofs.Laws.{test}
use Rattle.undo.specs.Table.{any, is_in}

abbrev pub keys_in : List Region → List ℕ
keys_in rs = map (λ r. r.key) rs

abbrev pub board_keys : Board → List ℕ
board_keys b = keys_in b.tables.regions

-- a region's name in a lookup: its key and its channel
abbrev pub name_of : Region → ℕ × ℕ
name_of r = (r.key, r.channel)

abbrev pub names_in : List Region → List (ℕ × ℕ)
names_in rs = map name_of rs

abbrev pub board_names : Board → List (ℕ × ℕ)
board_names b = names_in b.tables.regions

-- ---- what the names and keys say

pub listed_names : (rs rs' : List Region) → names_in rs ≡ names_in rs' → (k : ℕ) → listed k rs ≡ listed k rs'
listed_names rs rs' e k = ap (λ x. not (eqb k 0) && x) (by_names rs ∙ ap (any names) e ∙ sym (by_names rs'))
  where
    names : ℕ × ℕ → Bool
    names x = eqb x.0 k && eqb x.1 (channel_of (number_of k))

    by_names : (xs : List Region) → any (is_placed k) xs ≡ any names (names_in xs)
    by_names xs = sym (any_map names (is_placed k) name_of xs (λ r. refl))

pub keys_named : (rs rs' : List Region) → names_in rs ≡ names_in rs' → keys_in rs ≡ keys_in rs'
keys_named rs rs' e = sym (map_both rs) ∙ ap (map (λ x. x.0)) e ∙ map_both rs'
  where
    map_both : (xs : List Region) → map (λ x. x.0) (names_in xs) ≡ keys_in xs
    map_both [] = refl
    map_both (x ∷ xs) = ap (λ ks. x.key ∷ ks) (map_both xs)

pub held_keys : (rs : List Region) → count is_held rs ≡ count (λ x. not (eqb x 0)) (keys_in rs)
held_keys rs = sym (count_map (λ x. not (eqb x 0)) is_held (λ r. r.key) rs (λ r. refl))

-- ---- a region stored, and each region changed

keys_put : (rs : List Region) (i : ℕ) (r : Region) → keys_in (set rs i r) ≡ set (keys_in rs) i r.key
keys_put [] i r = refl
keys_put (x ∷ rs) zero r = refl
keys_put (x ∷ rs) (suc i) r = ap (λ ks. x.key ∷ ks) (keys_put rs i r)

names_stored : (rs : List Region) (i : ℕ) (r : Region) → name_of r ≡ name_of (get_or rs i no_region) → names_in (set rs i r) ≡ names_in rs
names_stored [] i r e = refl
names_stored (x ∷ rs) zero r e = ap (λ k. k ∷ names_in rs) e
names_stored (x ∷ rs) (suc i) r e = ap (λ ks. name_of x ∷ ks) (names_stored rs i r e)

names_changed : (f : Region → Region) (rs : List Region) → ((r : Region) → name_of (f r) ≡ name_of r) → names_in (map f rs) ≡ names_in rs
names_changed f [] h = refl
names_changed f (r ∷ rs) h = rw (h r, names_changed f rs h)

keys_mapped : (f : Region → Region) (g : ℕ → ℕ) (rs : List Region) → ((r : Region) → (f r).key ≡ g r.key) → keys_in (map f rs) ≡ map g (keys_in rs)
keys_mapped f g [] h = refl
keys_mapped f g (r ∷ rs) h = rw (h r, keys_mapped f g rs h)

each_same : (g : ℕ → ℕ) (ks : List ℕ) → ((k : ℕ) → g k ≡ k) → map g ks ≡ ks
each_same g [] h = refl
each_same g (k ∷ ks) h = rw (h k, each_same g ks h)

-- ---- the rules, before what commits

flown_names : (k : ℕ) (b : Board) → board_names (flown k b) ≡ board_names b
unfolding flown
flown_names k b = names_stored b.tables.regions (place_of k b.tables.regions) _ refl

pub read_names : (k l : ℕ) (ts : Tables) → names_in (read k l ts).regions ≡ names_in ts.regions
unfolding read
read_names k l ts = names_stored ts.regions (place_of k ts.regions) _ refl

pub write_names : (t l : ℕ) (change : List ℕ → List ℕ) (b : Board) → board_names (write t l change b) ≡ board_names b
unfolding write stored logged wrote
write_names t l change b =
    flown_names (current t b.tables) _
    ∙ test (needs_log (current t b.tables) l b.tables)
    (λ d. rw d (names_stored b.tables.regions (place_of (current t b.tables) b.tables.regions) _ refl))
    (λ d. rw d (names_stored b.tables.regions (place_of (current t b.tables) b.tables.regions) _ refl))

pub end_names : (t : ℕ) (b : Board) → board_names (end_region t b) ≡ board_names b
unfolding end_region closed outside
end_names t b =
    flown_names (current t b.tables) _
    ∙ names_stored b.tables.regions (place_of (current t b.tables) b.tables.regions) _ refl

pub log_names : (l : ℕ) (b : Board) → board_names (log_ack l b) ≡ board_names b
unfolding log_ack unlocked dropped
log_names l b =
    flown_names (get_or b.tables.owner l 0) _
    ∙ names_changed (dropped (get_or b.tables.owner l 0) l) b.tables.regions
    (λ r. test (eqb r.key (get_or b.tables.owner l 0)) (λ e. rw e) (λ e. rw e))

pub data_names : (l : ℕ) (b : Board) → board_names (data_ack l b) ≡ board_names b
unfolding data_ack landed
data_names l b = names_stored b.tables.regions (flight_place l b.tables.regions) _ refl

-- ---- the commits of a step

-- a key, or 0 if it is one of js
abbrev pub gone : List ℕ → ℕ → ℕ
gone js k = cond (is_in k js) 0 k

gone_both : (k : ℕ) (js ks : List ℕ) → map (gone js) (map (λ x. cond (eqb x k) 0 x) ks) ≡ map (gone (k ∷ js)) ks
gone_both k js [] = refl
gone_both k js (x ∷ ks) =
    rw (gone_both k js ks)
    (ap (λ y. y ∷ map (gone (k ∷ js)) ks)
    (test (eqb x k) (λ e. rw e (test (is_in 0 js) (λ f. rw f) (λ f. rw f))) (λ e. rw e)))

after_key : (k : ℕ) (r : Region) → (after_commit k r).key ≡ cond (eqb r.key k) 0 r.key
unfolding after_commit
after_key k r = test (eqb r.key k) (λ e. rw e) (λ e. rw e)

settle_keys : (n : ℕ) (ts : Tables) → keys_in (settle n ts).tables.regions ≡ map (gone (settle n ts).keys) (keys_in ts.regions)
unfolding settle commit
settle_keys zero ts = sym (each_same (gone []) (keys_in ts.regions) (λ k. refl))
settle_keys (suc n) ts = go (commits (earliest ts.regions)) (settle_keys n (commit (earliest ts.regions).key ts))
  where
    Left : Settled → Type 0
    Left s = keys_in s.tables.regions ≡ map (gone s.keys) (keys_in ts.regions)

    go : (x : Bool)
        → keys_in (settle n (commit (earliest ts.regions).key ts)).tables.regions
        ≡ map (gone (settle n (commit (earliest ts.regions).key ts)).keys) (keys_in (map (after_commit (earliest ts.regions).key) ts.regions))
        → Left (elim x as (λ y. Settled) [
          | false ↦ record { tables = ts; keys = [] }
          | true ↦ before (earliest ts.regions).key (settle n (commit (earliest ts.regions).key ts))
        ])
    go false ih = sym (each_same (gone []) (keys_in ts.regions) (λ k. refl))
    go true ih =
        ih
        ∙ ap (map (gone (settle n (commit (earliest ts.regions).key ts)).keys))
        (keys_mapped (after_commit (earliest ts.regions).key) (λ x. cond (eqb x (earliest ts.regions).key) 0 x) ts.regions (after_key (earliest ts.regions).key))
        ∙ gone_both (earliest ts.regions).key (settle n (commit (earliest ts.regions).key ts)).keys (keys_in ts.regions)

pub settled_keys : (ts : Tables) → keys_in (settled ts).tables.regions ≡ map (gone (settled ts).keys) (keys_in ts.regions)
unfolding settled done_region
settled_keys ts =
    settle_keys (length ts.regions) (with_regions (map done_region ts.regions) ts)
    ∙ ap (map (gone (settle (length ts.regions) (with_regions (map done_region ts.regions) ts)).keys)) (keys_named (map done_region ts.regions) ts.regions (names_changed done_region ts.regions (λ r. refl)))

-- ---- an accepted event

-- the keys after event e on board b are those before, with one more, or some fewer
pub data Keys (b : Board) (e : Event) (ks : List ℕ) : Type 0 where
  same : ks ≡ board_keys b → Keys b e ks
  more : (t : ℕ) → e ≡ Begin t → depth_of t b.tables ≡ 0 → ks ≡ set (board_keys b) (place (λ x. eqb x 0) (board_keys b)) (key_of t ((thread_at t b.tables).last + 1))
      → Keys b e ks
  fewer : ks ≡ map (gone (commits_of e b)) (board_keys b) → Keys b e ks

settled_fewer : (b b' : Board) (e : Event) → commits_of e b ≡ (settled b'.tables).keys → board_names b' ≡ board_names b → Keys b e (board_keys (settled_board b').board)
unfolding settled_board
settled_fewer b b' e c h = fewer (settled_keys b'.tables ∙ rw (c, keys_named b'.tables.regions b.tables.regions h))

opened_keys : (t : ℕ) (ts : Tables) → keys_in (opened t ts).regions ≡ set (keys_in ts.regions) (place (λ x. eqb x 0) (keys_in ts.regions)) (key_of t ((thread_at t ts).last + 1))
unfolding opened
opened_keys t ts =
    keys_put ts.regions (free_place ts.regions) _
    ∙ ap (λ i. set (keys_in ts.regions) i (key_of t ((thread_at t ts).last + 1))) (sym (place_map (λ x. eqb x 0) (is_key 0) (λ r. r.key) ts.regions (λ r. refl)))

pub keys_after : (b : Board) (e : Event) → Keys b e (board_keys (apply b e).board)
unfolding apply setup begin note_read
keys_after b (Setup n l s) = same refl
keys_after b (Begin t) =
    test (eqb (depth_of t b.tables) 0)
    (λ d. rw d (more t refl (eqb-true (depth_of t b.tables) 0 d) (opened_keys t b.tables)))
    (λ d. rw d (same refl))
keys_after b (End t) =
    test (eqb (depth_of t b.tables) 1)
    (λ d. rw d (settled_fewer b (end_region t b) (End t) (rw d) (end_names t b)))
    (λ d. rw d (same refl))
keys_after b (Read t l w) = same (keys_named (read (current t b.tables) l b.tables).regions b.tables.regions (read_names (current t b.tables) l b.tables))
keys_after b (Write t l w mask v) = same (keys_named (write t l (stored_in w mask v) b).tables.regions b.tables.regions (write_names t l (stored_in w mask v) b))
keys_after b (LogAck l) = settled_fewer b (log_ack l b) (LogAck l) refl (log_names l b)
keys_after b (DataAck l) = settled_fewer b (data_ack l b) (DataAck l) refl (data_names l b)
keys_after b (Fence t) = same refl
keys_after b Cut = same refl
