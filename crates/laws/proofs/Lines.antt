-- Memories of lines of eight words of 64 bits: the starting memory, and one that changes which leave a line a line are applied to.
use Prim.Native.Nat.{◌<◌, ℕ}
use mathlib.Core.Path.{◌∙◌, ◌≡◌}
use mathlib.Core.Bool.{Bool, true}
use mathlib.Core.List.{List, [], ◌∷◌}
use lib.Dec.{eqb}
use lib.ListN.{length}
use lib.Seq.{get_or-set_other, get_or-set_same}
use native.Mathlib.Omega.{arith}
use borrow.Author.Tests.{eqb-false, eqb-true}
use Rattle.rules.proofs.Codec.Bytes.{is_line}
use Rattle.rules.proofs.Recover.Expected.{applied_length, effects_length}
use Rattle.rules.proofs.Sim.State.{Simulated, by}
use Rattle.rules.proofs.Sim.Store.{KeepsLine}
use Rattle.rules.proofs.Start.{initially}
use Rattle.rules.specs.Access.{change_line}
use Rattle.rules.specs.Claim.{is_byte_memory}
use Rattle.rules.specs.History.{Change, applied, effects}
use Rattle.rules.specs.Tables.{Memory, fresh, line_of, start_lines}
use Rattle.undo.proofs.Laws.{test}

-- each of these changes leaves a line a line
pub data Keeping : List Change → Type 0 where
  nothing : Keeping []
  more : {w : Change} {ws : List Change} → KeepsLine w.change → Keeping ws → Keeping (w ∷ ws)

-- a memory of lines
abbrev pub Lines : List (List ℕ) → Type 0
Lines m = (j : ℕ) → j < 256 → is_line (line_of j m) ≡ true

pub change_lines : (m : List (List ℕ)) (l : ℕ) (change : List ℕ → List ℕ) → length m ≡ 256 → KeepsLine change → Lines m → Lines (change_line l change m)
change_lines m l change n k h j d =
    test (eqb j l)
    (λ e. rw (← eqb-true j l e, get_or-set_same m j (change (line_of j m)) [] (omega arith)) (k (line_of j m) (h j d)))
    (λ e. rw (get_or-set_other m l j (change (line_of l m)) [] (eqb-false j l e)) (h j d))

pub applied_lines : (k : ℕ) {ws : List Change} (m : List (List ℕ)) → Keeping ws → length m ≡ 256 → Lines m → Lines (applied k ws m)
unfolding applied
applied_lines k m nothing n h = h
applied_lines k m (more {w} {ws} c cs) n h =
    let ih : Lines (applied k ws m) = applied_lines k m cs n h in
    test (eqb w.region k)
    (λ a. rw a (change_lines (applied k ws m) w.line w.change (applied_length k ws m ∙ n) c ih))
    (λ a. rw a ih)

pub effects_lines : (done : ℕ → Bool) {ws : List Change} (m : List (List ℕ)) (ks : List ℕ) → Keeping ws → length m ≡ 256 → Lines m → Lines (effects done ws m ks)
unfolding effects
effects_lines done m [] c n h = h
effects_lines done {ws} m (k ∷ ks) c n h =
    let ih : Lines (effects done ws m ks) = effects_lines done m ks c n h in
    test (done k)
    (λ a. rw a (applied_lines k (effects done ws m ks) c (effects_length done ws m ks ∙ n) ih))
    (λ a. rw a ih)

pub start_lines_lem : (m : Memory) → is_byte_memory m ≡ true → Lines (start_lines m)
unfolding fresh
start_lines_lem m bm j d = go (initially m bm).simulated
  where
    go : Simulated m (fresh m) [] → is_line (line_of j (start_lines m)) ≡ true
    go (by s h w i) = i.memories.med_lines j d
