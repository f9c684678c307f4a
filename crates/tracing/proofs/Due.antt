-- The records of a piece, run one after the other into a buffer.
use Rattle.rules.proofs.Sim.Logged.{no_length}
use Prim.Native.Nat.{◌+◌, ◌<◌, ◌≤◌, suc, zero, ℕ}
use mathlib.Core.Path.{◌∙◌, ◌≡◌, ap, refl, sym}
use mathlib.Core.Bool.{Bool, cond, false, true}
use mathlib.Core.List.{List, [], ◌∷◌}
use lib.Dec.{leb, ltb}
use lib.ListN.{drop, drop_of_length-le, length, length-append, take}
use native.Mathlib.Omega.{arith}
use borrow.Author.Tests.{ltb-false, ltb-true}
use lib.Seq.{drop-cons, drop-drop, drop-length, length-sets, sets}
use native.Mathlib.Nat.{add_assoc, add-zero}
use Rattle.lines.proofs.Paste.{sets_join}
use Rattle.rules.specs.Record.{body_length, records_from, records_of}
use Rattle.rules.specs.Run.{run}
use Rattle.rules.specs.Step.{step}
use Rattle.rules.specs.declared.Board.{Board}
use Rattle.events.proofs.Records.{fits_more, length_empty, length_more, length_off, not_whole, pos, records_skip, stands}
use Rattle.events.specs.Whole.{record_length, whole_length}
use Rattle.tracing.specs.Pieces.{RanPiece, due_in, fitting, left_of, rest_at}
use Rattle.tracing.specs.Results.{NoRoom, TracedEvent}
use Rattle.tracing.specs.Text.{event_text, longest_text, trace_text}
use Rattle.tracing.specs.declared.Traced.{Traced}
use Rattle.undo.proofs.Laws.{test}

-- ---- the record that is due

abbrev pub is_due : Bool → List ℕ → Bool
is_due last x = cond last (ltb 0 (length x)) (ltb 0 (record_length x))

whole_records : (x : List ℕ) → 0 < record_length x → records_of x ≡ x ∷ records_of (drop (record_length x) x)
unfolding records_from
whole_records [] h = absurd (omega (arith, length_empty [] refl))
whole_records (b ∷ bs) h = let s = stands (b ∷ bs) h in rw (s.is_whole_lem, s.is_long, records_skip (body_length b) bs)

no_record : (x : List ℕ) → 0 < length x → record_length x ≡ 0 → records_of x ≡ x ∷ []
unfolding records_from
no_record [] h e = absurd (omega arith)
no_record (b ∷ bs) h e = rw (not_whole (b ∷ bs) e)

pub due_none : (last : Bool) (x : List ℕ) → is_due last x ≡ false → due_in last x ≡ []
unfolding due_in records_from
due_none true x e = rw (no_length x (ltb-false 0 (length x) e))
due_none false [] e = refl
due_none false (b ∷ bs) e = rw (not_whole (b ∷ bs) (omega (arith, ltb-false 0 (record_length (b ∷ bs)) e)))

pub due_whole : (last : Bool) (x : List ℕ) → 0 < record_length x → due_in last x ≡ x ∷ due_in last (drop (record_length x) x)
unfolding due_in
due_whole true x h = whole_records x h
due_whole false x h = rw (whole_records x h, (stands x h).is_whole_lem)

-- a record that is due and not whole is the end of the last piece
pub due_last : (last : Bool) (x : List ℕ) → is_due last x ≡ true → record_length x ≡ 0 → last ≡ true
due_last true x d e = refl
due_last false x d e = absurd (omega (arith, ltb-true 0 (record_length x) d))

pub due_end : (last : Bool) (x : List ℕ) → is_due last x ≡ true → record_length x ≡ 0 → due_in last x ≡ x ∷ []
unfolding due_in
due_end true x d e = no_record x (ltb-true 0 (length x) d) e
due_end false x d e = absurd (omega (arith, ltb-true 0 (record_length x) d))

-- it is the first of some
due_some : (last : Bool) (x : List ℕ) → is_due last x ≡ true → (rs : List (List ℕ)) × (due_in last x ≡ x ∷ rs)
due_some last x u =
    test (ltb 0 (record_length x))
    (λ h. (due_in last (drop (record_length x) x), due_whole last x (ltb-true 0 (record_length x) h)))
    (λ h. ([], due_end last x u (omega (arith, ltb-false 0 (record_length x) h))))

-- ---- a run of records into a buffer

pub record Stop : Type 0 where
  pub board : Board
  pub buffer : List ℕ
  pub at : ℕ
  pub left : List (List ℕ)

pub stop : Board → List ℕ → ℕ → List (List ℕ) → Stop
stop b d at rs = record { board = b; buffer = d; at = at; left = rs }

pub run_into : Board → List ℕ → ℕ → List (List ℕ) → Stop
run_into b d at [] = stop b d at []
run_into b d at (r ∷ rs) =
    cond (leb (at + longest_text) (length d))
    (run_into (step b r).board (sets d at (event_text b r)) (at + length (event_text b r)) rs)
    (stop b d at (r ∷ rs))

pub into_none : (b : Board) (d : List ℕ) (at : ℕ) → run_into b d at [] ≡ stop b d at []
unfolding run_into
into_none b d at = refl

module _ (b : Board) (d : List ℕ) (at : ℕ) (r : List ℕ) (rs : List (List ℕ)) where
  pub into_full : leb (at + longest_text) (length d) ≡ false → run_into b d at (r ∷ rs) ≡ stop b d at (r ∷ rs)
  unfolding run_into
  into_full e = rw e

  pub into_on : leb (at + longest_text) (length d) ≡ true → run_into b d at (r ∷ rs) ≡ run_into (step b r).board (sets d at (event_text b r)) (at + length (event_text b r)) rs
  unfolding run_into
  into_on e = rw e

-- it stops behind as many records as find room
ran : (b : Board) (d : List ℕ) (at : ℕ) (rs : List (List ℕ)) (k : ℕ) → k ≡ fitting (length d) at b rs → run_into b d at rs ≡ stop (run b (take k rs)).board (sets d at (trace_text b (take k rs))) (at + length (trace_text b (take k rs))) (drop k rs)
unfolding run_into fitting run trace_text stop
ran b d at [] zero e = rw add-zero
ran b d at [] (suc k) e = absurd (omega arith)
ran b d at (r ∷ rs) zero e =
    test (leb (at + longest_text) (length d))
    (λ t. absurd (let z : ◌≡◌ {A = ℕ} 0 (suc (fitting (length d) (at + length (event_text b r)) (step b r).board rs)) = rw t at e in omega arith))
    (λ t. rw (t, add-zero))
ran b d at (r ∷ rs) (suc k) e =
    let x = event_text b r in
    test (leb (at + longest_text) (length d))
    (λ t. let z : suc k ≡ suc (fitting (length d) (at + length x) (step b r).board rs) = rw t at e in
    let l : length (sets d at x) ≡ length d = length-sets d at x in
    let f : k ≡ fitting (length (sets d at x)) (at + length x) (step b r).board rs = rw l (omega arith) in
    rw (t, ran (step b r).board (sets d at x) (at + length x) rs k f, sets_join d at x (trace_text (step b r).board (take k rs)), length-append, add_assoc))
    (λ t. absurd (let z : suc k ≡ 0 = rw t at e in omega arith))

is_full : List (List ℕ) → Bool
is_full [] = false
is_full (r ∷ rs) = true

full_told : (k : ℕ) (rs : List (List ℕ)) → is_full (drop k rs) ≡ ltb k (length rs)
unfolding is_full
full_told k rs =
    test (ltb k (length rs))
    (λ t. rw (t, drop-cons rs k [] (ltb-true k (length rs) t)))
    (λ t. rw (t, drop_of_length-le rs (ltb-false k (length rs) t)))

-- ---- the loop over a piece

pub record Runs (last : Bool) (piece : List ℕ) (b₀ : Board) (d₀ : List ℕ) (at₀ : ℕ) (b : Board) (d : List ℕ) (p i : ℕ) : Type 0 where
  pub inside : i ≤ length piece
  pub sized : length d ≡ length d₀
  pub same : run_into b d p (due_in last (drop i piece)) ≡ run_into b₀ d₀ at₀ (due_in last piece)
  pub behind : i + whole_length (drop i piece) ≡ whole_length piece

abbrev end_of : Bool → List ℕ → List ℕ
end_of last piece = cond last [] (drop (whole_length piece) piece)

module _ (last : Bool) (piece : List ℕ) (b₀ : Board) (d₀ : List ℕ) (at₀ : ℕ) where
  abbrev K : ℕ
  K = fitting (length d₀) at₀ b₀ (due_in last piece)

  -- where the run has stopped, what the function answers
  answers : (b : Board) (d : List ℕ) (p n : ℕ) (full : Bool) (rs : List (List ℕ)) → run_into b₀ d₀ at₀ (due_in last piece) ≡ stop b d p rs → n ≤ length piece
      → drop n piece ≡ rest_at (end_of last piece) rs → full ≡ is_full rs → RanPiece last b₀ b piece d₀ d at₀ K (record { at = p; passed = n; full = full })
  unfolding stop left_of
  answers b d p n full rs e l f t =
      let w = sym e ∙ ran b₀ d₀ at₀ (due_in last piece) K refl in
      let q : rs ≡ drop K (due_in last piece) = ap (λ (s : Stop). s.left) w in
      record {
        stands = ap (λ (s : Stop). s.board) w;
        written = (ap (λ (s : Stop). s.buffer) w, ap (λ (s : Stop). s.at) w);
        inside = l;
        leaves = f ∙ ap (rest_at (end_of last piece)) q;
        told = t ∙ ap is_full q ∙ full_told K (due_in last piece);
      }

  module _ (b : Board) (d : List ℕ) (p i : ℕ) (v : Runs last piece b₀ d₀ at₀ b d p i) where
    -- nothing is due
    pub at_end : is_due last (drop i piece) ≡ false → RanPiece last b₀ b piece d₀ d at₀ K (record { at = p; passed = i; full = false })
    unfolding is_full
    at_end e =
        let x = drop i piece in
        let s = sym v.same ∙ (ap (run_into b d p) (due_none last x e) ∙ into_none b d p) in
        answers b d p i false [] s v.inside (left_end last e) refl
      where
        left_end : (z : Bool) → is_due z (drop i piece) ≡ false → drop i piece ≡ end_of z piece
        left_end true e = no_length (drop i piece) (ltb-false 0 (length (drop i piece)) e)
        left_end false e =
            let o : record_length (drop i piece) ≡ 0 = omega (arith, ltb-false 0 (record_length (drop i piece)) e) in
            let w : whole_length piece ≡ i = omega (arith, v.behind, length_off (drop i piece) o) in
            rw w

    -- it found no room
    pub at_full : (b' : Board) (d' : List ℕ) → NoRoom b b' d d' p → is_due last (drop i piece) ≡ true
        → RanPiece last b₀ b' piece d₀ d' at₀ K (record { at = p; passed = i; full = true })
    unfolding is_full
    at_full b' d' n u =
        let o = due_some last (drop i piece) u in
        let s = sym v.same ∙ (ap (run_into b d p) o.1 ∙ into_full b d p (drop i piece) o.0 n.full) in
        rw (n.stands, n.written) (answers b d p i true (drop i piece ∷ o.0) s v.inside refl refl)

    -- ---- behind one event more

    module _ (b' : Board) (d' : List ℕ) (t : Traced) (e : TracedEvent b b' (drop i piece) d d' p t) where
      moved : (rs : List (List ℕ)) → due_in last (drop i piece) ≡ drop i piece ∷ rs → run_into b' d' t.at rs ≡ run_into b₀ d₀ at₀ (due_in last piece)
      moved rs o =
          rw (e.stands, e.written.0, e.written.1) (sym (into_on b d p (drop i piece) rs e.room) ∙ (ap (run_into b d p) (sym o) ∙ v.same))

      -- it ended the file
      pub at_last : is_due last (drop i piece) ≡ true → t.passed ≡ 0 → RanPiece last b₀ b' piece d₀ d' at₀ K (record { at = t.at; passed = length piece; full = false })
      unfolding is_full
      at_last u g =
          let n : record_length (drop i piece) ≡ 0 = sym e.passes ∙ g in
          let o = due_end last (drop i piece) u n in
          let s = sym (moved [] o) ∙ into_none b' d' t.at in
          let k : last ≡ true = due_last last (drop i piece) u n in
          answers b' d' t.at (length piece) false [] s (omega arith) (rw k (drop-length piece)) refl

      -- it was whole, and the next one follows
      pub goes_on : (t.passed ≡ 0 → ⊥) → Runs last piece b₀ d₀ at₀ b' d' t.at (i + t.passed)
      goes_on g =
          let n = t.passed in
          let h : 0 < n = pos n g in
          let w : 0 < record_length (drop i piece) = omega (arith, e.passes) in
          let o : due_in last (drop i piece) ≡ drop i piece ∷ due_in last (drop (i + n) piece) = due_whole last (drop i piece) w ∙ rw (← e.passes, drop-drop n i piece) in
          record {
            inside = fits_more piece i n e.passes h;
            sized = ap length e.written.0 ∙ (length-sets d p (event_text b (drop i piece)) ∙ v.sized);
            same = moved (due_in last (drop (i + n) piece)) o;
            behind = sym (length_more piece i n e.passes h) ∙ v.behind;
          }
