-- What a reader of the image finds: the shape of the dependences, of a line's entries and of its slots.
-- Assumes nothing.
use Prim.Native.Nat.{ℕ, ◌<◌, ◌≤◌}
use native.Mathlib.Omega.{arith}
use mathlib.Core.Path.{◌≡◌, refl, sym, ap, ◌∙◌}
use mathlib.Core.Logic.{◌≢◌, ◌⊎◌, inl, inr}
use mathlib.Core.Bool.{Bool, true, false, false≢true}
use mathlib.Core.List.{List, [], ◌∷◌, ◌++◌}
use lib.Dec.{eqb}
use lib.ListN.{length}
use borrow.Author.Tests.{eqb-true, ne_eqb}
use Rattle.undo.specs.Table.{is_in}
use Rattle.undo.specs.Machine.{Entry, Carry, Clear, Waits, Flies, owns}
use Rattle.undo.specs.Recovery.{older, olds}
use Rattle.undo.specs.Claim.{Path, direct, through, place, age, logged}
use Rattle.undo.proofs.Laws.{test, never, is_same, flip, same, cons_nil}
use Rattle.undo.proofs.Inv.{Medium, landed, flying, waiting, locked, Link, one_entry, entries, Topo, no_region, region}
use Rattle.undo.proofs.Media.{clear_waits, clear_flies, waits_flies, flies_same}
use Rattle.undo.proofs.Links.{link_tail}

-- ---- dependences go down in the list of ends

place_down : {dep : ℕ → ℕ → Bool} {rs : List ℕ} (a b : ℕ) → dep a b ≡ true → is_in a rs ≡ true → is_in b rs ≡ true → Topo dep rs → place rs a < place rs b
place_down a b g ha hb no_region = absurd (false≢true ha)
place_down {dep} a b g ha hb (region {r = r} {rs = rs} h tp) =
    test (eqb b r)
    (λ d. never g (rw (eqb-true b r d) (h a ha)))
    (λ d. test (eqb a r)
    (λ e. rw (d, e) (omega arith))
    (λ e. let ih : place rs a < place rs b = place_down a b g (rw e at ha) (rw d at hb) tp in rw (d, e) (omega arith)))

pub age_down : {dep : ℕ → ℕ → Bool} {rs : List ℕ} (a b : ℕ) → dep a b ≡ true → is_in b rs ≡ true → Topo dep rs → age rs a < age rs b
age_down {rs = rs} a b g hb tp =
    test (is_in a rs)
    (λ ha. let z : place rs a < place rs b = place_down a b g ha hb tp in rw (ha, hb) (omega arith))
    (λ ha. rw (ha, hb) (omega arith))

-- ---- a line's entries

module _ {Val : Type 0} {dep : ℕ → ℕ → Bool} where
  pub consecutive : (c d : List (Entry Val)) (e f : Entry Val) → Link dep (c ++ (e ∷ (f ∷ d))) → dep e.rid f.rid ≡ true
  consecutive [] d e f (entries n g lk) = g
  consecutive (x ∷ c) d e f lk = consecutive c d e f (link_tail lk)

  -- the newest depends on each of the others
  reaches : {e : Entry Val} {c : List (Entry Val)} (q : ℕ) → logged q c ≡ true → Link dep (e ∷ c) → Path dep e.rid q
  reaches q h one_entry = absurd (false≢true h)
  reaches q h (entries {e = e} {f = f} n g lk) =
      test (eqb q f.rid) (λ d. rw (eqb-true q f.rid d) (direct g)) (λ d. through g (reaches q (rw d at h) lk))

  pub connected : (p q : ℕ) (c : List (Entry Val)) → logged p c ≡ true → logged q c ≡ true → eqb p q ≡ false → Link dep c → Path dep p q ⊎ Path dep q p
  connected p q [] hp hq n lk = absurd (false≢true hp)
  connected p q (e ∷ c) hp hq n lk =
      test (eqb p e.rid)
      (λ d. let z : eqb q e.rid ≡ false = rw (← eqb-true p e.rid d) (flip p q n) in
      inl (rw (eqb-true p e.rid d) (reaches q (rw z at hq) lk)))
      (λ d. test (eqb q e.rid)
      (λ f. inr (rw (eqb-true q e.rid f) (reaches p (rw d at hp) lk)))
      (λ f. connected p q c (rw d at hp) (rw f at hq) n (link_tail lk)))

  module _ (rank : ℕ → ℕ) (down : (a b : ℕ) → dep a b ≡ true → rank a < rank b) where
    deeper : {e : Entry Val} {c : List (Entry Val)} (r : ℕ) → rank r ≤ rank e.rid → Link dep (e ∷ c) → olds (eqb r) c ≡ []
    deeper r h one_entry = refl
    deeper r h (entries {e = e} {f = f} n g lk) =
        let z : rank e.rid < rank f.rid = down e.rid f.rid g in
        test (eqb r f.rid)
        (λ d. let o : rank r ≡ rank f.rid = ap rank (same d) in absurd (omega arith))
        (λ d. rw d (deeper r (omega arith) lk))

    pub single : (r : ℕ) (c : List (Entry Val)) → Link dep c → length (olds (eqb r) c) ≤ 1
    single r [] lk = omega arith
    single r (e ∷ c) lk =
        test (eqb r e.rid)
        (λ d. let o : rank r ≡ rank e.rid = ap rank (same d) in
        let z : olds (eqb r) c ≡ [] = deeper r (omega arith) lk in
        rw (d, z) (omega arith))
        (λ d. rw d (single r c (link_tail lk)))

-- ---- a line's slots

-- a waiting slot does not fly
apart : {Val : Type 0} {x : Val} (ss : ℕ → Carry Val) (e r : ℕ) → ss e ≡ Waits → ss r ≡ Flies x → eqb r e ≡ false
apart ss e r p a = ne_eqb r e (λ d. waits_flies (rw d p) a)

module _ {Val : Type 0} {m : Val} where
  pub slot_entry : {b : Bool} {c : List (Entry Val)} {v : Val} {ss : ℕ → Carry Val} (r : ℕ) → ss r ≢ Clear → Medium m b c v ss → logged r c ≡ true
  slot_entry r h (landed p k) = absurd (h (k r))
  slot_entry r h (flying {e = e} p k) = test (eqb r e.rid) (λ d. rw d) (λ d. absurd (h (k r d)))
  slot_entry r h (waiting {e = e} p k) = test (eqb r e.rid) (λ d. rw d) (λ d. absurd (h (k r d)))
  slot_entry r h (locked {e = e} us p z k md) =
      test (eqb r e.rid) (λ d. rw d) (λ d. rw d (slot_entry r (λ q. h (k r d ∙ q)) md))

  pub slot_one : {b : Bool} {c : List (Entry Val)} {v x y : Val} {ss : ℕ → Carry Val} (r q : ℕ) → ss r ≡ Flies x → ss q ≡ Flies y
      → Medium m b c v ss → eqb r q ≡ true
  slot_one r q a b (landed p k) = absurd (clear_flies (k r) a)
  slot_one r q a b (flying {e = e} p k) =
      test (eqb r e.rid)
      (λ d. test (eqb q e.rid) (λ f. rw (eqb-true r e.rid d, eqb-true q e.rid f, is_same e.rid)) (λ f. absurd (clear_flies (k q f) b)))
      (λ d. absurd (clear_flies (k r d) a))
  slot_one {ss = ss} r q a b (waiting {e = e} p k) = absurd (clear_flies (k r (apart ss e.rid r p a)) a)
  slot_one {ss = ss} r q a b (locked {e = e} us p z k md) =
      slot_one r q (sym (k r (apart ss e.rid r p a)) ∙ a) (sym (k q (apart ss e.rid q p b)) ∙ b) md

  pub slot_current : {c : List (Entry Val)} {v x : Val} {ss : ℕ → Carry Val} (r : ℕ) → ss r ≡ Flies x → Medium m false c v ss → x ≡ v
  slot_current r a (landed p k) = absurd (clear_flies (k r) a)
  slot_current r a (flying {e = e} p k) =
      test (eqb r e.rid) (λ d. flies_same a (rw (eqb-true r e.rid d) p)) (λ d. absurd (clear_flies (k r d) a))
  slot_current {ss = ss} r a (waiting {e = e} p k) = absurd (clear_flies (k r (apart ss e.rid r p a)) a)

  pub slot_flight : {b : Bool} {c : List (Entry Val)} {v x : Val} {ss : ℕ → Carry Val} (r : ℕ) → ss r ≡ Flies x → Medium m b c v ss → older b c ≢ []
  slot_flight r a (landed p k) q = clear_flies (k r) a
  slot_flight r a (flying p k) q = cons_nil q
  slot_flight r a (waiting p k) q = cons_nil q
  slot_flight {ss = ss} r a (locked {e = e} us p z k (landed o t)) q = clear_flies (k r (apart ss e.rid r p a) ∙ t r) a
  slot_flight r a (locked us p z k (flying o t)) q = cons_nil q
  slot_flight r a (locked us p z k (waiting o t)) q = cons_nil q

  pub lock_entry : {c : List (Entry Val)} {v : Val} {ss : ℕ → Carry Val} → Medium m true c v ss → c ≢ []
  lock_entry (locked us p z k md) q = cons_nil q

  pub lock_slot : {c : List (Entry Val)} {v : Val} {ss : ℕ → Carry Val} (r : ℕ) → owns r c ≡ true → Medium m true c v ss → ss r ≡ Waits
  lock_slot r o (locked {e = e} us p z k md) = rw (eqb-true r e.rid o) p

  pub rest : {b : Bool} {c : List (Entry Val)} {v : Val} {ss : ℕ → Carry Val} → ((r : ℕ) → ss r ≡ Clear) → Medium m b c v ss → m ≡ v
  rest h (landed p k) = p
  rest h (flying {e = e} p k) = absurd (clear_flies (h e.rid) p)
  rest h (waiting {e = e} p k) = absurd (clear_waits (h e.rid) p)
  rest h (locked {e = e} us p z k md) = absurd (clear_waits (h e.rid) p)
