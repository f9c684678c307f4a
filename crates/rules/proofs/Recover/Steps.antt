-- Recovery steps and cuts on a saved image: its bytes stay the image of the saved state with another medium, and the medium is as the undo log has it.
use Rattle.undo.specs.Machine as u
use Rattle.undo.specs.History as v
use Rattle.undo.specs.Claim.{Reach}
use Rattle.undo.specs.Recovery as w
use Rattle.undo.specs.Recovery.{along, Placed, begins, cuts}
use Rattle.undo.proofs.Main.{finishes}
use Rattle.rules.specs.Recovery.{Act, PowerCut, Recovering, Restore, act, acts, is_finished, put_back, restore, restore_by}
use Rattle.rules.specs.Claim.{restores}
use Rattle.rules.proofs.Codec.Store.{found, put_back_lem, put_valid}
use Prim.Native.Nat.{◌+◌, ◌<◌, ◌≤◌, suc, zero, ℕ}
use mathlib.Core.Path.{◌∙◌, ◌≡◌, ap, refl, sym}
use mathlib.Core.Bool.{Bool, ◌&&◌, false, true}
use mathlib.Core.List.{List, [], ◌∷◌, reverse_aux}
use lib.Dec.{eqb, ltb}
use lib.ListN.{drop, length, length-drop, length-map, set, take}
use native.Mathlib.Omega.{arith}
use native.Mathlib.Numerals.{add-one}
use borrow.Author.Tests.{eq-eqb, eqb-false, eqb-true, ltb-true}
use lib.Seq.{ext_get_or, get_or-set_other, get_or-set_same, get_or-take, length-take-le}
use native.Mathlib.Nat.{le_refl}
use Rattle.rules.proofs.Codec.Back.{image_read}
use Rattle.rules.proofs.Codec.Turns.{size_lines}
use Rattle.rules.proofs.Codec.Bytes.{is_line}
use Rattle.rules.proofs.Codec.Valid.{Valid, fits_entry}
use Rattle.rules.proofs.Recover.Live.{dep_same, live_listed, whole}
use Rattle.rules.proofs.Recover.Olds.{Each, GoodSaved, each_append, element, no_element, undos}
use Rattle.rules.proofs.Recover.Log.{each_saved, log_chosen, single_chosen}
use Rattle.rules.proofs.Recover.Saved.{deps_at, keys_listed, keys_rise, keys_of, saved_regions_lem, saved_at, state_at}
use Rattle.rules.proofs.Recover.Valid.{saved_valid}
use Rattle.rules.proofs.Recover.Walk.{aimed_entries, covers, undos_of, walk_along, walk_length, walk_same, walk_keys, walks}
use Rattle.rules.proofs.Lists.{count_le}
use Rattle.rules.proofs.Sim.State.{Sim}
use Rattle.rules.specs.Bytes.{line_bytes}
use Rattle.rules.specs.Contradiction.{contradicts}
use Rattle.rules.specs.History.{Account, memory_found}
use Rattle.rules.specs.Image.{Logged, Persistent, encode, image, saved, saved_log, with_medium}
use Rattle.rules.specs.Lists.{all, flat}
use Rattle.rules.specs.Reader.{is_known_thread}
use Rattle.rules.specs.Refusal.{is_set_up}
use Rattle.rules.specs.Tables.{line_of}
use Rattle.rules.specs.declared.Board.{Board}
use Rattle.rules.specs.Walk.{entries_from, entries_of, walk, walk_entries}
use Rattle.undo.proofs.Laws.{and_true, test}
use Rattle.undo.specs.Table.{is_in, keep, put}
use Rattle.rules.proofs.Places.{homes}

-- ---- lists

each_keep : {A : Type 0} {P : A → Type 0} {xs : List A} (p : A → Bool) → Each P xs → Each P (keep p xs)
each_keep p no_element = no_element
each_keep p (element {x = x} a e) = test (p x) (λ d. rw d (element a (each_keep p e))) (λ d. rw d (each_keep p e))

each_back : {A : Type 0} {P : A → Type 0} {xs ys : List A} → Each P xs → Each P ys → Each P (reverse_aux xs ys)
each_back no_element f = f
each_back (element a e) f = each_back e (element a f)

each_drop : {A : Type 0} {P : A → Type 0} {xs : List A} (n : ℕ) → Each P xs → Each P (drop n xs)
each_drop zero no_element = no_element
each_drop (suc n) no_element = no_element
each_drop zero (element a e) = element a e
each_drop (suc n) (element a e) = each_drop n e

each_first : {A : Type 0} {P : A → Type 0} {x : A} {xs : List A} → Each P (x ∷ xs) → P x
each_first (element a e) = a

each_walked : {P : Logged → Type 0} {es : List Logged} (gs : List ℕ) → Each P es → Each P (entries_from es gs)
unfolding entries_from entries_of
each_walked [] e = no_element
each_walked (g ∷ gs) e = each_append (each_back (each_keep (λ x. eqb x.key g) e) no_element) (each_walked gs e)

undos_drop : (n : ℕ) (es : List Logged) → drop n (undos es) ≡ undos (drop n es)
undos_drop zero es = refl
undos_drop (suc n) [] = refl
undos_drop (suc n) (e ∷ es) = undos_drop n es

-- the entries of the walk over a state that an image can hold: their lines are in the medium, and what goes back there is a line
abbrev pub Fits : Persistent → Logged → Type 0
Fits p e = (e.line < p.lines) × (is_line e.old ≡ true)

each_fits : (p : Persistent) (es : List Logged) → all (fits_entry p.threads p.lines) es ≡ true → Each (Fits p) es
each_fits p [] h = no_element
each_fits p (e ∷ es) h =
    let b = and_true (fits_entry p.threads p.lines e) (all (fits_entry p.threads p.lines) es) h in
    let c = and_true (is_known_thread p.threads e.key) (ltb e.line p.lines && is_line e.old) b.0 in
    let d = and_true (ltb e.line p.lines) (is_line e.old) c.1 in
    element (ltb-true e.line p.lines d.0, d.1) (each_fits p es b.1)

-- so fits the first of those that are left at a place
pub fits_left : (p : Persistent) → Valid p → (n : ℕ) {e : Logged} {fs : List Logged} → drop n (walk_entries p) ≡ e ∷ fs → Fits p e
unfolding walk_entries
fits_left p v n k = each_first (rw k at (each_drop n (each_walked (walk p) (each_fits p p.log v.entries))))

undos_length : (es : List Logged) → length (undos es) ≡ length es
undos_length [] = refl
undos_length (e ∷ es) = ap suc (undos_length es)

module _ {start : ℕ → List ℕ} {b : Board} {es : List Account} {s : u.State (List ℕ)} {h : v.History (List ℕ)} (rc : Reach start s h) (i : Sim b es s h)
    (up : is_set_up b.tables ≡ true) (quiet : contradicts (saved b) ≡ false) where
  -- the order of the regions, and the entries of each
  pub regions_walked : List ℕ
  regions_walked = walk_keys (deps_at b.tables.regions) (length (keys_of b.tables.regions)) (keys_of b.tables.regions)

  pub entries_walked : ℕ → List (w.Undo (List ℕ))
  entries_walked = undos_of (saved b).log

  walk_is : walk (saved b) ≡ regions_walked
  unfolding walk saved regions_walked
  walk_is =
      let rs = b.tables.regions in
      rw (saved_regions_lem rs (homes rs i.shape.regions), length-map (keys_of rs) (saved_at rs)) (walk_same (deps_at rs) (state_at rs) (length (keys_of rs)) (keys_of rs))

  image_of : w.Image s regions_walked entries_walked
  unfolding regions_walked entries_walked saved
  image_of =
      let rs = b.tables.regions in
      record {
        all = λ r bo dn. covers (whole rc i) (deps_at rs) (dep_same rc i) r (length (keys_of rs)) (keys_of rs) (keys_rise rs) (le_refl _)
            (keys_listed rs (homes rs i.shape.regions) r ∙ live_listed rc i r bo dn);
        order = walks (whole rc i) (deps_at rs) (dep_same rc i) (length (keys_of rs)) (keys_of rs) (keys_rise rs);
        entries = λ r l. aimed_entries (saved_log 0 8 b) r l (single_chosen rc i r l) ∙ log_chosen rc i r l;
      }

  the_walk : undos (walk_entries (saved b)) ≡ along entries_walked regions_walked
  unfolding walk_entries entries_walked
  the_walk = walk_along (saved b).log (walk (saved b)) ∙ rw walk_is

  walked : Each (GoodSaved b s) (walk_entries (saved b))
  unfolding walk_entries saved
  walked = each_walked (walk (saved b)) (each_saved rc i 0 8 (omega arith))

  -- the first of the entries that are left at a place, there and in the undo log's walk
  pub good_left : (n : ℕ) {e : Logged} {fs : List Logged} → drop n (walk_entries (saved b)) ≡ e ∷ fs → GoodSaved b s e
  good_left n k = each_first (rw k at (each_drop n walked))

  pub undo_left : (n : ℕ) {e : Logged} {fs : List Logged} → drop n (walk_entries (saved b)) ≡ e ∷ fs
      → drop n (along entries_walked regions_walked) ≡ record { line = e.line; old = e.old } ∷ undos fs
  undo_left n k = rw (← the_walk) (undos_drop n (walk_entries (saved b)) ∙ ap undos k)

  pub walked_length : length (walk_entries (saved b)) ≤ length (saved b).log
  unfolding walk_entries
  walked_length =
      let c = count_le (λ e. is_in e.key regions_walked) (saved b).log in
      let q = walk_length (saved b).log image_of.order in
      rw walk_is (omega arith)

  -- a place of the recovery
  pub data Standing (r : Recovering) : Type 0 where
    stands : (md : List (List ℕ)) (a : ℕ → List ℕ) → r.bytes ≡ encode (with_medium md (saved b)) → Valid (with_medium md (saved b))
        → ((l : ℕ) → l < b.tables.size.lines → line_of l md ≡ a l) → Placed s (along entries_walked regions_walked) r.at a → Standing r

  pub step_reads : {r : Recovering} → Standing r → restore r ≡ restore_by (drop r.at (walk_entries (saved b))) r
  unfolding restore contradicts walk_entries walk
  step_reads {r} (stands md a q z f pl) = rw (q, image_read (with_medium md (saved b)) z quiet)

  pub start_stands : Standing (record { bytes = image b; at = 0 })
  unfolding image saved
  start_stands =
      stands (take b.tables.size.lines b.med) s.med refl (saved_valid rc i up)
      (λ l k. get_or-take b.tables.size.lines b.med l [] k ∙ sym (i.med l)) (begins (λ l k. refl))

  -- a line that is put into the image, where the undo log puts it too
  pub line_stored : {md : List (List ℕ)} {a : ℕ → List ℕ} (e : Logged) (n : ℕ) → Valid (with_medium md (saved b))
      → ((l : ℕ) → l < b.tables.size.lines → line_of l md ≡ a l) → e.line < b.tables.size.lines → is_line e.old ≡ true
      → Placed s (along entries_walked regions_walked) n (put e.line e.old a) → Standing (record { bytes = put_back e (encode (with_medium md (saved b))); at = n })
  unfolding saved
  line_stored {md} {a} e n z f h o pl =
      let zw = z.whole in
      stands (set md e.line e.old) (put e.line e.old a) (put_back_lem (with_medium md (saved b)) e z h) (put_valid (with_medium md (saved b)) e z o)
      (λ l t. test (eqb l e.line)
      (λ d. rw (d, ← eqb-true l e.line d) (get_or-set_same md l e.old [] (omega arith)))
      (λ d. rw d (get_or-set_other md e.line l e.old [] (eqb-false l e.line d) ∙ f l t)))
      pl

  -- a step
  pub step_stands : {r : Recovering} → Standing r → Standing (restore r).after
  unfolding restore_by saved
  step_stands {r} p = rw (step_reads p) (go p (drop r.at (walk_entries (saved b))) refl)
    where
      go : Standing r → (e : List Logged) → drop r.at (walk_entries (saved b)) ≡ e → Standing (restore_by e r).after
      go p [] k = p
      go (stands md a q z f pl) (e ∷ fs) k =
          let g = good_left r.at k in
          rw (q, add-one r.at)
          (line_stored e (suc r.at) z f g.line g.old (w.restores r.at (record { line = e.line; old = e.old }) (undos fs) (undo_left r.at k) pl))

  pub cut_stands : {r : Recovering} → Standing r → Standing (act r PowerCut)
  unfolding act
  cut_stands {r} (stands md a q z f pl) = stands md a q z f (cuts r.at pl)

  pub acts_stand : {r : Recovering} (xs : List Act) → Standing r → Standing (acts r xs)
  unfolding acts act
  acts_stand [] p = p
  acts_stand {r = r} (Restore ∷ xs) p = acts_stand {r = (restore r).after} xs (step_stands p)
  acts_stand (PowerCut ∷ xs) p = acts_stand xs (cut_stands p)

  -- ---- every step is accepted

  pub step_accepted : {r : Recovering} → Standing r → (restore r).answer.refusal ≡ 0
  unfolding restore_by
  step_accepted {r} p = rw (step_reads p) (go (drop r.at (walk_entries (saved b))))
    where
      go : (e : List Logged) → (restore_by e r).answer.refusal ≡ 0
      go [] = refl
      go (e ∷ fs) = refl

  -- ---- where a pass is at its end

  -- how much is left at a place
  step_left : (r : Recovering) (e : List Logged) → drop r.at (walk_entries (saved b)) ≡ e → length (walk_entries (saved b)) ≤ r.at + length e
  step_left r e k = let l = length-drop r.at (walk_entries (saved b)) in let q = ap length k in omega arith

  pub step_last : {r : Recovering} → Standing r → length (walk_entries (saved b)) ≤ r.at + 1 → (restore r).answer.value ≡ 0
  unfolding restore_by
  step_last {r} p n = rw (step_reads p) (go (drop r.at (walk_entries (saved b))) refl)
    where
      go : (e : List Logged) → drop r.at (walk_entries (saved b)) ≡ e → (restore_by e r).answer.value ≡ 0
      go [] k = refl
      go (e ∷ fs) k =
          let l = length-drop r.at (walk_entries (saved b)) in
          let q = ap length k in
          rw (eq-eqb (length fs) 0 (omega arith))

  -- a step moves the place on, or nothing is left
  pub step_moves : {r : Recovering} → Standing r → (n : ℕ) → length (walk_entries (saved b)) ≤ r.at + suc n → length (walk_entries (saved b)) ≤ (restore r).after.at + n
  unfolding restore_by
  step_moves {r} p n l = rw (step_reads p) (go (drop r.at (walk_entries (saved b))) refl)
    where
      go : (e : List Logged) → drop r.at (walk_entries (saved b)) ≡ e → length (walk_entries (saved b)) ≤ (restore_by e r).after.at + n
      go [] k = let z = step_left r [] k in omega arith
      go (e ∷ fs) k = omega arith

  pub pass_finishes : (n : ℕ) {r : Recovering} → Standing r → length (walk_entries (saved b)) ≤ r.at + suc n → is_finished (restore (restores n r)).answer ≡ true
  unfolding restores
  pass_finishes zero {r} p l = rw (step_accepted p, step_last p (omega arith))
  pass_finishes (suc n) {r} p l = pass_finishes n (step_stands p) (step_moves p (suc n) l)

  -- 'finished': nothing is left behind the step
  pub step_ended : {r : Recovering} → Standing r → (restore r).answer.value ≡ 0 → length (walk_entries (saved b)) ≤ (restore r).after.at
  unfolding restore_by
  step_ended {r} p v = go (drop r.at (walk_entries (saved b))) refl (rw (step_reads p) at v) (step_reads p)
    where
      go : (e : List Logged) → drop r.at (walk_entries (saved b)) ≡ e → (restore_by e r).answer.value ≡ 0
          → restore r ≡ restore_by (drop r.at (walk_entries (saved b))) r → length (walk_entries (saved b)) ≤ (restore r).after.at
      go [] k v q = let z = step_left r [] k in rw (q, k) (omega arith)
      go (e ∷ fs) k v q =
          let z = step_left r (e ∷ fs) k in
          rw (q, k) (test (eqb (length fs) 0)
          (λ a. let y = eqb-true (length fs) 0 a in omega arith)
          (λ a. let y : 1 ≡ 0 = rw a at v in absurd (omega arith)))

  -- and the memory found is the expected one
  pub memory_found_lem : {r : Recovering} (ex : List (List ℕ)) → length ex ≡ 256 → ((l : ℕ) → l < 256 → line_of l ex ≡ v.expected start s h l)
      → Standing r → length (walk_entries (saved b)) ≤ r.at → memory_found r.bytes ≡ flat line_bytes (take b.tables.size.lines ex)
  unfolding saved
  memory_found_lem {r} ex n x (stands md a q z f pl) l =
      let ll = size_lines b.tables.size.threads b.tables.size.lines up in
      let lw : length md ≡ b.tables.size.lines = z.whole in
      let le : length (along entries_walked regions_walked) ≤ r.at = rw (← the_walk, undos_length (walk_entries (saved b))) l in
      let same : md ≡ take b.tables.size.lines ex
      = ext_get_or [] md (take b.tables.size.lines ex) (lw ∙ sym (length-take-le b.tables.size.lines ex (omega arith)))
      (λ j k. let kl : j < b.tables.size.lines = omega arith in
      f j kl ∙ (finishes start s h regions_walked entries_walked rc image_of r.at a pl le j ∙ (sym (x j (omega arith)) ∙ sym (get_or-take b.tables.size.lines ex j [] kl)))) in
      rw (q, found (with_medium md (saved b)) z, same)
