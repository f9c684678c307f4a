-- What an accepted cut saves fits its image.
use Rattle.undo.specs.Machine as u
use Rattle.undo.specs.History as v
use Rattle.undo.specs.Claim.{Reach}
use Rattle.rules.proofs.Codec.Bytes.{is_line, all_take}
use Prim.Native.Nat.{◌<◌, suc, ℕ}
use mathlib.Core.Path.{◌∙◌, ◌≡◌, refl, sym}
use mathlib.Core.Bool.{Bool, true}
use mathlib.Core.List.{List, [], ◌∷◌}
use lib.Dec.{eqb}
use lib.ListN.{get_or, length, length-map}
use native.Mathlib.Omega.{arith}
use borrow.Author.Tests.{eqb-true, lt-ltb}
use lib.Seq.{length-take-le}
use Rattle.rules.proofs.Codec.Turns.{size_lines, size_threads}
use Rattle.rules.proofs.Codec.Valid.{Valid, fits_entry, fits_region}
use Rattle.rules.proofs.Recover.Live.{deps_listed, threaded}
use Rattle.rules.proofs.Recover.Olds.{each_all}
use Rattle.rules.proofs.Recover.Log.{each_saved, log_climbs, log_few}
use Rattle.rules.proofs.Recover.Saved.{all_in, all_of, deps_at, keys_length, keys_listed, keys_rise, keys_of, length_padded, rises_listed, saved_regions_lem, saved_at, state_at}
use Rattle.rules.proofs.Sim.State.{Sim}
use Rattle.rules.specs.Claim.{is_byte}
use Rattle.rules.specs.Image.{saved}
use Rattle.rules.specs.Lists.{all}
use Rattle.rules.specs.Reader.{is_known_thread}
use Rattle.rules.specs.Refusal.{is_set_up}
use Rattle.rules.specs.Tables.{listed, region_at, thread_of}
use Rattle.rules.specs.declared.Board.{Board}
use Rattle.undo.proofs.Laws.{test}
use Rattle.rules.specs.History.{Account}
use Rattle.rules.proofs.Places.{homes}

all_index : {A : Type 0} (p : A → Bool) (d : A) (xs : List A) → ((j : ℕ) → j < length xs → p (get_or xs j d) ≡ true) → all p xs ≡ true
all_index p d [] f = refl
all_index p d (x ∷ xs) f = rw (f 0 (omega arith)) (all_index p d xs (λ j h. f (suc j) (omega arith)))

module _ {start : ℕ → List ℕ} {b : Board} {es : List Account} {s : u.State (List ℕ)} {h : v.History (List ℕ)} (rc : Reach start s h) (i : Sim b es s h) (up : is_set_up b.tables ≡ true) where
  fits_region_lem : (k : ℕ) → listed k b.tables.regions ≡ true
      → fits_region b.tables.size.threads (saved_at b.tables.regions k) ≡ true
  fits_region_lem k e =
      let rs = b.tables.regions in
      let n = b.tables.size.threads in
      let t = (size_threads n b.tables.size.lines up).0 in
      let own : is_known_thread n k ≡ true = lt-ltb (thread_of k) n (threaded rc i k e) in
      let its : all (is_known_thread n) (deps_at rs k) ≡ true
      = all_of (is_known_thread n) (deps_at rs k)
      (λ d f. test (eqb d 0)
      (λ a. let q : d ≡ 0 = eqb-true d 0 a in lt-ltb (thread_of d) n (omega arith))
      (λ a. lt-ltb (thread_of d) n (threaded rc i d (deps_listed rc i k d a f)))) in
      let st : is_byte (state_at rs k) ≡ true = test (region_at k rs).done (λ a. rw a) (λ a. rw a) in
      rw (own, its, length_padded (region_at k rs).deps) st

  pub saved_valid : Valid (saved b)
  unfolding saved
  saved_valid =
      let rs = b.tables.regions in
      let ll = size_lines b.tables.size.threads b.tables.size.lines up in
      let lm = i.memories.med in
      let home = homes rs i.shape.regions in
      record {
        size = up;
        whole = length-take-le b.tables.size.lines b.med (omega arith);
        medium = all_take is_line b.tables.size.lines b.med (all_index is_line [] b.med (λ j k. i.memories.med_lines j (omega arith)));
        few = let k = keys_length rs in let q = i.shape.regions.count in rw (saved_regions_lem rs home, length-map (keys_of rs) (saved_at rs)) (omega arith);
        rising = rw (saved_regions_lem rs home) (rises_listed (state_at rs) (deps_at rs) 0 (omega arith) (keys_rise rs));
        regions = rw (saved_regions_lem rs home)
            (all_in (fits_region b.tables.size.threads) (saved_at rs) (keys_of rs) (λ k e. fits_region_lem k (sym (keys_listed rs home k) ∙ e)));
        room = λ t. log_few rc i 0 8 t;
        climbing = log_climbs rc i 0 8 0 (omega arith);
        entries = each_all (fits_entry b.tables.size.threads b.tables.size.lines)
            (λ e g. rw (lt-ltb (thread_of e.key) b.tables.size.threads (threaded rc i e.key g.known), lt-ltb e.line b.tables.size.lines g.line) g.old)
            (each_saved rc i 0 8 (omega arith));
      }
