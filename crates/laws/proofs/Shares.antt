-- The parties and reserves of a setup: where they stand, which are refused, and that without reserves a begin is tested as document 01 has it.
use Rattle.std.specs.Prelude.{Err, Ok}
use Prim.Native.Nat.{◌%◌, ◌+◌, ◌-◌, ◌<◌, ◌^◌, ◌≤◌, ℕ}
use mathlib.Core.Path.{◌∙◌, ◌≡◌, ap, refl, sym}
use mathlib.Core.Bool.{◌&&◌, cond, false, not, true, true≢false}
use mathlib.Core.List.{List, [], ◌++◌, ◌∷◌}
use lib.Dec.{eqb, leb, ltb}
use lib.ListN.{drop, get_or, length, length-append, length-drop, take}
use lib.Seq.{get_or-drop, get_or-take, length-take-le}
use native.Mathlib.Nat.{zero-add, zero-div}
use native.Mathlib.Omega.{arith}
use borrow.Author.Tests.{eq-eqb, eqb-true, le-leb, le-ltb, leb-false, leb-true, lt-ltb, ltb-false}
use Rattle.laws.specs.Reserves.{Fit, NoReserves, SetupRead, SharesTested, begin_tests, is_begin, setup_refusal, with_shares}
use Rattle.lines.proofs.Stores.{byte_is}
use Rattle.rules.proofs.Codec.Bytes.{all_drop, all_take, bytes_num}
use Rattle.rules.proofs.Laws.{shares_front}
use Rattle.rules.proofs.Lists.{any_none, none_any}
use Rattle.rules.proofs.Words.{eight}
use Rattle.rules.specs.Access.{word_places}
use Rattle.rules.specs.Bytes.{byte_of, bytes_of, num_of}
use Rattle.rules.specs.Claim.{is_byte}
use Rattle.rules.specs.Image.{image, saved, saved_log, saved_thread}
use Rattle.rules.specs.Kinds.{kind_at}
use Rattle.rules.specs.Lists.{all, count}
use Rattle.rules.specs.Record.{event_of, read_record, shares_at}
use Rattle.rules.specs.Refusal.{depth_of, fits, in_range, is_no_party, is_of_party, is_set_up, is_unfit, other_party, party_of, refusal, refuse, reserve_of, tests_of}
use Rattle.rules.specs.Tables.{channel_of, in_channel, no_shares, owner_of, thread_at, with_tables}
use Rattle.rules.specs.declared.Board.{Board}
use Rattle.rules.specs.declared.Event.{Event}
use Rattle.rules.specs.declared.Event.TheVariants.{Begin, Cut, DataAck, End, Fence, LogAck, Read, Setup, Write}
use Rattle.rules.specs.declared.Shares.{Shares}
use Rattle.rules.specs.declared.Tables.{Tables}
use Rattle.undo.proofs.Laws.{or_false, test}
use Rattle.undo.specs.Table.{any}

-- ---- records

reads_whole : (n a b : ℕ) (bs more : List ℕ) → length bs ≡ 10
    → read_record (0 ∷ n ∷ a ∷ b ∷ bs ++ more) ≡ Ok (Setup n (num_of (a ∷ b ∷ [])) (shares_at bs))
unfolding read_record event_of kind_at
reads_whole n a b bs more h =
    let e : 13 ≤ length (n ∷ a ∷ b ∷ bs ++ more) = rw length-append (omega arith) in
    let l : 10 ≤ length bs = omega arith in
    rw (le-ltb _ 13 e) (ap (λ s. Ok (Setup n (num_of (a ∷ b ∷ [])) s)) (shares_front bs more l))

reads_short : (body : List ℕ) → length body < 13 → read_record (0 ∷ body) ≡ Err 1
unfolding read_record kind_at
reads_short body h = rw (lt-ltb (length body) 13 h)

-- byte i of the number in w bytes from `at` on
part_byte : (at w i : ℕ) (bs : List ℕ) → all is_byte bs ≡ true → at + w ≤ length bs → i < w → byte_of i (num_of (take w (drop at bs))) ≡ get_or bs (at + i) 0
part_byte at w i bs h l lt =
    let n : length (take w (drop at bs)) ≡ w = length-take-le w (drop at bs) (rw length-drop (omega arith)) in
    let b : bytes_of w (num_of (take w (drop at bs))) ≡ take w (drop at bs)
    = ap (λ k. bytes_of k (num_of (take w (drop at bs)))) (sym n) ∙ bytes_num (take w (drop at bs)) (all_take is_byte w (drop at bs) (all_drop is_byte at bs h)) in
    sym (byte_is w i (num_of (take w (drop at bs))) lt) ∙ ap (λ ys. get_or ys i 0) b ∙ get_or-take w (drop at bs) i 0 lt ∙ get_or-drop at bs i 0

pub setup_read : SetupRead
setup_read =
    record {
      whole = reads_whole;
      short = reads_short;
      parties = λ bs h n t lt. part_byte 0 8 t bs h (omega arith) lt ∙ ap (λ i. get_or bs i 0) (zero-add t);
      reserves = λ bs h n p lt. part_byte 8 2 p bs h (omega arith) lt;
    }

-- ---- which are refused

module _ (n : ℕ) (s : Shares) where
  pub is_fit : is_unfit n s ≡ false → Fit n s
  is_fit e =
      let z = or_false (any (is_no_party n s) word_places) (ltb 16 (reserve_of 0 s + reserve_of 1 s)) e in
      let good : (t : ℕ) → t < 8 → is_no_party n s t ≡ false = λ t h. rw (eight (λ x. x) t h) at (any_none (is_no_party n s) word_places t 0 z.0 h) in
      let two : (t : ℕ) → t < 8 → (ltb 1 (party_of t s) ≡ false) × (leb n t && not (eqb (party_of t s) 0) ≡ false)
      = λ t h. or_false (ltb 1 (party_of t s)) (leb n t && not (eqb (party_of t s) 0)) (good t h) in
      record {
        low = λ t h. ltb-false 1 (party_of t s) (two t h).0;
        absent = λ t h l. eqb-true (party_of t s) 0
            (test (eqb (party_of t s) 0) (λ d. d) (λ d. let y : true ≡ false = rw (le-leb n t l, d) at (two t h).1 in absurd (true≢false y)));
        room = let w = ltb-false 16 (reserve_of 0 s + reserve_of 1 s) z.1 in omega arith;
      }

  not_unfit : Fit n s → is_unfit n s ≡ false
  not_unfit f =
      rw (none_any (is_no_party n s) word_places 0 (λ t h. rw (eight (λ x. x) t h) (good t h))) (le-ltb 16 (reserve_of 0 s + reserve_of 1 s) f.room)
    where
      good : (t : ℕ) → t < 8 → is_no_party n s t ≡ false
      good t h =
          rw (le-ltb 1 (party_of t s) (f.low t h))
          (test (leb n t) (λ e. rw (e, eq-eqb (party_of t s) 0 (f.absent t h (leb-true n t e)))) (λ e. rw e))

  setup_by : (ts : Tables) (l : ℕ) → refusal ts (Setup n l s) ≡ cond (eqb (setup_refusal ts n l) 0) (cond (is_unfit n s) 24 0) 6
  unfolding refusal tests_of
  setup_by ts l =
      test (in_range n l)
      (λ a. test (fits l ts.size)
      (λ f. test (is_set_up ts) (λ u. rw (a, f, u)) (λ u. rw (a, f, u)))
      (λ f. rw (a, f)))
      (λ a. rw a)

  fit_refusal : (ts : Tables) (l : ℕ) → Fit n s → refusal ts (Setup n l s) ≡ setup_refusal ts n l
  fit_refusal ts l f =
      setup_by ts l ∙ rw (not_unfit f) (test (in_range n l && (fits l ts.size && not (is_set_up ts))) (λ e. rw e) (λ e. rw e))

  unfit_refusal : (ts : Tables) (l : ℕ) → (Fit n s → ⊥) → refusal ts (Setup n l s) ≡ cond (eqb (setup_refusal ts n l) 0) 24 6
  unfit_refusal ts l u = setup_by ts l ∙ test (is_unfit n s) (λ e. rw e) (λ e. absurd (u (is_fit e)))

-- no byte of 0 is another
zero_byte : (i : ℕ) → byte_of i 0 ≡ 0
zero_byte i = ap (λ x. x % 256) (zero-div (256 ^ i))

pub no_shares_lem : (n : ℕ) → Fit n no_shares
no_shares_lem n = record { low = λ t h. rw (zero_byte t) (omega arith); absent = λ t h l. zero_byte t; room = omega arith }

pub shares_tested : SharesTested
shares_tested = record { fit = λ ts n l s. fit_refusal n s ts l; unfit = λ ts n l s. unfit_refusal n s ts l; zeros = no_shares_lem }

-- ---- without reserves

nothing_kept : (p h n r : ℕ) → r ≡ 0 → ltb 16 (h + 1 + (byte_of p r - n)) ≡ leb 16 h
nothing_kept p h n r z =
    rw (z, zero_byte p)
    (test (leb 16 h)
    (λ e. let l = leb-true 16 h e in rw e (lt-ltb 16 (h + 1 + (0 - n)) (omega arith)))
    (λ e. let l = leb-false 16 h e in rw e (le-ltb 16 (h + 1 + (0 - n)) (omega arith))))

begins_as_before : (ts : Tables) (t : ℕ) → ts.size.shares.reserves ≡ 0 → tests_of ts (Begin t) ≡ begin_tests ts t
unfolding tests_of
begins_as_before ts t z =
    let s = ts.size.shares in
    let o = other_party (party_of t s) in
    let c = channel_of ((thread_at t ts).last + 1) in
    ap (λ x. take 6 (tests_of ts (Begin t)) ++ (refuse 16 (eqb (depth_of t ts) 0 && x) ∷ []))
    (nothing_kept o (count (in_channel c) ts.regions) (count (is_of_party s c o) ts.regions) s.reserves z)

others_as_before : (ts : Tables) (e : Event) (s : Shares) → is_begin e ≡ false → tests_of (with_shares s ts) e ≡ tests_of ts e
unfolding tests_of owner_of
others_as_before ts (Setup n l z) s e = refl
others_as_before ts (Begin t) s e = absurd (true≢false e)
others_as_before ts (End t) s e = refl
others_as_before ts (Read t l w) s e = refl
others_as_before ts (Write t l w mask v) s e = refl
others_as_before ts (LogAck l) s e = refl
others_as_before ts (DataAck l) s e = refl
others_as_before ts (Fence t) s e = refl
others_as_before ts Cut s e = refl

unsaved : (b : Board) (s : Shares) → image (with_tables (with_shares s b.tables) b) ≡ image b
unfolding image saved saved_log saved_thread
unsaved b s = refl

pub no_reserves : NoReserves
no_reserves = record { begins = begins_as_before; others = others_as_before; unsaved = unsaved }
