-- The refusals of an image of either form are those of an old one: each is 1, 2, 3, 4, 6, 7 or 8.
use Prim.Native.Nat.{◌+◌, ℕ}
use mathlib.Core.Path.{◌≡◌, refl}
use mathlib.Core.Bool.{Bool, not, true}
use mathlib.Core.List.{List, ◌∷◌}
use lib.Dec.{leb}
use lib.ListN.{length}
use Rattle.rules.proofs.Codec.Records.{along}
use Rattle.rules.proofs.Codec.Refusals.{ImageRefusals, either, fields_stop, refuses_by, stops_by, unless_refuses}
use Rattle.rules.specs.Image.{Persistent}
use Rattle.rules.specs.Lists.{all, count}
use Rattle.rules.specs.Reader.{Last, Next, Stop, Turn, fields_turn, is_known_thread, is_logged_by, key_at, last_logged, turn_by}
use Rattle.rules.specs.Tables.{thread_of}
use Rattle.headed.specs.Reader.{Progress, fields_in, headed_body, header_turn, held_by, held_in, is_behind_short, is_header, is_kind_of, is_on_board, is_placed_in, onward, read_as, records_read_as, state_read, turn_in, unread}

module _ (ok : ℕ → Bool) (h : ImageRefusals ok) where
  header_stops : (s : Progress) (k : ℕ) (bs : List ℕ) → stops_by ok (header_turn s k bs) ≡ true
  unfolding header_turn
  header_stops s k bs =
      either ok (is_known_thread s.state.threads (key_at bs 0)) _ (Stop 3)
      (either ok (all (is_on_board s.state.lines) (held_in (held_by k) bs)) _ (Stop 4)
      (either ok (leb (last_logged s.state.log) (key_at bs 0)) _ (Stop 7)
      (either ok (not (is_behind_short s (key_at bs 0))) _ (Stop 7)
      (either ok (leb (count (is_logged_by (thread_of (key_at bs 0))) s.state.log + held_by k) 32) (Next _) (Stop 7) refl h.seven) h.seven) h.seven) h.four) h.three

  onward_stops : (s : Progress) (k : ℕ) (t : Turn Persistent) → stops_by ok t ≡ true → stops_by ok (onward s k t) ≡ true
  onward_stops s k (Stop n) e = e
  onward_stops s k (Next p) e = refl
  onward_stops s k (Last p) e = refl

  module _ (headed : Bool) where
    turn_stops : (s : Progress) (k : ℕ) (bs : List ℕ) → stops_by ok (turn_in headed s (k ∷ bs)) ≡ true
    unfolding turn_by fields_in
    turn_stops s k bs =
        either ok (is_kind_of headed k) _ (Stop 2)
        (either ok (is_placed_in s k) _ (Stop 7)
        (either ok (leb (headed_body k) (length bs)) _ (Stop 1)
        (either ok (is_header k) _ _ (header_stops s k bs) (onward_stops s k (fields_turn s.state k bs) (fields_stop ok h s.state k bs))) h.one) h.seven) h.two

    pub headed_records_refuse : (bs : List ℕ) → refuses_by ok (records_read_as headed bs) ≡ true
    unfolding records_read_as
    headed_records_refuse bs =
        along (turn_in headed) headed_body (λ s bs. Unit {0}) (λ v. refuses_by ok (state_read v) ≡ true) h.one (λ s n b bs g t. rw t at (turn_stops s b bs)) (λ s q b bs g t. tt)
        (λ s q b bs g t. refl) bs 0 unread tt

    pub headed_refuses : (bs : List ℕ) → refuses_by ok (read_as headed bs) ≡ true
    unfolding read_as
    headed_refuses bs = unless_refuses ok h (records_read_as headed bs) (headed_records_refuse bs)
