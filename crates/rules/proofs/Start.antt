-- The board before any event is the undo log's fresh state; its memory holds lines of eight 64-bit words.
use Rattle.undo.specs.Machine as u
use Rattle.undo.specs.History as v
use Prim.Native.Nat.{◌%◌, ◌*◌, ◌+◌, ◌/◌, ◌<◌, suc, zero, ℕ}
use mathlib.Core.Path.{◌∙◌, ◌≡◌, ap, refl, sym}
use mathlib.Core.Bool.{Bool, false, false≢true, true}
use mathlib.Core.List.{List, []}
use lib.Dec.{eqb, leb}
use lib.ListN.{get_or, get_or-replicate, length, length-replicate, replicate}
use native.Mathlib.Omega.{arith}
use borrow.Author.Tests.{eqb-false, leb-true, lt-leb}
use Rattle.rules.proofs.Codec.Bytes.{is_line, line_small}
use Rattle.rules.proofs.Bits.{bit_zero}
use Rattle.rules.proofs.Places.{get_or_same, once_one}
use Rattle.rules.proofs.Sim.State.{GoodRegions, Kept, Logs, Marks, Shape, Sim, Told, by, unread}
use Rattle.rules.proofs.Sim.Base.{clear_waits}
use Rattle.rules.proofs.Sim.Begin.{free_slots, state_free}
use Rattle.rules.proofs.Lists.{count_none}
use Rattle.rules.specs.Claim.{is_byte, is_byte_memory}
use Rattle.rules.specs.Commit.{commits}
use Rattle.rules.specs.History.{depth_in, ends_in, last_writer, lines_in, opened_in, uses_in, writes_in}
use Rattle.rules.specs.Lists.{all}
use Rattle.rules.specs.Tables.{Lent, Memory, Zero, fresh, fresh_tables, in_channel, is_zero, lent_from, lent_length, lent_line, line_of, listed, no_entry, no_region, no_thread, number_of, owner_of, place_of, region_at, start_lines}
use Rattle.rules.specs.declared.SlotState.TheVariants.{Empty, Waiting}
use Rattle.undo.proofs.Laws.{flip, never, test}
use Rattle.serial.specs.Looks.{start}
use Rattle.undo.specs.History.{empty}

-- ---- the starting memory

abbrev zero_line : List ℕ
zero_line = replicate 8 0

module _ (bs : List ℕ) (e : all is_byte bs ≡ true) where
  lent_line_lem : (j : ℕ) → is_line (lent_line bs j) ≡ true
  unfolding lent_line
  lent_line_lem j = test (leb (64 * j + 64) (length bs)) (λ d. rw d (line_small (64 * j) bs e (leb-true (64 * j + 64) (length bs) d))) (λ d. rw d)

  lent_lines : (j n l : ℕ) → l < n → is_line (line_of l (lent_from bs j n)) ≡ true
  unfolding lent_from
  lent_lines j zero l h = absurd (omega arith)
  lent_lines j (suc n) zero h = lent_line_lem j
  lent_lines j (suc n) (suc l) h = lent_lines (suc j) n l (omega arith)

length_lent : (bs : List ℕ) (j n : ℕ) → length (lent_from bs j n) ≡ n
unfolding lent_from
length_lent bs j zero = refl
length_lent bs j (suc n) = ap suc (length_lent bs (suc j) n)

pub start_length : (m : Memory) → length (start_lines m) ≡ 256
unfolding start_lines
start_length Zero = length-replicate 256 zero_line
start_length (Lent bs) = length_lent bs 0 256

zero_lines : (n l : ℕ) → l < n → is_line (line_of l (replicate n zero_line)) ≡ true
zero_lines n l h = rw (get_or-replicate n l zero_line [] h)

start_lines_lem : (m : Memory) → is_byte_memory m ≡ true → (l : ℕ) → l < 256 → is_line (line_of l (start_lines m)) ≡ true
unfolding start_lines
start_lines_lem Zero e l h = zero_lines 256 l h
start_lines_lem (Lent bs) e l h = lent_lines bs e 0 256 l h

-- ---- the tables

free_region : (j : ℕ) → region_at j (replicate 32 no_region) ≡ no_region
free_region j = get_or_same 32 (place_of j (replicate 32 no_region)) no_region

none_listed : (j : ℕ) → listed j (replicate 32 no_region) ≡ false
none_listed j = test (eqb j 0) (λ z. rw z) (λ z. rw (z, flip j 0 z))

regions_fresh : GoodRegions (replicate 32 no_region)
regions_fresh =
    record {
      count = refl;
      good = λ j. rw (get_or_same 32 j no_region) (record { free = λ e. refl; deps = refl; slots = refl; distinct = free_slots 8; finished = λ e. absurd (false≢true e) });
      unique = λ j x. absurd (x (rw (get_or_same 32 j no_region)));
      channels = λ c. omega (arith, count_none (in_channel c) no_region refl 32);
      deps_once = λ j. rw (get_or_same 32 j no_region) (once_one 0 3);
    }

shape_fresh : (z : Bool) (n : ℕ) → Shape (fresh_tables z n)
shape_fresh z n =
    record {
      regions = regions_fresh;
      threads = record { count = refl; logs = λ t. rw (get_or_same 8 t no_thread); range = λ t g. get_or_same 8 t no_thread };
      owner = length-replicate {A = ℕ} 256 0;
      lock = length-replicate 256 false;
      size = λ e. refl;
      cut_setup = λ e. absurd (false≢true e);
    }

logs_fresh : (m : Memory) → Logs (fresh m) (u.fresh (λ l. line_of l (start_lines m)))
unfolding fresh
logs_fresh m =
    record {
      entry = λ t j x. absurd (x (rw (get_or_same 8 t no_thread, get_or_same 32 j no_entry)));
      empty = λ t j e. rw (get_or_same 8 t no_thread) (get_or_same 32 j no_entry);
      present = λ k l e. absurd (false≢true e);
      once = λ t j a x e d. absurd (x (rw (get_or_same 8 t no_thread, get_or_same 32 j no_entry)));
      ranks = λ t j a x e d. absurd (x (rw (get_or_same 8 t no_thread, get_or_same 32 j no_entry)));
    }

told_fresh : (m : Memory) → Told (fresh m) [] (u.fresh (λ l. line_of l (start_lines m))) v.empty
unfolding fresh depth_in opened_in lines_in ends_in writes_in uses_in last_writer
told_fresh m =
    record {
      depth = λ t. rw (get_or_same 8 t no_thread);
      last = λ t. rw (get_or_same 8 t no_thread);
      numbers = λ t. omega arith;
      lines = λ e. refl;
      born = λ k. test (eqb (number_of k) 0) (λ d. rw d) (λ d. rw d (sym (lt-leb (number_of k) 0 (omega (arith, eqb-false (number_of k) 0 d)))));
      ends = refl;
      writes = refl;
      uses = λ k q e x. absurd (false≢true e);
      open_last = λ k p. absurd (false≢true p.began);
      last_open = λ t x. absurd (x refl);
      owner = λ l. get_or_same 256 l 0;
    }

sim_fresh : (m : Memory) → is_byte_memory m ≡ true → Sim (fresh m) [] (u.fresh (λ l. line_of l (start_lines m))) v.empty
unfolding fresh owner_of
sim_fresh m e =
    record {
      shape = shape_fresh (is_zero m) (lent_length m);
      memories = record {
        cur = start_length m;
        med = start_length m;
        old = length-replicate 256 zero_line;
        car = length-replicate 256 zero_line;
        cur_lines = start_lines_lem m e;
        med_lines = start_lines_lem m e;
        old_lines = zero_lines 256;
        car_lines = zero_lines 256;
      };
      logs = logs_fresh m;
      told = told_fresh m;
      cur = λ l. refl;
      med = λ l. refl;
      lock = λ l. sym (get_or_same 256 l false);
      slot = λ l k. rw (free_region k, state_free l);
      dep = λ a d. rw (free_region a) (test (eqb d 0) (λ z. rw z) (λ z. rw z));
      live = none_listed;
      ended = λ k p. never p (none_listed k);
      top = λ l. rw (none_listed (get_or (replicate 256 0) l 0));
      waits = λ l k w. absurd (clear_waits w);
    }

marks_fresh : (m : Memory) → Marks (fresh m) []
unfolding fresh depth_in
marks_fresh m =
    record {
      words = λ t. rw (get_or_same 8 t no_thread);
      marks = λ t l h. rw (get_or_same 8 t no_thread, get_or_same {A = ℕ} 4 (l / 64) 0) (bit_zero (l % 64));
    }

pub initially : (m : Memory) → is_byte_memory m ≡ true → Kept m (fresh m) []
unfolding fresh commits
initially m e =
    record {
      simulated = by _ _ (record { seen = []; seeing = start; looks = unread; marks = marks_fresh m }) (sim_fresh m e);
      rest = record {
        flown = λ k l c x w. let v : Empty ≡ Waiting c = sym (state_free l) ∙ (rw (free_region k) at w) in let z : ◌≡◌ {A = ℕ} 0 1 = cc in absurd (omega arith);
        finished = λ j e n. absurd (false≢true (rw (get_or_same 32 j no_region) at e));
        settled = λ j. rw (get_or_same 32 j no_region);
      };
    }
