-- How long the parts are.
use Prim.Native.Nat.{◌*◌, ℕ}
use mathlib.Core.Path.{◌≡◌, refl}
use mathlib.Core.Bool.{Bool, ◌&&◌, true}
use mathlib.Core.List.{List, [], ◌++◌, ◌∷◌, map}
use lib.ListN.{length, length-append, length-map}
use native.Mathlib.Omega.{arith}
use native.Mathlib.Nat.{mul-suc}
use borrow.Author.Tests.{eqb-true}
use Rattle.listing.specs.Claim.{Fixed, is_long, long_region, long_thread}
use Rattle.listing.specs.Layout.{entry_bytes, flag, front_bytes, head_bytes, region_bytes, slot_bytes, tables_bytes, thread_bytes}
use Rattle.rules.proofs.Codec.Bytes.{length_bytes}
use Rattle.rules.specs.Bytes.{bytes_of}
use Rattle.rules.specs.Lists.{all, flat}
use Rattle.rules.specs.declared.Entry.{Entry}
use Rattle.rules.specs.declared.Region.{Region}
use Rattle.rules.specs.declared.Slot.{Slot}
use Rattle.rules.specs.declared.Tables.{Tables}
use Rattle.rules.specs.declared.Thread.{Thread}
use Rattle.undo.proofs.Laws.{and_true}
use Rattle.writing.proofs.Emit.{flat_long}

-- elements that pass a test are of one width
pub flat_wide : {A : Type 0} (f : A → List ℕ) (p : A → Bool) (w : ℕ) → ((x : A) → p x ≡ true → length (f x) ≡ w) → (xs : List A) → all p xs ≡ true → length (flat f xs) ≡ w * length xs
unfolding flat
flat_wide f p w h [] e = omega arith
flat_wide f p w h (x ∷ xs) e =
    let b = and_true (p x) (all p xs) e in
    rw (length-append (f x) (flat f xs), h x b.0, flat_wide f p w h xs b.1, mul-suc w (length xs)) (omega arith)

pub keys_long : (w n : ℕ) (xs : List ℕ) → length xs ≡ n → length (flat (bytes_of w) xs) ≡ w * n
keys_long w n xs e = rw (flat_long (bytes_of w) w (length_bytes w) xs, e)

pub front_long : (r : Region) → length (front_bytes r) ≡ 11
unfolding front_bytes bytes_of
front_long r = refl

slots_long : (ss : List Slot) → length (flat slot_bytes ss) ≡ 3 * length ss
unfolding slot_bytes
slots_long ss = flat_long slot_bytes 3 (λ s. refl) ss

pub region_long : (r : Region) → long_region r ≡ true → length (region_bytes r) ≡ 55
unfolding region_bytes
region_long r e =
    let b = and_true (is_long 4 r.deps) (is_long 4 r.recent && is_long 8 r.slots) e in
    let d = and_true (is_long 4 r.recent) (is_long 8 r.slots) b.1 in
    rw (length-append (front_bytes r) (flat (bytes_of 4) r.deps ++ (r.recent ++ flat slot_bytes r.slots)), length-append (flat (bytes_of 4) r.deps) (r.recent ++ flat slot_bytes r.slots), length-append r.recent (flat slot_bytes r.slots), front_long r, keys_long 4 4 r.deps (eqb-true (length r.deps) 4 b.0), slots_long r.slots, eqb-true (length r.recent) 4 d.0, eqb-true (length r.slots) 8 d.1)
    refl

log_long : (es : List Entry) → length (flat entry_bytes es) ≡ 7 * length es
unfolding entry_bytes bytes_of
log_long es = flat_long entry_bytes 7 (λ e. refl) es

pub thread_long : (th : Thread) → long_thread th ≡ true → length (thread_bytes th) ≡ 259
unfolding thread_bytes
thread_long th e =
    let b = and_true (is_long 4 th.reads) (is_long 32 th.log) e in
    omega (arith, length-append (bytes_of 2 th.last) (flat (bytes_of 8) th.reads ++ flat entry_bytes th.log), length-append (flat (bytes_of 8) th.reads) (flat entry_bytes th.log), length_bytes 2 th.last, keys_long 8 4 th.reads (eqb-true (length th.reads) 4 b.0), log_long th.log, eqb-true (length th.log) 32 b.1)

pub head_long : (ts : Tables) → length (head_bytes ts) ≡ 18
unfolding head_bytes bytes_of
head_long ts = refl

pub fixed : Fixed
unfolding tables_bytes
fixed ts l =
    let ths = flat_wide thread_bytes long_thread 259 thread_long ts.threads l.each_thread in
    let rs = flat_wide region_bytes long_region 55 region_long ts.regions l.each_region in
    let os = keys_long 4 256 ts.owner (eqb-true (length ts.owner) 256 l.owner) in
    omega (
      arith,
      length-append (head_bytes ts) (flat thread_bytes ts.threads ++ (flat region_bytes ts.regions ++ (flat (bytes_of 4) ts.owner ++ map flag ts.lock))),
      length-append (flat thread_bytes ts.threads) (flat region_bytes ts.regions ++ (flat (bytes_of 4) ts.owner ++ map flag ts.lock)),
      length-append (flat region_bytes ts.regions) (flat (bytes_of 4) ts.owner ++ map flag ts.lock),
      length-append (flat (bytes_of 4) ts.owner) (map flag ts.lock),
      head_long ts,
      ths,
      rs,
      os,
      length-map ts.lock flag,
      eqb-true (length ts.threads) 8 l.threads,
      eqb-true (length ts.regions) 32 l.regions,
      eqb-true (length ts.lock) 256 l.lock,
    )
