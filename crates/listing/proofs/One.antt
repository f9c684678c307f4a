-- The bytes tell the tables.
use Prim.Native.Nat.{◌*◌, ◌^◌, ℕ}
use mathlib.Core.Path.{◌∙◌, ◌≡◌, ap, refl, sym}
use mathlib.Core.Bool.{Bool, ◌&&◌, false, true}
use mathlib.Core.List.{List, [], ◌++◌, ◌∷◌, head-eq_of_cons-eq, map, tail-eq_of_cons-eq}
use lib.ListN.{length}
use native.Mathlib.Omega.{arith}
use borrow.Author.Tests.{eqb-true, ltb-true}
use Rattle.listing.proofs.Lengths.{flat_wide, front_long, head_long, keys_long, region_long, thread_long}
use Rattle.listing.specs.Claim.{OneTables, entry_fits, fits, is_long, long_region, long_thread, region_fits, thread_fits}
use Rattle.listing.specs.Layout.{count_byte, entry_bytes, flag, front_bytes, head_bytes, region_bytes, slot_bytes, state_byte, tables_bytes, thread_bytes}
use Rattle.rules.proofs.Codec.Bytes.{length_bytes, num_bytes}
use Rattle.rules.specs.Bytes.{bytes_of, num_of}
use Rattle.rules.specs.Lists.{all, flat}
use Rattle.rules.specs.declared.Entry.{Entry}
use Rattle.rules.specs.declared.Region.{Region}
use Rattle.rules.specs.declared.Slot.{Slot}
use Rattle.rules.specs.declared.SlotState.TheVariants.{Empty, InFlight, Waiting}
use Rattle.rules.specs.declared.SlotState.{SlotState}
use Rattle.rules.specs.declared.Thread.{Thread}
use Rattle.undo.proofs.Laws.{and_true}

-- ---- lists

split : (xs ys zs ws : List ℕ) → length xs ≡ length ys → xs ++ zs ≡ ys ++ ws → (xs ≡ ys) × (zs ≡ ws)
split [] [] zs ws n e = (refl, e)
split [] (y ∷ ys) zs ws n e = absurd (omega arith)
split (x ∷ xs) [] zs ws n e = absurd (omega arith)
split (x ∷ xs) (y ∷ ys) zs ws n e = let r = split xs ys zs ws (omega arith) (tail-eq_of_cons-eq e) in (λ i. head-eq_of_cons-eq e i ∷ r.0 i, r.1)

both : {A : Type 0} (p q : A → Bool) (xs : List A) → all p xs ≡ true → all q xs ≡ true → all (λ x. p x && q x) xs ≡ true
both p q [] e f = refl
both p q (x ∷ xs) e f = let a = and_true (p x) (all p xs) e in let b = and_true (q x) (all q xs) f in rw (a.0, b.0) (both p q xs a.1 b.1)

any_passes : {A : Type 0} (xs : List A) → all (λ x. true) xs ≡ true
any_passes [] = refl
any_passes (x ∷ xs) = any_passes xs

flat_one : {A : Type 0} (f : A → List ℕ) (p : A → Bool) (w : ℕ) → ((x : A) → p x ≡ true → length (f x) ≡ w)
    → ((x y : A) → p x ≡ true → p y ≡ true → f x ≡ f y → x ≡ y)
    → (xs ys : List A) → length xs ≡ length ys → all p xs ≡ true → all p ys ≡ true → flat f xs ≡ flat f ys → xs ≡ ys
unfolding flat
flat_one f p w h g [] [] n a b e = refl
flat_one f p w h g [] (y ∷ ys) n a b e = absurd (omega arith)
flat_one f p w h g (x ∷ xs) [] n a b e = absurd (omega arith)
flat_one f p w h g (x ∷ xs) (y ∷ ys) n a b e =
    let c = and_true (p x) (all p xs) a in
    let d = and_true (p y) (all p ys) b in
    let r = split (f x) (f y) (flat f xs) (flat f ys) (h x c.0 ∙ sym (h y d.0)) e in
    let o = flat_one f p w h g xs ys (omega arith) c.1 d.1 r.1 in
    λ i. g x y c.0 d.0 r.0 i ∷ o i

-- ---- numbers and flags

number_one : (w x y : ℕ) → fits w x ≡ true → fits w y ≡ true → bytes_of w x ≡ bytes_of w y → x ≡ y
number_one w x y a b e = sym (num_bytes w x (ltb-true x (256 ^ w) a)) ∙ (ap num_of e ∙ num_bytes w y (ltb-true y (256 ^ w) b))

-- a number, and what stands behind it
number_split : (w x y : ℕ) (zs ws : List ℕ) → fits w x ≡ true → fits w y ≡ true → bytes_of w x ++ zs ≡ bytes_of w y ++ ws → (x ≡ y) × (zs ≡ ws)
number_split w x y zs ws a b e =
    let r = split (bytes_of w x) (bytes_of w y) zs ws (length_bytes w x ∙ sym (length_bytes w y)) e in
    (number_one w x y a b r.0, r.1)

-- n numbers, and what stands behind them
numbers_split : (w n : ℕ) (xs ys zs ws : List ℕ) → is_long n xs ≡ true → is_long n ys ≡ true → all (fits w) xs ≡ true → all (fits w) ys ≡ true
    → flat (bytes_of w) xs ++ zs ≡ flat (bytes_of w) ys ++ ws → (xs ≡ ys) × (zs ≡ ws)
numbers_split w n xs ys zs ws l m a b e =
    let p = eqb-true (length xs) n l in
    let q = eqb-true (length ys) n m in
    let r = split (flat (bytes_of w) xs) (flat (bytes_of w) ys) zs ws (keys_long w n xs p ∙ sym (keys_long w n ys q)) e in
    (flat_one (bytes_of w) (fits w) w (λ x t. length_bytes w x) (number_one w) xs ys (p ∙ sym q) a b r.0, r.1)

flag_one : (b c : Bool) → flag b ≡ flag c → b ≡ c
flag_one true true e = refl
flag_one true false e = absurd (omega (arith, e))
flag_one false true e = absurd (omega (arith, e))
flag_one false false e = refl

flags_one : (xs ys : List Bool) → map flag xs ≡ map flag ys → xs ≡ ys
flags_one [] [] e = refl
flags_one [] (y ∷ ys) e = absurd (omega (arith, ap length e))
flags_one (x ∷ xs) [] e = absurd (omega (arith, ap length e))
flags_one (x ∷ xs) (y ∷ ys) e = let r = flags_one xs ys (tail-eq_of_cons-eq e) in λ i. flag_one x y (head-eq_of_cons-eq e) i ∷ r i

-- ---- slots, log entries

state_one : (a b : SlotState) → state_byte a ≡ state_byte b → count_byte a ≡ count_byte b → a ≡ b
state_one Empty Empty e f = refl
state_one Empty (Waiting m) e f = absurd (omega (arith, e))
state_one Empty InFlight e f = absurd (omega (arith, e))
state_one (Waiting n) Empty e f = absurd (omega (arith, e))
state_one (Waiting n) (Waiting m) e f = ap Waiting f
state_one (Waiting n) InFlight e f = absurd (omega (arith, e))
state_one InFlight Empty e f = absurd (omega (arith, e))
state_one InFlight (Waiting m) e f = absurd (omega (arith, e))
state_one InFlight InFlight e f = refl

slot_one : (s t : Slot) → slot_bytes s ≡ slot_bytes t → s ≡ t
unfolding slot_bytes
slot_one s t e =
    let a = tail-eq_of_cons-eq e in
    let x = state_one s.state t.state (head-eq_of_cons-eq a) (head-eq_of_cons-eq (tail-eq_of_cons-eq a)) in
    λ i. record { line = head-eq_of_cons-eq e i; state = x i }

slots_one : (ss ts : List Slot) → length ss ≡ length ts → flat slot_bytes ss ≡ flat slot_bytes ts → ss ≡ ts
unfolding slot_bytes
slots_one ss ts n e = flat_one slot_bytes (λ s. true) 3 (λ s a. refl) (λ s t a b d. slot_one s t d) ss ts n (any_passes ss) (any_passes ts) e

entry_one : (e g : Entry) → entry_fits e ≡ true → entry_fits g ≡ true → entry_bytes e ≡ entry_bytes g → e ≡ g
unfolding entry_bytes
entry_one e g a b d =
    let k = number_split 4 e.key g.key _ _ a b d in
    let r = tail-eq_of_cons-eq k.1 in
    let p = flag_one e.persistent g.persistent (head-eq_of_cons-eq (tail-eq_of_cons-eq r)) in
    λ i. record { key = k.0 i; line = head-eq_of_cons-eq k.1 i; rank = head-eq_of_cons-eq r i; persistent = p i }

log_one : (es gs : List Entry) → length es ≡ length gs → all entry_fits es ≡ true → all entry_fits gs ≡ true → flat entry_bytes es ≡ flat entry_bytes gs → es ≡ gs
unfolding entry_bytes bytes_of
log_one es gs n a b e = flat_one entry_bytes entry_fits 7 (λ x t. refl) entry_one es gs n a b e

-- ---- threads and regions

thread_one : (x y : Thread) → (long_thread x && thread_fits x) ≡ true → (long_thread y && thread_fits y) ≡ true → thread_bytes x ≡ thread_bytes y → x ≡ y
unfolding thread_bytes
thread_one x y a b e =
    let p = and_true (long_thread x) (thread_fits x) a in
    let q = and_true (long_thread y) (thread_fits y) b in
    let pl = and_true (is_long 4 x.reads) (is_long 32 x.log) p.0 in
    let ql = and_true (is_long 4 y.reads) (is_long 32 y.log) q.0 in
    let pf = and_true (fits 2 x.last) (all (fits 8) x.reads && all entry_fits x.log) p.1 in
    let qf = and_true (fits 2 y.last) (all (fits 8) y.reads && all entry_fits y.log) q.1 in
    let pe = and_true (all (fits 8) x.reads) (all entry_fits x.log) pf.1 in
    let qe = and_true (all (fits 8) y.reads) (all entry_fits y.log) qf.1 in
    let n = number_split 2 x.last y.last _ _ pf.0 qf.0 (tail-eq_of_cons-eq e) in
    let r = numbers_split 8 4 x.reads y.reads _ _ pl.0 ql.0 pe.0 qe.0 n.1 in
    let l = log_one x.log y.log (eqb-true (length x.log) 32 pl.1 ∙ sym (eqb-true (length y.log) 32 ql.1)) pe.1 qe.1 r.1 in
    λ i. record { depth = head-eq_of_cons-eq e i; last = n.0 i; log = l i; reads = r.0 i }

region_one : (x y : Region) → (long_region x && region_fits x) ≡ true → (long_region y && region_fits y) ≡ true → region_bytes x ≡ region_bytes y → x ≡ y
unfolding region_bytes front_bytes
region_one x y a b e =
    let p = and_true (long_region x) (region_fits x) a in
    let q = and_true (long_region y) (region_fits y) b in
    let pl = and_true (is_long 4 x.deps) (is_long 4 x.recent && is_long 8 x.slots) p.0 in
    let ql = and_true (is_long 4 y.deps) (is_long 4 y.recent && is_long 8 y.slots) q.0 in
    let pm = and_true (is_long 4 x.recent) (is_long 8 x.slots) pl.1 in
    let qm = and_true (is_long 4 y.recent) (is_long 8 y.slots) ql.1 in
    let pf = and_true (fits 4 x.key) (fits 4 x.stamp && all (fits 4) x.deps) p.1 in
    let qf = and_true (fits 4 y.key) (fits 4 y.stamp && all (fits 4) y.deps) q.1 in
    let pg = and_true (fits 4 x.stamp) (all (fits 4) x.deps) pf.1 in
    let qg = and_true (fits 4 y.stamp) (all (fits 4) y.deps) qf.1 in
    let f = split (front_bytes x) (front_bytes y) _ _ (front_long x ∙ sym (front_long y)) e in
    let k = number_split 4 x.key y.key _ _ pf.0 qf.0 f.0 in
    let n = tail-eq_of_cons-eq k.1 in
    let d = tail-eq_of_cons-eq n in
    let t = number_one 4 x.stamp y.stamp pg.0 qg.0 (tail-eq_of_cons-eq d) in
    let o = numbers_split 4 4 x.deps y.deps _ _ pl.0 ql.0 pg.1 qg.1 f.1 in
    let l = split x.recent y.recent _ _ (eqb-true (length x.recent) 4 pm.0 ∙ sym (eqb-true (length y.recent) 4 qm.0)) o.1 in
    let s = slots_one x.slots y.slots (eqb-true (length x.slots) 8 pm.1 ∙ sym (eqb-true (length y.slots) 8 qm.1)) l.1 in
    let en = flag_one x.ended y.ended (head-eq_of_cons-eq n) in
    let dn = flag_one x.done y.done (head-eq_of_cons-eq d) in
    λ i. record { key = k.0 i; channel = head-eq_of_cons-eq k.1 i; ended = en i; done = dn i; stamp = t i; deps = o.0 i; recent = l.0 i; slots = s i }

-- ---- the tables

-- parts of one width that pass a test, and what stands behind them
parts_split : {A : Type 0} (f : A → List ℕ) (p q : A → Bool) (w n : ℕ) → ((x : A) → p x ≡ true → length (f x) ≡ w)
    → ((x y : A) → (p x && q x) ≡ true → (p y && q y) ≡ true → f x ≡ f y → x ≡ y)
    → (xs ys : List A) (zs ws : List ℕ) → is_long n xs ≡ true → is_long n ys ≡ true → all p xs ≡ true → all p ys ≡ true → all q xs ≡ true → all q ys ≡ true
    → flat f xs ++ zs ≡ flat f ys ++ ws → (xs ≡ ys) × (zs ≡ ws)
parts_split f p q w n h g xs ys zs ws l m a b c d e =
    let k = eqb-true (length xs) n l in
    let j = eqb-true (length ys) n m in
    let r = split (flat f xs) (flat f ys) zs ws (flat_wide f p w h xs a ∙ (ap (λ (u : ℕ). w * u) (k ∙ sym j) ∙ sym (flat_wide f p w h ys b))) e in
    (flat_one f (λ x. p x && q x) w (λ x t. h x (and_true (p x) (q x) t).0) g xs ys (k ∙ sym j) (both p q xs a c) (both p q ys b d) r.0, r.1)

pub one_tables : OneTables
unfolding tables_bytes head_bytes
one_tables ts us l m a b z n e =
    let h = split (head_bytes ts) (head_bytes us) _ _ (head_long ts ∙ sym (head_long us)) e in
    let ln = number_split 2 ts.size.lines us.size.lines _ _ a.lines b.lines (tail-eq_of_cons-eq h.0) in
    let pt = number_split 8 ts.size.shares.parties us.size.shares.parties _ _ a.parties b.parties ln.1 in
    let rv = number_split 2 ts.size.shares.reserves us.size.shares.reserves _ _ a.reserves b.reserves pt.1 in
    let ct = flag_one ts.cut us.cut (head-eq_of_cons-eq rv.1) in
    let ck = number_one 4 ts.clock us.clock a.clock b.clock (tail-eq_of_cons-eq rv.1) in
    let th = parts_split thread_bytes long_thread thread_fits 259 8 thread_long thread_one ts.threads us.threads _ _ l.threads m.threads l.each_thread m.each_thread a.each_thread b.each_thread h.1 in
    let rg = parts_split region_bytes long_region region_fits 55 32 region_long region_one ts.regions us.regions _ _ l.regions m.regions l.each_region m.each_region a.each_region b.each_region th.1 in
    let ow = numbers_split 4 256 ts.owner us.owner _ _ l.owner m.owner a.owner b.owner rg.1 in
    let lk = flags_one ts.lock us.lock ow.1 in
    λ i. record {
      size = record { threads = head-eq_of_cons-eq h.0 i; lines = ln.0 i; shares = record { parties = pt.0 i; reserves = rv.0 i }; zero = z i; lent = n i };
      cut = ct i;
      clock = ck i;
      threads = th.0 i;
      regions = rg.0 i;
      owner = ow.0 i;
      lock = lk i;
    }
