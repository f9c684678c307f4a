-- An array whose first n elements are the keys of the walk, with zeros behind.
use Prim.Native.Nat.{◌+◌, ◌-◌, ◌<◌, ◌≤◌, suc, ℕ}
use mathlib.Core.Path.{◌∙◌, ◌≡◌, ap, ap₂, sym}
use mathlib.Core.List.{List, ◌++◌}
use lib.ListN.{drop, length, replicate, set, take, take-append-drop}
use lib.Seq.{drop-drop, drop-set-lt, length-take-le, take-append_seam}
use native.Mathlib.Omega.{arith}
use Rattle.walking.specs.Indices.{held_order, order_of}
use Rattle.walking.specs.declared.Order.{Order}

-- a store at n leaves the zeros behind it
pub zeros_more : (xs : List ℕ) (n x : ℕ) → n < 32 → drop n xs ≡ replicate (32 - n) 0 → drop (n + 1) (set xs n x) ≡ replicate (32 - (n + 1)) 0
zeros_more xs n x h e =
    let k : 32 - n ≡ suc (32 - (n + 1)) = omega arith in
    drop-set-lt (n + 1) xs n x (omega arith) ∙ sym (drop-drop 1 n xs) ∙ ap (drop 1) (e ∙ ap (λ m. replicate m 0) k)

pub held_whole : (xs : List ℕ) (n : ℕ) → length xs ≡ 32 → n ≤ 32 → drop n xs ≡ replicate (32 - n) 0 → (ks : List ℕ) → take n xs ≡ ks
    → ◌≡◌ {A = Order} (record { count = n; keys = xs }) (held_order ks)
held_whole xs n l h z ks e =
    let c : n ≡ length ks = sym (ap length (sym e) ∙ length-take-le n xs (omega arith)) in
    let w : xs ≡ ks ++ replicate (32 - length ks) 0 = sym (take-append-drop n xs) ∙ ap₂ ◌++◌ e (z ∙ ap (λ m. replicate (32 - m) 0) c) in
    rw (← c) (ap (λ ys. record { count = n; keys = ys }) (w ∙ ap (λ m. ks ++ replicate (32 - m) 0) (sym c)))

-- the keys of such an order
pub held_keys : (ks : List ℕ) → order_of (held_order ks) ≡ ks
held_keys ks = take-append_seam ks (replicate (32 - length ks) 0)
