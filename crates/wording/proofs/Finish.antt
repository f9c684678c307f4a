-- Recovery steps until one does not answer 'more', by what a step leaves.
use Prim.Native.Nat.{◌+◌, ◌-◌, ◌<◌, suc, zero, ℕ}
use mathlib.Core.Bool.{false}
use mathlib.Core.Path.{◌∙◌, ◌≡◌, ap}
use mathlib.Core.List.{List}
use native.Mathlib.Omega.{arith}
use borrow.Author.Tests.{eq-eqb, ne_eqb}
use Rattle.headed.proofs.Old.{old_step}
use Rattle.headed.specs.Recovery.{restore_as}
use Rattle.recovery.specs.Places.{restored_of}
use Rattle.recovery.specs.declared.Walked.{Walked}
use Rattle.rules.specs.Recovery.{Recovering, Restored, restore}
use Rattle.wording.specs.Text.{finish}

-- at most n steps more
abbrev pub finish_in : ℕ → Recovering → List ℕ
finish_in zero r = r.bytes
finish_in (suc n) r = finish n r

module _ (r : Recovering) (bs : List ℕ) (w : Walked) (e : restored_of bs w ≡ restore_as false r) where
  s : restored_of bs w ≡ restore r
  s = e ∙ old_step r

  stop_in : (n : ℕ) → (w.answer.value ≡ 1 → ⊥) → bs ≡ finish n r
  unfolding finish
  stop_in zero h = ap (λ (x : Restored). x.after.bytes) s
  stop_in (suc n) h = rw (← s, ne_eqb w.answer.value 1 h)

  more_in : (n : ℕ) → w.answer.value ≡ 1 → finish_in n (record { bytes = bs; at = w.at }) ≡ finish n r
  unfolding finish
  more_in zero h = ap (λ (x : Restored). x.after.bytes) s
  more_in (suc n) h = rw (← s, eq-eqb w.answer.value 1 h)

  -- the step with `left` of them to come, of at most n
  module _ (n i : ℕ) (h : i < n) where
    one_less : n - i ≡ suc (n - (i + 1))
    one_less = omega arith

    pub finish_stop : (w.answer.value ≡ 1 → ⊥) → bs ≡ finish_in (n - i) r
    finish_stop k = rw one_less (stop_in (n - (i + 1)) k)

    pub finish_more : w.answer.value ≡ 1 → finish_in (n - (i + 1)) (record { bytes = bs; at = w.at }) ≡ finish_in (n - i) r
    finish_more k = rw one_less (more_in (n - (i + 1)) k)

pub finish_none : (n i : ℕ) (r : Recovering) → n - i ≡ 0 → r.bytes ≡ finish_in (n - i) r
finish_none n i r e = rw e
