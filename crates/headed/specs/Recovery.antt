-- The recovery step over an image of either form.
use Rattle.std.specs.Prelude.{ℕ, Bool, cond, true, List, eqb, length}
use Rattle.headed.specs.Reader.{read_as}
use Rattle.rules.specs.Bytes.{num_of}
use Rattle.rules.specs.Recovery.{Recovering, RecoveryCall, Restored, answered, called_by, restore_read}

-- a step by a reader of the old form, or of both
unfoldable pub restore_as : Bool → Recovering → Restored
restore_as headed r = restore_read (read_as headed r.bytes) r

abbrev pub restore_headed : Recovering → Restored
restore_headed = restore_as true

-- the call: "a place not of eight bytes gives 6 before any other check, with nothing written"
unfoldable pub recovery_call_as : Bool → List ℕ → List ℕ → RecoveryCall
recovery_call_as headed bs at =
    cond (eqb (length at) 8) (called_by (restore_as headed (record { bytes = bs; at = num_of at })))
    (record { answer = answered 6 0; image = bs; place = at })

abbrev pub recovery_headed_call : List ℕ → List ℕ → RecoveryCall
recovery_headed_call = recovery_call_as true
