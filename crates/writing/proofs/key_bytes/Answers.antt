use Prim.Native.Nat.{◌%◌, ◌/◌}
use mathlib.Core.Path.{◌≡◌}
use native.Mathlib.Omega.{arith}
use Rattle.rules.specs.Bytes.{bytes_of}
use Rattle.writing.proofs.key_bytes.Goals as goal

pub returns : goal.returns
unfolding bytes_of
returns c =
    let k = c.args.key in
    let thread : k / 65536 % 256 ≡ k / 256 / 256 % 256 = omega arith in
    let low : k % 65536 % 256 ≡ k % 256 = omega arith in
    let high : k % 65536 / 256 % 256 ≡ k / 256 % 256 = omega arith in
    rw (c.to_le_bytes.ensures, thread, low, high)
