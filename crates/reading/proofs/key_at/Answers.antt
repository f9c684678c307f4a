use Prim.Native.Nat.{◌+◌}
use mathlib.Core.Path.{◌≡◌}
use native.Mathlib.Omega.{arith}
use Rattle.lines.proofs.Words.{num_two}
use Rattle.reading.proofs.key_at.Goals as goal

pub returns : goal.returns
returns c = let e : c.args.place + 1 + 1 ≡ c.args.place + 2 = omega arith in omega (arith, c.join16.ensures, c.join8-number.ensures, rw e at (num_two c.args.body.now (c.args.place + 1) (omega arith)))
