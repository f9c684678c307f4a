use Rattle.std.specs.Prelude.{◌+◌, ◌≡◌, drop}
use Rattle.parsing.specs.Read.{is_name}
use Rattle.rules.specs.Kinds.{kinds}
use Rattle.rules.specs.Lists.{place}
use Rattle.parsing.proofs.kind_of.Given as goal

abbrev pub invariant-loop-number : goal.invariant-loop-number
invariant-loop-number l = l.number + place (is_name l.word) (drop l.number kinds) ≡ place (is_name l.word) kinds
