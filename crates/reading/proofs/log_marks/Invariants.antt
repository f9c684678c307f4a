use mathlib.Core.List.{map}
use Rattle.reading.specs.Scan.{filled}
use Rattle.reading.specs.Spots.{mark_on, spot_at, spots_from}
use Rattle.reading.proofs.Spots.{Filling}
use Rattle.rules.specs.Marks.{no_mark}
use Rattle.reading.proofs.log_marks.Given as goal

abbrev pub invariant-loop-i : goal.invariant-loop-i
invariant-loop-i l = Filling l.src l.logged (filled 256 no_mark (map (mark_on l.src) (spots_from l.logged l.src (spot_at l.first)))) l.log l.spot l.i
