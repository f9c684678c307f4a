-- What a recovery call leaves: its answer, the image and the place.
use Rattle.std.specs.Prelude.{ℕ, List}
use Rattle.rules.specs.Recovery.{RecoveryCall}
use Rattle.rules.specs.declared.Answer.{Answer}

abbrev pub recovered : Answer → List ℕ → List ℕ → RecoveryCall
recovered a image place = record { answer = a; image = image; place = place }
