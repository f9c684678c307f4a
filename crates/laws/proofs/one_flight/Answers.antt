-- `laws::one_flight` meets its contract, which is the law.
use Rattle.laws.proofs.Flights.{one_flight}
use Rattle.laws.proofs.one_flight.Goals as goal

pub returns : goal.returns
returns c = one_flight
