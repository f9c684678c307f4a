-- `laws::bench_recovers` meets its contract, which is the law.
use Rattle.laws.proofs.Bench.{bench_recovers}
use Rattle.laws.proofs.bench_recovers.Goals as goal

pub returns : goal.returns
returns c = bench_recovers
