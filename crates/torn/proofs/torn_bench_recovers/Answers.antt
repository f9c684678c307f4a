-- `torn::torn_bench_recovers` meets its contract, which is the promise.
use Rattle.torn.proofs.Bench.{torn_bench}
use Rattle.torn.proofs.torn_bench_recovers.Goals as goal

pub returns : goal.returns
returns c = torn_bench
