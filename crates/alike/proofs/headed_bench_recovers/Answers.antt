-- `alike::headed_bench_recovers` meets its contract, which is the theorem.
use Rattle.alike.proofs.Bench.{headed_bench}
use Rattle.alike.proofs.headed_bench_recovers.Goals as goal

pub returns : goal.returns
returns c = headed_bench
