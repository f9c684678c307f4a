-- Demand 3, whole; a saved image reads back.
use Rattle.rules.proofs.Demand3.{demand3, reads_back_all}
use Rattle.rules.proofs.Sim.All.{every}
use Rattle.rules.specs.Claim.{Demand3, ReadsBack}

pub recovery_is_right : Demand3
recovery_is_right = demand3 every

pub image_reads_back : ReadsBack
image_reads_back = reads_back_all every
