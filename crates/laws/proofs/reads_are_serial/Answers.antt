-- `laws::reads_are_serial` meets its contract, which is the law.
use Rattle.laws.proofs.Serial.{serial_reads}
use Rattle.laws.proofs.reads_are_serial.Goals as goal

pub returns : goal.returns
returns c = serial_reads
