-- `coupling_train` makes a number of a length that fits 32 bits.
use Rattle.job.proofs.Deliveries.{written_small}
use Rattle.coupling.proofs.Calls.{short}
use Rattle.coupling.proofs.coupling_train.Goals as goal

pub length_code-requires : goal.length_code-requires
length_code-requires c = short c.run_train.result c.run_train.ensures.answer (written_small 9 _ _)
