-- `coupling_multiply` makes a number of a length that fits 32 bits.
use Rattle.job.proofs.Deliveries.{written_small}
use Rattle.coupling.proofs.Calls.{short}
use Rattle.coupling.proofs.coupling_multiply.Goals as goal

pub length_code-requires : goal.length_code-requires
length_code-requires c = short c.run.result c.run.ensures.answer (written_small 3 _ _)
