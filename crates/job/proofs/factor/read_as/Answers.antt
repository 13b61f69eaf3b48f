-- `factor::read_as` meets its contract: the reader's, with the refusal named.
use Rattle.std.proofs.Common.{◌≡◌, arith, rules}
use Rattle.refusals.specs.Answer.{naming}
use Rattle.job.proofs.Naming.{named_by}
use Rattle.job.proofs.Factors.{read_named}
use Rattle.job.proofs.factor.read_as.Goals as goal

pub returns : goal.returns
returns c =
    let a = c.args in
    let r = c.read.ensures in
    let n : c.map_err.result ≡ naming a.matrix c.read.result = named_by a.matrix _ (λ r s h. search rules) c.read.result c.map_err.result c.map_err.ensures.cases in
    read_named a.matrix a.s.now (omega arith) (omega arith) c.read.result c.map_err.result a.lowers.now a.uppers.now r.answer n r.below r.above
