-- `worn::check_worn`: below 2^127 nothing is refused.
use Rattle.std.proofs.Common.{sym, ap, ◌∙◌, arith}
use Rattle.refusals.specs.Answer.{done, then}
use Rattle.sheets.proofs.Halves.{widened_half}
use Rattle.sheets.proofs.worn.check_worn.Goals as goal

pub returns-then-at_most : goal.returns-then-at_most
returns-then-at_most c =
    let a = c.args in
    let x = c.magnitude.ensures in
    let y = c.magnitude-then-magnitude-lt-HALF.ensures in
    ap (λ v. then v done) (sym (widened_half a.lower a.upper a.amount (omega arith) (omega arith) (omega arith) (sym c.at_most.ensures ∙ c.if-at_most.true)).1)
