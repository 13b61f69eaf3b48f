-- `put::digits`: a digit is put in on the left of the others.
use Rattle.std.proofs.Common.{◌++◌, ◌-◌, ◌/◌, drop, set, length-set, ap, sym, ◌∙◌, arith}
use Rattle.print_product.specs.Digits.{digits}
use Rattle.print_product.proofs.DigitLaws.{digits_more, digits_end}
use Rattle.print_product.proofs.put.digits.Goals as goal

pub loop-i-preserved : goal.loop-i-preserved
loop-i-preserved c =
    let h = c.loop-i in
    let b = c.args.base in
    h.invariant ∙ digits_more b h.rest h.i (h.i - 1) h.out (omega arith) (omega (arith, length-set c.args.out.now c.args.count c.args.end)) ∙ ap (λ v. digits b (h.i - 1) (h.rest / b) ++ drop (h.i - 1) (set h.out (h.i - 1) v)) (sym c.digit.ensures)

pub returns : goal.returns
returns c = digits_end c.args.base c.args.count c.args.n c.args.end c.loop-i.rest c.loop-i.i c.args.out.now c.loop-i.out (omega arith) (omega arith) c.loop-i.invariant
