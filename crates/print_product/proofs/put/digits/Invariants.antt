-- `put::digits`: the digits from i on stand in their places, and `rest` is the number without them.
use Rattle.std.proofs.Common.{◌≡◌, ◌++◌, drop}
use Rattle.print_product.specs.Digits.{digits}
use Rattle.print_product.proofs.put.digits.Given as goal

abbrev pub invariant-loop-i : goal.invariant-loop-i
invariant-loop-i l = digits l.base l.count l.n ++ drop l.count l.initial.out ≡ digits l.base l.i l.rest ++ drop l.i l.out
