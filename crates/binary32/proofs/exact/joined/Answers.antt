-- `binary32::exact::joined` meets its contract: up to 36 places apart the sum is exact (`same_close`), beyond that the sign of y is enough
-- (`same_apart`).
use mathlib.Core.Path.{◌≡◌, ap, sym, ◌∙◌, subst}
use Prim.Native.Nat.{◌-◌, ◌^◌, ◌≤◌}
use lib.IntN.{ℤ, pos, nat_abs, ◌+ℤ◌, ◌*ℤ◌}
use Rattle.binary32.proofs.Ints.{read}
use Rattle.binary32.proofs.Far.{sgn}
use Rattle.binary32.proofs.Sums.{shifted_sum_read, sgn_read, sgn_short, same_close, same_apart}
use Rattle.binary32.proofs.exact.joined.Goals as goal

-- the sign of the far summand, which stands for it, is short
short : (y z : ℤ) → z ≡ sgn y → nat_abs z ≤ 2 ^ 24
short y z e = subst (λ (t : ℤ). nat_abs t ≤ 2 ^ 24) (sym e) (sgn_short y)

-- not far apart
pub returns-then-d-le-CLOSE : goal.returns-then-d-le-CLOSE
returns-then-d-le-CLOSE c =
    let x = c.args.x in
    let y = c.args.y in
    same_close c.requires _ c.if-d-le-CLOSE.true
    (read c.shifted_sum.result c.shifted_sum.type_inv
    ∙ shifted_sum_read x.sig y.sig c.shifted_sum.result (x.exp - y.exp) c.requires.first.few c.requires.second.few c.shifted_sum.ensures)

-- far apart
pub returns : goal.returns
returns c =
    let x = c.args.x in
    let signed = sgn_read c.args.y.sig c.signum.result c.requires.second.few c.signum.ensures.value in
    same_apart c.requires _ c.if-d-le-CLOSE.false
    (read c.shifted_sum-2.result c.shifted_sum-2.type_inv
    ∙ shifted_sum_read x.sig c.signum.result c.shifted_sum-2.result 36 c.requires.first.few (short c.args.y.sig c.signum.result signed) c.shifted_sum-2.ensures
    ∙ ap (λ (t : ℤ). x.sig *ℤ pos (2 ^ 36) +ℤ t) signed)
