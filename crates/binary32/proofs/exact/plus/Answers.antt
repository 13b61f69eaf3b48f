-- `binary32::exact::plus` meets its contract: `ordered` puts the summands in order (`in_order`), which changes no sum (`sum_ordered`).
use Prim.Native.Nat.{◌-◌, ◌^◌}
use Rattle.binary32.proofs.Sums.{in_order, sum_ordered}
use Rattle.binary32.proofs.exact.plus.Goals as goal

pub joined-requires : goal.joined-requires
joined-requires c = in_order c.requires c.ordered.result c.ordered.ensures

pub returns : goal.returns
returns c =
    let s = c.args in
    sum_ordered (2 ^ (149 - s.lift)) s.x s.y c.joined.result c.ordered.result c.ordered.ensures c.joined.ensures
