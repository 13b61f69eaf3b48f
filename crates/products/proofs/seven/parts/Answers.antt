-- `products::seven::parts` meets its contract: its loop keeps the sums with the parts of the pairs passed.
use mathlib.Core.Bool.{false}
use mathlib.Core.Path.{◌≡◌, sym, ◌∙◌, subst}
use Prim.Native.Nat.{◌+◌}
use native.Mathlib.Omega.{arith}
use lib.Dec.{ltb}
use Rattle.binary32.specs.Order.{magnitude_of}
use Rattle.products.specs.Centred.{Added, shrinkage}
use Rattle.std.specs.Prelude.{Some, None}
use Rattle.products.specs.Continued.{first, second, PartsAdded, PartsSum}
use Rattle.products.specs.Line.{line_of}
use Rattle.products.proofs.Continuing.{of_pair, parts_start, parts_more, parts_skip, parts_none, parts_whole}
use Rattle.products.proofs.seven.parts.Goals.{then-is_nonzero+in_ok-s, else-is_nonzero}
use Rattle.products.proofs.seven.parts.Goals as goal

pub loop-l-init : goal.loop-l-init
loop-l-init c = (omega arith, parts_start (line_of c.args.line) _)

pub returns-in_err-s : goal.returns-in_err-s
returns-in_err-s c =
    let p = line_of c.args.line in
    let f = c.args.sums in
    let o = c.loop-l in
    let A : Added o.s (first p o.l) (second p o.l) (shrinkage (first p o.l) (second p o.l)) None = of_pair (λ x y. Added o.s x y (shrinkage x y) None) c.first-x.ensures c.second.ensures c.in_err-s.ensures in
    subst (PartsAdded p f) (sym c.from_residual.ensures) (parts_none p f o.l o.s o.invariant.1 c.loop-l-test.true A)

-- by a step, or by a part that is zero
pub loop-l-preserved : goal.loop-l-preserved
loop-l-preserved c =
    let p = line_of c.args.line in
    let f = c.args.sums in
    let o = c.loop-l in
    let on : PartsSum p f (o.l + 1) c.if-is_nonzero.s =
    elim c.if-is_nonzero.branch [
      | then-is_nonzero+in_ok-s w ↦
          subst (PartsSum p f (o.l + 1)) (sym w.s-is)
          (parts_more p f o.l o.s o.invariant.1 w.in_ok-s.s (of_pair (λ x y. Added o.s x y (shrinkage x y) (Some w.in_ok-s.s)) c.first-x.ensures w.second.ensures w.in_ok-s.ensures))
      | else-is_nonzero w ↦
          subst (PartsSum p f (o.l + 1)) (sym w.s-is) (parts_skip p f o.l o.s o.invariant.1 (c.requires o.l c.loop-l-test.true) (subst (λ x. ltb 0 (magnitude_of x) ≡ false) c.first-x.ensures (sym c.is_nonzero.ensures ∙ w.if-is_nonzero.false)))
    ] in
    (omega arith, on)

pub returns : goal.returns
returns c = parts_whole (line_of c.args.line) c.args.sums c.loop-l.l c.loop-l.s (omega arith) c.loop-l.invariant.1
