-- `products::radius::outer` meets its contract: its loop keeps the radius with the products of the pairs passed, a number.
use mathlib.Core.Bool.{false}
use mathlib.Core.Path.{◌≡◌, sym, ◌∙◌, subst}
use Prim.Native.Nat.{◌+◌}
use native.Mathlib.Omega.{arith}
use lib.IntN.{neg_ℤ}
use Rattle.unpacked.specs.Number.{worth}
use Rattle.products.specs.Centred.{Grown}
use Rattle.products.specs.Terms.{adds_of}
use Rattle.products.specs.Continued.{Line}
use Rattle.products.specs.Line.{line_of}
use Rattle.products.proofs.Continuing.{of_pair, GrowthRuns, growth_start, growth_number, growth_more, growth_skip, growth_none, growth_whole}
use Rattle.products.proofs.radius.outer.Goals.{then-adds+else-is_none, else-adds}
use Rattle.products.proofs.radius.outer.Goals as goal

pub loop-l-init : goal.loop-l-init
loop-l-init c =
    let a = c.args in
    (omega arith, growth_start (line_of a.line) a.radius c.requires.0 c.requires.1)

pub grown-r-requires : goal.grown-r-requires
grown-r-requires c =
    let a = c.args in
    growth_number (line_of a.line) _ _ _ c.loop-l.invariant.1

pub returns-then-is_none : goal.returns-then-is_none
returns-then-is_none c =
    let a = c.args in
    growth_none (line_of a.line) _ c.loop-l.l c.loop-l.r _ c.loop-l-test.true c.loop-l.invariant.1
    (of_pair (λ u w. Grown c.loop-l.r u w c.grown-r.result) c.first-u.ensures c.second-w.ensures c.grown-r.ensures) (sym c.is_none.ensures ∙ c.if-is_none.true)

pub loop-l-preserved : goal.loop-l-preserved
loop-l-preserved c =
    let a = c.args in
    let p : Line = line_of a.line in
    let v = neg_ℤ (worth a.radius) in
    let l = c.loop-l.l in (
      omega arith,
      elim c.if-adds.branch [
        | then-adds+else-is_none w ↦ subst (GrowthRuns p v (l + 1)) (sym w.r-is) (growth_more p v l c.loop-l.r _ c.loop-l.invariant.1 (of_pair (λ u v. Grown c.loop-l.r u v w.grown-r.result) c.first-u.ensures c.second-w.ensures w.grown-r.ensures) (sym w.is_none.ensures ∙ w.if-is_none.false))
        | else-adds w ↦ subst (GrowthRuns p v (l + 1)) (sym w.r-is) (growth_skip p v l c.loop-l.r c.loop-l.invariant.1 (of_pair (λ u v. adds_of u v ≡ false) c.first-u.ensures c.second-w.ensures (sym c.adds.ensures ∙ w.if-adds.false)))
      ],
    )

pub returns : goal.returns
returns c =
    let a = c.args in
    growth_whole (line_of a.line) _ c.loop-l.l c.loop-l.r (omega arith) c.loop-l.invariant.1
