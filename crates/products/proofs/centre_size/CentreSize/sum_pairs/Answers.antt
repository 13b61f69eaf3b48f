-- `CentreSize::sum_pairs` meets its contract: its loop keeps the sums over the pairs passed.
use mathlib.Core.Path.{◌≡◌, sym, subst}
use Prim.Native.Nat.{ℕ, ◌+◌, ◌≤◌}
use native.Mathlib.Omega.{arith}
use Rattle.std.specs.Prelude.{Option as Maybe, Some, None}
use Rattle.binary32.specs.Number.{value_of}
use Rattle.unpacked.specs.declared.Number.{Number}
use Rattle.unpacked.specs.Number.{worth}
use Rattle.products.specs.declared.centre_size.CentreSize.{CentreSize}
use Rattle.products.specs.CentreSize.{Pairs, SizedStep, SizedSum, SizedAll, number, pattern}
use Rattle.products.specs.Paired.{pairs_of}
use Rattle.products.proofs.CentreSizes.{sized_start, sized_more, sized_skip, sized_none, sized_whole}
use Rattle.products.proofs.centre_size.CentreSize.sum_pairs.Goals.{then-x-gt-ZERO_EXPONENT+in_ok-s, else-x-gt-ZERO_EXPONENT}
use Rattle.products.proofs.centre_size.CentreSize.sum_pairs.Goals as goal

-- a step, with the factors of pair l
stepped : (p : Pairs) (l : ℕ) (x : Number) (y : ℕ) (s : CentreSize) (r : Maybe CentreSize) → x ≡ number p l → y ≡ pattern p l → SizedStep s (worth x) (value_of y) r → SizedStep s (worth (number p l)) (value_of (pattern p l)) r
stepped p l x y s r e f A = subst (λ t. SizedStep s (worth (number p l)) (value_of t) r) f (subst (λ (t : Number). SizedStep s (worth t) (value_of y) r) e A)

pub loop-l-init : goal.loop-l-init
loop-l-init c = (omega arith, sized_start (pairs_of c.args.pairs) _)

pub returns-in_err-s : goal.returns-in_err-s
returns-in_err-s c =
    let p = pairs_of c.args.pairs in
    let o = c.loop-l in
    subst (SizedAll p c.args.self) (sym c.from_residual.ensures)
    (sized_none p c.args.self o.l o.s o.invariant.1 c.loop-l-test.true (stepped p o.l _ _ o.s None c.first-x.ensures c.second.ensures c.in_err-s.ensures))

pub loop-l-preserved : goal.loop-l-preserved
loop-l-preserved c =
    let a = c.args in
    let p : Pairs = pairs_of a.pairs in
    let f = a.self in
    let l = c.loop-l.l in (
      omega arith,
      elim c.if-x-gt-ZERO_EXPONENT.branch [
        | then-x-gt-ZERO_EXPONENT+in_ok-s w ↦
            subst (SizedSum p f (l + 1)) (sym w.s-is)
            (sized_more p f l c.loop-l.s c.loop-l.invariant.1 w.in_ok-s.s (stepped p l _ _ c.loop-l.s (Some w.in_ok-s.s) c.first-x.ensures w.second.ensures w.in_ok-s.ensures))
        | else-x-gt-ZERO_EXPONENT w ↦
            subst (SizedSum p f (l + 1)) (sym w.s-is)
            (sized_skip p f l c.loop-l.s c.loop-l.invariant.1 (a.pairs.paired.left l c.loop-l-test.true).1 (subst (λ (x : Number). x.exp ≤ 64) c.first-x.ensures w.if-x-gt-ZERO_EXPONENT.false))
      ],
    )

pub returns : goal.returns
returns c = sized_whole (pairs_of c.args.pairs) c.args.self c.loop-l.l c.loop-l.s (omega arith) c.loop-l.invariant.1
