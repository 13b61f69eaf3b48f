-- What the code of `add` and `add_negative` found, down and to nearest, with the summands put in order.
use mathlib.Core.Path.{◌≡◌, refl, sym, subst}
use mathlib.Core.Bool.{Bool, true, false}
use Prim.Native.Nat.{◌^◌, ◌≤◌}
use lib.Dec.{ltb}
use lib.IntN.{nat_abs, ◌+ℤ◌}
use Rattle.unpacked.specs.declared.Number.{Number}
use Rattle.unpacked.specs.declared.Aligned.{Aligned}
use Rattle.unpacked.specs.Number.{worth, Below}
use Rattle.unpacked.specs.Cuts.{Summands, DownOf, SumDown, NearOf, SumNear, choose, earlier, later, AlignedIs, CutDown, Filled, CutNegative, CutNear}
use Rattle.unpacked.proofs.Ordering.{Ordered, ordered, sum_ordered}
use Rattle.unpacked.proofs.Worths.{exp_low}
use Rattle.unpacked.proofs.Adding.{w_short, sum_down}
use Rattle.unpacked.proofs.Negatives.{filled, negative_sum}
use Rattle.unpacked.proofs.NearSum.{sum_near}

module _ {x y : Number} (s : Summands x y) where
  abbrev u : Number
  u = earlier x y

  abbrev v : Number
  v = later x y

  in_order : Ordered u v
  in_order = ordered s u v refl refl

  same : worth u +ℤ worth v ≡ worth x +ℤ worth y
  same = sum_ordered x y u v refl refl

  turned : (r : Number) → SumDown u v r → SumDown x y r
  turned r = subst (λ t. DownOf t r) same

  module _ (a : Aligned) (h : AlignedIs x y a) where
    pub aligned_form : (nat_abs a.w ≤ 2 ^ 61) × (64 ≤ a.exp) × (a.exp ≤ 4000)
    aligned_form =
        let o = in_order.both in (
          subst (λ t. nat_abs t ≤ 2 ^ 61) (sym h.sums) (w_short u v o.first o.second in_order.order),
          subst (λ e. 64 ≤ e) (sym h.exps) (exp_low u o.first),
          subst (λ e. e ≤ 4000) (sym h.exps) o.first_high,
        )

    pub sum_found : (r : Number) → CutDown a.w a.exp r → SumDown x y r
    sum_found r c =
        let o = in_order.both in
        turned r (sum_down u v o.first o.second in_order.order r (subst (λ t. CutDown t u.exp r) h.sums (subst (λ e. CutDown a.w e r) h.exps c)) o.first_high)

    pub near_sum_found : (r : Number) → CutNear a.w a.exp r → SumNear x y r
    near_sum_found r c =
        let o = in_order.both in
        subst (λ t. NearOf t r) same
        (sum_near u v o.first o.second in_order.order r (subst (λ t. CutNear t u.exp r) h.sums (subst (λ e. CutNear a.w e r) h.exps c)) o.first_high)

    -- where neither is above zero
    module _ (bx : Below x) (by : Below y) where
      below : Below u × Below v
      unfolding earlier later
      below = go (ltb x.exp y.exp)
        where
          go : (t : Bool) → Below (choose t x y) × Below (choose t y x)
          go true = (by, bx)
          go false = (bx, by)

      pub negative_form : Filled a.w a.exp
      negative_form =
          let o = in_order.both in
          subst (Filled a.w) (sym h.exps) (subst (λ t. Filled t u.exp) (sym h.sums) (filled u v o.first o.second in_order.order below.0 below.1))

      pub negative_found : (r : Number) → CutNegative a.w a.exp r → SumDown x y r
      negative_found r c =
          let o = in_order.both in
          turned r (negative_sum u v o.first o.second in_order.order below.0 below.1 r o.first_high (subst (λ t. CutNegative t u.exp r) h.sums (subst (λ e. CutNegative a.w e r) h.exps c)))
