-- The midpoint and the radius of bounds without a fault: what the operations on patterns give is the pattern of the definition, and it is optimal.
use mathlib.Core.Path.{◌≡◌, sym, ap, ap₂, ◌∙◌, subst₂}
use mathlib.Core.Bool.{true, false, cond}
use mathlib.Core.Option.{some}
use Prim.Native.Nat.{ℕ}
use lib.Dec.{lit<}
use lib.IntN.{ℤ, ◌+ℤ◌, ◌-ℤ◌}
use Rattle.rounding.specs.Format.{binary32}
use Rattle.rounding.specs.Rounding.{up, near}
use Rattle.rounding.proofs.Directed.{up_is}
use Rattle.enclosure.specs.Arithmetic.{of}
use Rattle.enclosure.specs.Conversion.{mid, rad}
use Rattle.enclosure.specs.Optimal.{Optimal}
use Rattle.enclosure.proofs.Conversion.{never_refused, mid_up, rad_lower, rad_upper, conversion_optimal}
use Rattle.binary32.specs.Number.{value_of, finite, Finite, pattern_of, hold_up, hold_near}
use Rattle.binary32.specs.Operations.{sub, midpoint, with₂}
use Rattle.binary32.proofs.Held.{finites_first, finites_second, with_some, is_finite, pattern_finite, pattern_value}
use Rattle.intervals.specs.Conversion.{mid_of, mid_up_of, rad_of}
use Rattle.intervals.proofs.Faults.{Ordered}

module _ (lo hi : ℕ) (o : Ordered lo hi) where
  best : Optimal binary32 (value_of lo) (value_of hi) (mid (of binary32) (value_of lo) (value_of hi)) (rad (of binary32) (value_of lo) (value_of hi))
  best = conversion_optimal binary32 o.low_num o.high_num

  -- ---- the patterns are those of numbers
  pub mid_finite : Finite (mid_of lo hi)
  unfolding mid_of
  mid_finite = pattern_finite best.encloses.mid_number

  pub rad_finite : Finite (rad_of lo hi)
  unfolding rad_of
  rad_finite = pattern_finite best.encloses.rad_number

  pub mid_value : value_of (mid_of lo hi) ≡ mid (of binary32) (value_of lo) (value_of hi)
  unfolding mid_of
  mid_value = pattern_value best.encloses.mid_number

  pub rad_value : value_of (rad_of lo hi) ≡ rad (of binary32) (value_of lo) (value_of hi)
  unfolding rad_of
  rad_value = pattern_value best.encloses.rad_number

  pub optimal_of : Optimal binary32 (value_of lo) (value_of hi) (value_of (mid_of lo hi)) (value_of (rad_of lo hi))
  optimal_of = subst₂ (λ m r. Optimal binary32 (value_of lo) (value_of hi) m r) (sym mid_value) (sym rad_value) best

  -- ---- what the operations give
  pub mid_rounded : hold_near (with₂ (midpoint near) lo hi) ≡ mid_of lo hi
  unfolding mid_of
  mid_rounded = ap hold_near (with_some (midpoint near) lo hi o.both ∙ (never_refused binary32 o.low_num o.high_num).0)

  -- the difference of two numbers, rounded up to the radius
  difference : (p q : ℕ) → finite p ≡ true → finite q ≡ true → up binary32 1 (value_of p -ℤ value_of q) ≡ some (rad (of binary32) (value_of lo) (value_of hi))
      → hold_up (with₂ (sub up) p q) ≡ rad_of lo hi
  unfolding rad_of
  difference p q e f h = ap hold_up (with_some (sub up) p q (ap₂ (λ s t. cond s t false) e f) ∙ h)

  -- the midpoint rounded up
  raised : ℤ
  raised = (mid_up binary32 o.low_num o.high_num).0

  raised_is : up binary32 2 (value_of lo +ℤ value_of hi) ≡ some raised
  unfolding raised
  raised_is = (mid_up binary32 o.low_num o.high_num).1

  raised_of : mid_up_of lo hi ≡ pattern_of raised
  raised_of = ap hold_up (with_some (midpoint up) lo hi o.both ∙ raised_is)

  -- from the lower bound, where the midpoint to nearest is also the one rounded up
  pub rad_from_lower : mid_of lo hi ≡ mid_up_of lo hi → hold_up (with₂ (sub up) (mid_of lo hi) lo) ≡ rad_of lo hi
  rad_from_lower e =
      let same = sym mid_value ∙ ap value_of (e ∙ raised_of) ∙ pattern_value (up_is binary32 2 (lit< tt) raised_is).num in
      difference (mid_of lo hi) lo (is_finite (mid_of lo hi) mid_finite) (finites_first lo hi o.both)
      (ap (λ x. up binary32 1 (x -ℤ value_of lo)) mid_value ∙ rad_lower binary32 o.low_num o.high_num (raised_is ∙ ap some (sym same)))

  -- from the upper bound, where it is not
  pub rad_from_upper : (mid_of lo hi ≡ mid_up_of lo hi → ⊥) → hold_up (with₂ (sub up) hi (mid_of lo hi)) ≡ rad_of lo hi
  unfolding mid_of
  rad_from_upper other =
      difference hi (mid_of lo hi) (finites_second lo hi o.both) (is_finite (mid_of lo hi) mid_finite)
      (ap (λ x. up binary32 1 (value_of hi -ℤ x)) mid_value ∙ rad_upper binary32 o.low_num o.high_num raised_is (λ e. other (ap pattern_of e ∙ sym raised_of)))
