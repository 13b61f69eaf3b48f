-- The roundings of n * 2 ^ e / 2 ^ K in any format, as the patterns of the quotient n / 2 ^ t rounded down, up and to the nearest, with j
-- as the exponent field; and how many digits these quotients have. Assumes nothing.
use mathlib.Core.Path.{◌≡◌, sym, ap, ap₂, ◌∙◌, subst}
use mathlib.Core.Bool.{cond}
use mathlib.Core.Logic.{◌⊎◌, inl, inr, ⊎_elim}
use mathlib.Core.Option.{Option, none, some}
use Prim.Native.Nat.{ℕ, ◌+◌, ◌-◌, ◌*◌, ◌/◌, ◌^◌, ◌≤◌, ◌<◌, min}
use native.Mathlib.Omega.{arith}
use lib.Pow.{pow_pos, pow-add}
use lib.Dec.{ltb}
use lib.IntN.{ℤ, pos, neg_ℤ}
use lib.Ieee.{size}
use lib.Ieee.Nearest.{closest, closest_same, div_same}
use Rattle.rounding.specs.Format.{Format, half}
use Rattle.rounding.specs.Rounding.{ex, step, ceil, up, near}
use Rattle.rounding.specs.Pattern.{val, limit}
use Rattle.rounding.proofs.Bracket.{ceil_split, step_pos, floor_few, floor_large}
use Rattle.rounding.proofs.Closest.{closest_split}
use Rattle.rounding.proofs.PatternRounding.{up_pattern, up_pattern_neg, near_pattern}
use Rattle.rounding.proofs.Shift.{size_shl, ex_shr, ceil_same}

module _ (f : Format) (K e t j n : ℕ) (h : 0 < n) (ej : size n + e - K - f.prec ≡ j) (et : t + e ≡ j + K) where
  ex_is : ex f (2 ^ K) (n * 2 ^ e) ≡ j
  ex_is = ex_shr f (n * 2 ^ e) K ∙ ap (λ x. x - K - f.prec) (size_shl n e h) ∙ ej

  step_is : step f (2 ^ K) (n * 2 ^ e) ≡ 2 ^ t * 2 ^ e
  step_is = ap (λ x. 2 ^ x * 2 ^ K) ex_is ∙ sym (pow-add 2 j K) ∙ ap (λ x. 2 ^ x) (sym et) ∙ pow-add 2 t e

  cross : n * 2 ^ e * 2 ^ t ≡ n * step f (2 ^ K) (n * 2 ^ e)
  cross = swap ∙ sym (ap (λ x. n * x) step_is)
    where
      swap : n * 2 ^ e * 2 ^ t ≡ n * (2 ^ t * 2 ^ e)
      swap = omega arith

  step_some : 0 < step f (2 ^ K) (n * 2 ^ e)
  step_some = step_pos f (2 ^ K) (n * 2 ^ e) (pow_pos K)

  div_is : n * 2 ^ e / step f (2 ^ K) (n * 2 ^ e) ≡ n / 2 ^ t
  div_is = div_same (n * 2 ^ e) (step f (2 ^ K) (n * 2 ^ e)) n (2 ^ t) step_some (pow_pos t) cross

  ceil_is : ceil (n * 2 ^ e) (step f (2 ^ K) (n * 2 ^ e)) ≡ ceil n (2 ^ t)
  ceil_is = ceil_same (n * 2 ^ e) (step f (2 ^ K) (n * 2 ^ e)) n (2 ^ t) step_some (pow_pos t) cross

  closest_is : closest (n * 2 ^ e) (step f (2 ^ K) (n * 2 ^ e)) ≡ closest n (2 ^ t)
  closest_is = closest_same (n * 2 ^ e) (step f (2 ^ K) (n * 2 ^ e)) n (2 ^ t) step_some (pow_pos t) cross

  -- ---- the roundings: the number with pattern q, if there is one
  abbrev at : ℕ → Option ℤ
  at q = cond (ltb q (limit f)) (some (pos (val f q))) none

  pub up_above : up f (2 ^ K) (pos (n * 2 ^ e)) ≡ at (j * half f + ceil n (2 ^ t))
  up_above = up_pattern f (2 ^ K) (n * 2 ^ e) (pow_pos K) ∙ ap at (ap₂ (λ x y. x * half f + y) ex_is ceil_is)

  pub up_below : up f (2 ^ K) (neg_ℤ (pos (n * 2 ^ e))) ≡ some (neg_ℤ (pos (val f (min (j * half f + n / 2 ^ t) (limit f - 1)))))
  up_below =
      up_pattern_neg f (2 ^ K) (n * 2 ^ e) (pow_pos K)
      ∙ ap (λ q. some (neg_ℤ (pos (val f (min q (limit f - 1)))))) (ap₂ (λ x y. x * half f + y) ex_is div_is)

  pub near_above : near f (2 ^ K) (pos (n * 2 ^ e)) ≡ at (j * half f + closest n (2 ^ t))
  near_above = near_pattern f (2 ^ K) (n * 2 ^ e) (pow_pos K) ∙ ap at (ap₂ (λ x y. x * half f + y) ex_is closest_is)

  -- ---- the significands: all digits of the precision where j is not 0, and no more
  pub floor_short : n / 2 ^ t < 2 ^ f.prec
  floor_short = subst (λ x. x < 2 ^ f.prec) div_is (floor_few f (2 ^ K) (n * 2 ^ e) (pow_pos K))

  pub ceil_short : ceil n (2 ^ t) ≤ 2 ^ f.prec
  ceil_short = ceil_split n (2 ^ t) (λ r e. omega (arith, floor_short)) (λ r e. omega (arith, floor_short))

  pub closest_short : closest n (2 ^ t) ≤ 2 ^ f.prec
  closest_short = closest_split n (2 ^ t) (λ r e. omega (arith, floor_short)) (λ r e. omega (arith, floor_short))

  pub floor_long : (j ≡ 0) ⊎ (half f ≤ n / 2 ^ t)
  floor_long = ⊎_elim (λ z. inl (sym ex_is ∙ z)) (λ l. inr (subst (λ x. half f ≤ x) div_is l)) (floor_large f (2 ^ K) (n * 2 ^ e) (pow_pos K))

  pub ceil_long : (j ≡ 0) ⊎ (half f ≤ ceil n (2 ^ t))
  ceil_long = ⊎_elim inl (λ l. inr (ceil_split n (2 ^ t) (λ r e. omega arith) (λ r e. omega arith))) floor_long

  pub closest_long : (j ≡ 0) ⊎ (half f ≤ closest n (2 ^ t))
  closest_long = ⊎_elim inl (λ l. inr (closest_split n (2 ^ t) (λ r e. omega arith) (λ r e. omega arith))) floor_long
