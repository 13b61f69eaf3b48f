-- The patterns of roundings, as a machine computes and tests them: no significand is normalised afterwards. Assumes nothing.
use mathlib.Core.Path.{◌≡◌, sym, ap, ◌∙◌}
use mathlib.Core.Bool.{cond}
use mathlib.Core.Logic.{inl, inr, ⊎_elim}
use mathlib.Core.Option.{none, some}
use Prim.Native.Nat.{ℕ, ◌+◌, ◌-◌, ◌*◌, ◌/◌, ◌^◌, ◌≤◌, ◌<◌, min}
use native.Mathlib.Omega.{arith}
use native.Mathlib.Nat.{mul_comm}
use lib.Dec.{leb, ltb}
use lib.IntN.{pos, neg_ℤ}
use lib.Ieee.Nearest.{closest}
use Rattle.rounding.specs.Format.{Format, half, MAX}
use Rattle.rounding.specs.Rounding.{ex, step, ceil, lo, hi, nr, up, near}
use Rattle.rounding.specs.Pattern.{val, limit}
use Rattle.rounding.proofs.Grid.{scale}
use Rattle.rounding.proofs.Bracket.{ceil_split, ceil_least, step_pos, floor_few, floor_large}
use Rattle.rounding.proofs.DirectedLaws.{up_of_pos, up_of_neg}
use Rattle.rounding.proofs.Closest.{closest_split}
use Rattle.rounding.proofs.Pattern.{val_pattern, val_min, fits_same}

module _ (f : Format) (D N : ℕ) (d : 0 < D) where
  -- ---- the values at the patterns

  -- any c from the quotient on, up to 2 ^ prec
  val_at_step : (c : ℕ) → c ≤ 2 ^ f.prec → N / step f D N ≤ c → val f (ex f D N * half f + c) ≡ 2 ^ ex f D N * c
  val_at_step c few l =
      val_pattern f (ex f D N) c few (⊎_elim inl (λ h. inr (omega (arith, h, l))) (floor_large f D N d)) ∙ mul_comm c (2 ^ ex f D N)

  pub val_lo : val f (ex f D N * half f + N / step f D N) ≡ lo f D N
  unfolding lo
  val_lo = val_at_step (N / step f D N) (omega (arith, floor_few f D N d)) (omega arith)

  pub val_hi : val f (ex f D N * half f + ceil N (step f D N)) ≡ hi f D N
  unfolding hi
  val_hi = val_at_step (ceil N (step f D N))
      (ceil_least N (step f D N) (2 ^ f.prec) (step_pos f D N d) (omega (arith, (scale f D N d).below)))
      (ceil_split N (step f D N) (λ r e. omega arith) (λ r e. omega arith))

  pub val_nr : val f (ex f D N * half f + closest N (step f D N)) ≡ nr f D N
  unfolding nr
  val_nr = val_at_step (closest N (step f D N))
      (closest_split N (step f D N) (λ r e. omega (arith, floor_few f D N d)) (λ r e. omega (arith, floor_few f D N d)))
      (closest_split N (step f D N) (λ r e. omega arith) (λ r e. omega arith))

  -- ---- the roundings, with one test of the pattern
  pub up_pattern : let n = ex f D N * half f + ceil N (step f D N) in up f D (pos N) ≡ cond (ltb n (limit f)) (some (pos (val f n))) none
  up_pattern =
      let n : ℕ = ex f D N * half f + ceil N (step f D N) in
      up_of_pos f D d N ∙ ap (λ x. cond (leb x (MAX f)) (some (pos x)) none) (sym val_hi) ∙ ap (λ t. cond t (some (pos (val f n))) none) (fits_same f n)

  pub up_pattern_neg : let n = ex f D N * half f + N / step f D N in up f D (neg_ℤ (pos N)) ≡ some (neg_ℤ (pos (val f (min n (limit f - 1)))))
  up_pattern_neg =
      let n : ℕ = ex f D N * half f + N / step f D N in
      up_of_neg f D d N ∙ ap (λ x. some (neg_ℤ (pos x))) (ap (λ x. min x (MAX f)) (sym val_lo) ∙ val_min f n)

  pub near_pattern : let n = ex f D N * half f + closest N (step f D N) in near f D (pos N) ≡ cond (ltb n (limit f)) (some (pos (val f n))) none
  unfolding near
  near_pattern =
      let n : ℕ = ex f D N * half f + closest N (step f D N) in
      ap (λ x. cond (leb x (MAX f)) (some (pos x)) none) (sym val_nr) ∙ ap (λ t. cond t (some (pos (val f n))) none) (fits_same f n)
