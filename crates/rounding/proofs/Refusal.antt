-- The nearest is above the largest number exactly from half a step above it on. Assumes nothing.
use mathlib.Core.Path.{◌≡◌, sym, ap, ◌∙◌, subst}
use mathlib.Core.Logic.{◌↔◌, ◌⊎◌, inl, inr, ⊎_elim}
use Prim.Native.Nat.{ℕ, suc, ◌+◌, ◌-◌, ◌*◌, ◌/◌, ◌%◌, ◌^◌, ◌≤◌, ◌<◌}
use native.Mathlib.Omega.{arith}
use native.Mathlib.Nat.{le_trans, le_of_eq, not-le_of_lt, eq-or-lt_of_le, mul-le-mul_left, mul-le-mul_right, div-add-mod, mod-lt, pow-succ'}
use lib.Pow.{pow_pos, pow_mono}
use lib.Ieee.Nearest.{closest}
use Rattle.rounding.specs.Format.{Format, half, MAX}
use Rattle.rounding.specs.Rounding.{ex, step, lo, nr}
use Rattle.rounding.proofs.Compare.{cmp_split}
use Rattle.rounding.proofs.Grid.{prec_half, half_pos, scale}
use Rattle.rounding.proofs.Bracket.{step_pos, lo_low, floor_few, lo_large}
use Rattle.rounding.proofs.Closest.{closest_split, lo_nr, nr_few}

-- the largest number, and the next
pub max_is : (f : Format) → MAX f + 2 ^ f.top ≡ 2 * half f * 2 ^ f.top
unfolding MAX
max_is f = pred_mul (2 ^ f.prec) (2 ^ f.top) (pow_pos f.prec) ∙ ap (λ x. x * 2 ^ f.top) (prec_half f)
  where
    pred_mul : (B T : ℕ) → 0 < B → (B - 1) * T + T ≡ B * T
    pred_mul B T h = go (B - 1) (omega arith)
      where
        go : (b : ℕ) → B ≡ b + 1 → b * T + T ≡ B * T
        go b e = omega (arith, ap (λ x. x * T) e)

-- at the largest step the significand c = 2 ^ prec - 1 is odd, so that a tie goes up
module _ (P T D N M c r : ℕ) (m : M + T ≡ 2 * P * T) (n : T * D * c + r ≡ N) where
  last_no : {k : ℕ} → 0 < T * D → suc c ≡ 2 * P → k ≡ c → 2 * r + c % 2 ≤ T * D → (T * k ≤ M) × (2 * N < 2 * (M * D) + T * D)
  last_no {k} t l e h = (omega (arith, ap (λ x. T * x) e, ap (λ x. T * x) l), omega (arith, ap (λ x. x * D) m, ap (λ x. T * D * x) l))

  last_yes : {k : ℕ} → 0 < T → suc c ≡ 2 * P → k ≡ c + 1 → T * D < 2 * r + c % 2 → (M < T * k) × (2 * (M * D) + T * D ≤ 2 * N)
  last_yes {k} t l e h = (omega (arith, ap (λ x. T * x) e, ap (λ x. T * x) l), omega (arith, ap (λ x. x * D) m, ap (λ x. T * D * x) l))

  before : {k : ℕ} → suc c < 2 * P → k ≤ c + 1 → r < T * D → (T * k ≤ M) × (2 * N < 2 * (M * D) + T * D)
  before {k} l e h = (omega (arith, mul-le-mul_left T e, mul-le-mul_left T l), omega (arith, ap (λ x. x * D) m, mul-le-mul_left (T * D) l))

module _ (f : Format) (D N : ℕ) (d : 0 < D) where
  -- ---- where the nearest is above the largest number: from half a step above it on
  Over : ℕ → Type 0
  Over T = (MAX f < nr f D N) × (2 * (MAX f * D) + T * D ≤ 2 * N)

  NotOver : ℕ → Type 0
  NotOver T = (nr f D N ≤ MAX f) × (2 * N < 2 * (MAX f * D) + T * D)

  -- a step above that of the largest
  refuse_far : f.top < ex f D N → Over (2 ^ f.top)
  unfolding Over
  refuse_far h =
      ⊎_elim (λ (e : ex f D N ≡ 0). absurd (no e)) (far (half f) (2 ^ f.top) (2 ^ ex f D N) (max_is f) (pow_pos f.top) twice) (lo_large f D N d)
    where
      no : ex f D N ≡ 0 → ⊥
      no e = omega arith

      twice : 2 * 2 ^ f.top ≤ 2 ^ ex f D N
      twice = le_trans (le_of_eq (sym (pow-succ' 2 f.top))) (pow_mono h)

      far : (P T E : ℕ) → MAX f + T ≡ 2 * P * T → 0 < T → 2 * T ≤ E → P * E ≤ lo f D N → (MAX f < nr f D N) × (2 * (MAX f * D) + T * D ≤ 2 * N)
      far P T E e t h₁ h₂ = (
        omega (arith, lo_nr f D N d, mul-le-mul_left P h₁),
        omega (arith, lo_low f D N d, ap (λ x. x * D) e, mul-le-mul_right D h₂, mul-le-mul_left (P * D) h₁),
      )

  -- a step below it
  refuse_near : ex f D N < f.top → NotOver (2 ^ f.top)
  unfolding NotOver
  refuse_near h =
      low (half f) (2 ^ f.top) (2 ^ ex f D N) (max_is f) (half_pos f) (pow_pos f.top) twice
      (subst (λ x. nr f D N ≤ x * 2 ^ ex f D N) (prec_half f) (nr_few f D N d)) (subst (λ x. N < x * step f D N) (prec_half f) (scale f D N d).below)
    where
      twice : 2 * 2 ^ ex f D N ≤ 2 ^ f.top
      twice = le_trans (le_of_eq (sym (pow-succ' 2 (ex f D N)))) (pow_mono h)

      low : (P T E : ℕ) → MAX f + T ≡ 2 * P * T → 0 < P → 0 < T → 2 * E ≤ T → nr f D N ≤ 2 * P * E → N < 2 * P * (E * D)
          → (nr f D N ≤ MAX f) × (2 * N < 2 * (MAX f * D) + T * D)
      low P T E e p t h₁ h₂ h₃ =
          (omega (arith, mul-le-mul_left P h₁, mul-le-mul_right T p), omega (arith, ap (λ x. x * D) e, mul-le-mul_left (P * D) h₁))

  -- the same step
  refuse_at : ex f D N ≡ f.top → Over (2 ^ f.top) ⊎ NotOver (2 ^ f.top)
  unfolding Over NotOver nr
  refuse_at h = subst (λ t. Over (2 ^ t) ⊎ NotOver (2 ^ t)) h (⊎_elim at_last before_last (eq-or-lt_of_le few))
    where
      g : ℕ
      g = step f D N

      E : ℕ
      E = 2 ^ ex f D N

      max : MAX f + E ≡ 2 * half f * E
      max = subst (λ t. MAX f + 2 ^ t ≡ 2 * half f * 2 ^ t) (sym h) (max_is f)

      few : N / g < 2 * half f
      few = subst (λ x. N / g < x) (prec_half f) (floor_few f D N d)

      at_last : suc (N / g) ≡ 2 * half f → Over E ⊎ NotOver E
      at_last c =
          closest_split N g
          (λ k e. inr (last_no (half f) E D N (MAX f) (N / g) (N % g) max (div-add-mod N g) (step_pos f D N d) c e k))
          (λ k e. inl (last_yes (half f) E D N (MAX f) (N / g) (N % g) max (div-add-mod N g) (pow_pos (ex f D N)) c e k))

      at_most : closest N g ≤ N / g + 1
      at_most = closest_split N g (λ k e. omega arith) (λ k e. omega arith)

      before_last : suc (N / g) < 2 * half f → Over E ⊎ NotOver E
      before_last c = inr (before (half f) E D N (MAX f) (N / g) (N % g) max (div-add-mod N g) c at_most (mod-lt N (step_pos f D N d)))

  over_or_not : Over (2 ^ f.top) ⊎ NotOver (2 ^ f.top)
  over_or_not = cmp_split (ex f D N) f.top (λ h. inr (refuse_near h)) refuse_at (λ h. inl (refuse_far h))

  pub nr_over : (MAX f < nr f D N) ↔ (2 * (MAX f * D) + 2 ^ f.top * D ≤ 2 * N)
  unfolding Over NotOver
  nr_over = (
    ⊎_elim (λ p h. p.1) (λ p h. absurd (not-le_of_lt h p.0)) over_or_not,
    ⊎_elim (λ p h. p.0) (λ p h. absurd (not-le_of_lt p.1 h)) over_or_not,
  )
