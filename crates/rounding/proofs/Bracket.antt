-- `lo` is the greatest number not above N / D, and `hi` the least not below; they are equal or neighbours. Assumes nothing.
use mathlib.Core.Path.{◌≡◌, refl, ap}
use mathlib.Core.Logic.{◌⊎◌, inl, inr, ⊎_elim}
use Prim.Native.Nat.{ℕ, zero, suc, ◌+◌, ◌*◌, ◌/◌, ◌%◌, ◌^◌, ◌≤◌, ◌<◌}
use native.Mathlib.Omega.{arith}
use native.Mathlib.Nat.{mul-le-mul_left, le_of_mul-le-mul_right, lt_of_mul-lt-mul_right, div-lt_iff_lt-mul, le-div_iff_mul-le}
use native.Mathlib.Nat.{div-add-mod, mod-lt, div-mul-le_self, lt-div-mul-add, mul-pos}
use lib.Pow.{pow_pos}
use Rattle.algebra.proofs.Natural.{≤_total}
use Rattle.rounding.specs.Format.{Format, half, Form}
use Rattle.rounding.specs.Rounding.{ex, step, sticky, ceil, lo, hi}
use Rattle.rounding.proofs.Grid.{scale, on_grid, form_of}

-- ---- a fraction rounded up
pub sticky_pos : (n : ℕ) → 0 < n → sticky n ≡ 1
sticky_pos zero h = absurd (no h)
  where
    no : 0 < 0 → ⊥
    no h = omega arith
sticky_pos (suc n) h = refl

-- one more than the quotient where there is a remainder
pub ceil_split : {G : Type 0} (a b : ℕ) → (a % b ≡ 0 → ceil a b ≡ a / b → G) → (0 < a % b → ceil a b ≡ a / b + 1 → G) → G
unfolding ceil
ceil_split {G} a b = go (a % b) refl
  where
    go : (r : ℕ) → a % b ≡ r → (a % b ≡ 0 → a / b + sticky r ≡ a / b → G) → (0 < a % b → a / b + sticky r ≡ a / b + 1 → G) → G
    go zero e f g = f e (omega arith)
    go (suc r) e f g = g (omega arith) refl

pub ceil_high : (a b : ℕ) → 0 < b → a ≤ ceil a b * b
ceil_high a b h = ceil_split a b
    (λ r e. omega (arith, ap (λ x. x * b) e, div-add-mod a b))
    (λ r e. omega (arith, ap (λ x. x * b) e, div-add-mod a b, mod-lt a h))

pub ceil_low : (a b : ℕ) → 0 < b → ceil a b * b < a + b
ceil_low a b h = ceil_split a b
    (λ r e. omega (arith, ap (λ x. x * b) e, div-add-mod a b))
    (λ r e. omega (arith, ap (λ x. x * b) e, div-add-mod a b))

pub ceil_least : (a b c : ℕ) → 0 < b → a ≤ c * b → ceil a b ≤ c
ceil_least a b c h l = omega (arith, lt_of_mul-lt-mul_right b {m = ceil a b} {n = c + 1} (omega (arith, ceil_low a b h)))

-- ---- the brackets: lo ≤ N / D ≤ hi, each less than a step away
module _ (f : Format) (D N : ℕ) (d : 0 < D) where
  pub step_pos : 0 < step f D N
  step_pos = mul-pos (pow_pos (ex f D N)) d

  pub lo_low : lo f D N * D ≤ N
  unfolding lo
  lo_low = omega (arith, div-mul-le_self N (step f D N))

  pub lo_near : N < lo f D N * D + step f D N
  unfolding lo
  lo_near = omega (arith, lt-div-mul-add {a = N} step_pos)

  pub hi_high : N ≤ hi f D N * D
  unfolding hi
  hi_high = omega (arith, ceil_high N (step f D N) step_pos)

  pub hi_near : hi f D N * D < N + step f D N
  unfolding hi
  hi_near = omega (arith, ceil_low N (step f D N) step_pos)

  -- either there is no remainder and both are N / D, or they are neighbours
  pub lo_hi_split : {G : Type 0} → (lo f D N * D ≡ N → hi f D N ≡ lo f D N → G)
      → (lo f D N * D < N → N < hi f D N * D → hi f D N ≡ lo f D N + 2 ^ ex f D N → G) → G
  unfolding lo hi
  lo_hi_split F G =
      let g : ℕ = step f D N in
      let E : ℕ = 2 ^ ex f D N in
      ceil_split N g
      (λ r e. F (omega (arith, div-add-mod N g)) (ap (λ x. E * x) e))
      (λ r e. G (omega (arith, div-add-mod N g))
      (omega (arith, div-add-mod N g, ap (λ x. E * x * D) e, mod-lt N step_pos)) (omega (arith, ap (λ x. E * x) e)))

  -- ---- their shape: the quotient is a significand
  pub floor_few : N / step f D N < 2 ^ f.prec
  floor_few = (div-lt_iff_lt-mul step_pos).1 (scale f D N d).below

  pub floor_large : (ex f D N ≡ 0) ⊎ (half f ≤ N / step f D N)
  floor_large = ⊎_elim inl (λ h. inr ((le-div_iff_mul-le step_pos).1 h)) (scale f D N d).above

  pub lo_large : (ex f D N ≡ 0) ⊎ (half f * 2 ^ ex f D N ≤ lo f D N)
  unfolding lo
  lo_large = ⊎_elim inl (λ h. inr (omega (arith, mul-le-mul_left (2 ^ ex f D N) h))) floor_large

  pub lo_few : lo f D N + 2 ^ ex f D N ≤ 2 ^ f.prec * 2 ^ ex f D N
  unfolding lo
  lo_few = omega (arith, mul-le-mul_left (2 ^ ex f D N) floor_few)

  pub lo_form : Form f (lo f D N)
  unfolding lo
  lo_form = form_of f (ex f D N) (N / step f D N) (omega (arith, floor_few))

  pub hi_form : Form f (hi f D N)
  unfolding hi
  hi_form = form_of f (ex f D N) (ceil N (step f D N)) (ceil_least N (step f D N) (2 ^ f.prec) step_pos (omega (arith, (scale f D N d).below)))

  -- ---- lo is the greatest below, hi the least above
  pub lo_greatest : {w : ℕ} → Form f w → w * D ≤ N → w ≤ lo f D N
  unfolding lo
  lo_greatest {w} F h =
      let E : ℕ = 2 ^ ex f D N in
      ⊎_elim (λ e. by_multiple (on_grid (ex f D N) F (inl e)))
      (λ l. ⊎_elim (λ s. by_multiple (on_grid (ex f D N) F (inr s)))
      (λ (s : w ≤ half f * E). omega (arith, mul-le-mul_left E ((le-div_iff_mul-le step_pos).1 l)))
      (≤_total (half f * E) w))
      (scale f D N d).above
    where
      by_multiple : (c : ℕ) × (w ≡ c * 2 ^ ex f D N) → w ≤ 2 ^ ex f D N * (N / step f D N)
      by_multiple (c, e) = omega (arith, mul-le-mul_left (2 ^ ex f D N) at_most)
        where
          at_most : c ≤ N / step f D N
          at_most = (le-div_iff_mul-le {x = c} {y = N} step_pos).1 (omega (arith, ap (λ x. x * D) e))

  pub hi_least : {w : ℕ} → Form f w → N ≤ w * D → hi f D N ≤ w
  unfolding hi
  hi_least {w} F h =
      ⊎_elim (λ e. by_multiple (on_grid (ex f D N) F (inl e)))
      (λ l. by_multiple (on_grid (ex f D N) F (inr (le_of_mul-le-mul_right {k = D} (omega arith) d))))
      (scale f D N d).above
    where
      by_multiple : (c : ℕ) × (w ≡ c * 2 ^ ex f D N) → 2 ^ ex f D N * ceil N (step f D N) ≤ w
      by_multiple (c, e) = omega (arith, mul-le-mul_left (2 ^ ex f D N) (ceil_least N (step f D N) c step_pos (omega (arith, ap (λ x. x * D) e))))
