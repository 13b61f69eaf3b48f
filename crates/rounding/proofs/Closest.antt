-- `nr` is as near to N / D as any number: it is `lo` or the next multiple of 2 ^ ex, and at most half a step off. Assumes nothing.
use mathlib.Core.Path.{◌≡◌, refl, sym, ap, ◌∙◌, subst}
use mathlib.Core.Logic.{◌⊎◌, inl, inr, ⊎_elim}
use Prim.Native.Nat.{ℕ, ◌+◌, ◌-◌, ◌*◌, ◌/◌, ◌%◌, ◌^◌, ◌≤◌, ◌<◌, compare, Ordering}
use native.Mathlib.Omega.{arith}
use native.Mathlib.Nat.{le_trans, mul-le-mul_right, div-add-mod, mul-pos, mul-div-mul_left}
use lib.Pow.{pow_pos}
use lib.Ieee.{nearest}
use lib.Ieee.Nearest.{closest, closest_same}
use Rattle.algebra.proofs.Natural.{≤_total}
use Rattle.rounding.specs.Format.{Format, half, Form, expo}
use Rattle.rounding.specs.Rounding.{ex, step, lo, hi, nr}
use Rattle.rounding.proofs.Compare.{Cmp, cmp, cmp_split}
use Rattle.rounding.proofs.Bracket.{step_pos, lo_low, lo_near, lo_hi_split, lo_few, lo_large, lo_form, hi_form, lo_greatest, hi_least}

-- the distance of two naturals
abbrev pub gap : ℕ → ℕ → ℕ
gap a b = (a - b) + (b - a)

-- a / b to the nearest whole number: with the quotient q and the remainder r, one more than q where b < 2 * r, or b = 2 * r and q is odd
pub closest_split : {G : Type 0} (a b : ℕ) → (2 * (a % b) + a / b % 2 ≤ b → closest a b ≡ a / b → G)
    → (b < 2 * (a % b) + a / b % 2 → closest a b ≡ a / b + 1 → G) → G
closest_split {G} a b F H = go (compare (a % b * 2) b) (cmp (a % b * 2) b) F H
  where
    go : (o : Ordering) → Cmp o (a % b * 2) b → (2 * (a % b) + a / b % 2 ≤ b → nearest (a / b) o ≡ a / b → G)
        → (b < 2 * (a % b) + a / b % 2 → nearest (a / b) o ≡ a / b + 1 → G) → G
    go Ordering.lt c F H = F (omega arith) refl
    go Ordering.gt c F H = H (omega arith) (omega arith)
    go Ordering.eq c F H = parity (λ (e : a / b % 2 ≤ 0). F (omega arith) (omega arith)) (λ (e : 1 ≤ a / b % 2). H (omega arith) (omega arith))
      where
        parity : (a / b % 2 ≤ 0 → G) → (1 ≤ a / b % 2 → G) → G
        parity even odd = cmp_split (a / b % 2) 1 (λ l. even (omega arith)) (λ e. odd (omega arith)) (λ l. odd (omega arith))

module _ (f : Format) (D N : ℕ) (d : 0 < D) where
  -- nr is lo, or the next multiple where the remainder is above half a step, or is half a step and the quotient odd
  pub nr_cases : {G : Type 0} → (nr f D N ≡ lo f D N → 2 * N + N / step f D N % 2 ≤ 2 * (lo f D N * D) + step f D N → G)
      → (nr f D N ≡ lo f D N + 2 ^ ex f D N → 2 * (lo f D N * D) + step f D N < 2 * N + N / step f D N % 2 → G) → G
  unfolding nr lo
  nr_cases F H =
      let g : ℕ = step f D N in
      let E : ℕ = 2 ^ ex f D N in
      closest_split N g
      (λ h e. F (ap (λ x. E * x) e) (omega (arith, div-add-mod N g)))
      (λ h e. H (omega (arith, ap (λ x. E * x) e)) (omega (arith, div-add-mod N g)))

  -- the same without the parity: the error is the remainder, or what the remainder lacks of a step
  pub nr_split : {G : Type 0} → (nr f D N ≡ lo f D N → 2 * N ≤ 2 * (lo f D N * D) + step f D N → G)
      → (nr f D N ≡ lo f D N + 2 ^ ex f D N → 2 * (lo f D N * D) + step f D N ≤ 2 * N → lo f D N * D < N → G) → G
  nr_split F H = nr_cases (λ e h. F e (omega arith)) (λ e h. H e (omega (arith, step_pos f D N d)) (omega (arith, step_pos f D N d)))

  pub lo_nr : lo f D N ≤ nr f D N
  lo_nr = nr_split (λ e h. omega arith) (λ e h l. omega arith)

  pub nr_hi : nr f D N ≤ hi f D N
  nr_hi = nr_split
      (λ e h. lo_hi_split f D N d (λ x y. omega arith) (λ x y z. omega arith))
      (λ e h l. lo_hi_split f D N d (λ x y. omega arith) (λ x y z. omega arith))

  -- its significand has all digits, or the step is a unit
  pub nr_few : nr f D N ≤ 2 ^ f.prec * 2 ^ ex f D N
  nr_few = nr_split (λ x y. omega (arith, lo_few f D N d)) (λ x y z. omega (arith, lo_few f D N d))

  pub nr_large : (ex f D N ≡ 0) ⊎ (half f * 2 ^ ex f D N ≤ nr f D N)
  nr_large = ⊎_elim inl (λ l. inr (le_trans l lo_nr)) (lo_large f D N d)

  not_both : lo f D N * D ≡ N → lo f D N * D < N → ⊥
  not_both x y = omega arith

  pub nr_form : Form f (nr f D N)
  nr_form = nr_split
      (λ e h. subst (Form f) (sym e) (lo_form f D N d))
      (λ e h l. lo_hi_split f D N d (λ x y. absurd (not_both x l)) (λ x y z. subst (Form f) (z ∙ sym e) (hi_form f D N d)))

  -- at most half a step off
  pub nr_half : 2 * gap (nr f D N * D) N ≤ step f D N
  nr_half = nr_split
      (λ e h. omega (arith, ap (λ x. x * D) e, lo_low f D N d))
      (λ e h l. omega (arith, ap (λ x. x * D) e, lo_near f D N d))

  -- no number is nearer
  pub nr_closest : {w : ℕ} → Form f w → gap (nr f D N * D) N ≤ gap (w * D) N
  nr_closest {w} F = ⊎_elim under over (≤_total (w * D) N)
    where
      under : w * D ≤ N → gap (nr f D N * D) N ≤ gap (w * D) N
      under h =
          let k : w * D ≤ lo f D N * D = mul-le-mul_right D (lo_greatest f D N d F h) in
          nr_split
          (λ e h. omega (arith, ap (λ x. x * D) e, lo_low f D N d))
          (λ e h l. omega (arith, ap (λ x. x * D) e, lo_near f D N d))

      over : N ≤ w * D → gap (nr f D N * D) N ≤ gap (w * D) N
      over h =
          let k : hi f D N * D ≤ w * D = mul-le-mul_right D (hi_least f D N d F h) in
          lo_hi_split f D N d
          (λ x y. nr_split (λ e h. omega (arith, ap (λ x. x * D) e)) (λ e h l. omega arith))
          (λ x y z. nr_split
          (λ e h. omega (arith, ap (λ x. x * D) e, ap (λ x. x * D) z))
          (λ e h l. omega (arith, ap (λ x. x * D) e, ap (λ x. x * D) z)))

-- ---- scaling: a common factor of N and D does not matter
pub nr_scale : (f : Format) (c D N : ℕ) → 0 < c → 0 < D → nr f (c * D) (c * N) ≡ nr f D N
unfolding nr
nr_scale f c D N c₀ d =
    let E : ℕ = 2 ^ ex f D N in
    let same : ex f (c * D) (c * N) ≡ ex f D N = ap (expo f) (mul-div-mul_left N D c₀) in
    let large : 0 < E * (c * D) = mul-pos (pow_pos (ex f D N)) (mul-pos c₀ d) in
    ap (λ i. 2 ^ i * closest (c * N) (2 ^ i * (c * D))) same
    ∙ ap (λ y. E * y) (closest_same (c * N) (E * (c * D)) N (step f D N) large (step_pos f D N d) (omega arith))
