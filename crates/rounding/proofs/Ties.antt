-- Ties: a number other than `nr` that is as near to N / D is the neighbour on the other side, and of the two only `nr` is an even multiple
-- of its own spacing. Assumes nothing.
use mathlib.Core.Path.{◌≡◌, sym, ap, ap₂, ◌∙◌}
use mathlib.Core.Logic.{◌⊎◌, inl, inr, ⊎_elim}
use Prim.Native.Nat.{ℕ, zero, suc, ◌+◌, ◌-◌, ◌*◌, ◌/◌, ◌%◌, ◌^◌, ◌≤◌, ◌<◌}
use native.Mathlib.Omega.{arith}
use native.Mathlib.Nat.{le_trans, le_of_eq, eq-or-lt_of_le, mul_comm, mul-le-mul_right, eq_of_mul-eq-mul_left, pow-succ'}
use lib.Pow.{pow_pos}
use lib.IntN.{pos}
use Rattle.algebra.proofs.Natural.{≤_total}
use Rattle.rounding.specs.Format.{Format, half, Form, expo}
use Rattle.rounding.specs.Rounding.{ex, step, lo, hi, nr}
use Rattle.rounding.specs.Property.{EvenFraction}
use Rattle.rounding.proofs.Grid.{prec_half, half_pos, half_even, expo_only}
use Rattle.rounding.proofs.Bracket.{lo_low, lo_near, lo_hi_split, lo_few, lo_large, lo_greatest, hi_least}
use Rattle.rounding.proofs.Closest.{gap, nr_cases, nr_split, nr_few, nr_large, nr_form}

-- ---- even and odd multiples of 2 ^ j

odd_even : (E a b : ℕ) → 0 < E → E * (2 * a + 1) ≡ E * (2 * b) → ⊥
odd_even E a b h e = no (eq_of_mul-eq-mul_left E h (2 * a + 1) (2 * b) e)
  where
    no : 2 * a + 1 ≡ 2 * b → ⊥
    no e = omega arith

module _ (f : Format) (v j : ℕ) (few : v ≤ 2 ^ f.prec * 2 ^ j) (large : (j ≡ 0) ⊎ (half f * 2 ^ j ≤ v)) where
  -- an even multiple of 2 ^ j is one of its own spacing: that is 2 ^ j, or twice that where v is the next power of two
  pub even_own : (m : ℕ) → v ≡ 2 ^ j * (2 * m) → EvenFraction f (pos v)
  even_own m e = ⊎_elim at_power below_power (eq-or-lt_of_le few)
    where
      below_power : v < 2 ^ f.prec * 2 ^ j → EvenFraction f (pos v)
      below_power l = (m, e ∙ ap (λ i. 2 ^ i * (2 * m)) (sym (expo_only f v j l large)))

      at_power : v ≡ 2 ^ f.prec * 2 ^ j → EvenFraction f (pos v)
      at_power q = (2 ^ (f.prec - 2), v_is ∙ mul_comm (half f) (2 ^ suc j) ∙ ap₂ (λ i h. 2 ^ i * h) (sym next) (half_even f))
        where
          v_is : v ≡ half f * 2 ^ suc j
          v_is = omega (arith, q, ap (λ x. x * 2 ^ j) (prec_half f), ap (λ x. half f * x) (pow-succ' 2 j))

          less : v < 2 ^ f.prec * 2 ^ suc j
          less = omega (arith, v_is, ap (λ x. x * 2 ^ suc j) (prec_half f), mul-le-mul_right (2 ^ suc j) (half_pos f), pow_pos (suc j))

          next : expo f v ≡ suc j
          next = expo_only f v (suc j) less (inr (le_of_eq (sym v_is)))

  -- an odd multiple of 2 ^ j has the spacing 2 ^ j, so it is no even multiple of that
  pub odd_own : (m : ℕ) → v ≡ 2 ^ j * (2 * m + 1) → EvenFraction f (pos v) → ⊥
  odd_own m e (k, own) = ⊎_elim at_power below_power (eq-or-lt_of_le few)
    where
      at_power : v ≡ 2 ^ f.prec * 2 ^ j → ⊥
      at_power q = odd_even (2 ^ j) m (half f) (pow_pos j) (omega (arith, e, q, ap (λ x. x * 2 ^ j) (prec_half f)))

      below_power : v < 2 ^ f.prec * 2 ^ j → ⊥
      below_power l = odd_even (2 ^ j) m k (pow_pos j) (sym e ∙ own ∙ ap (λ i. 2 ^ i * (2 * k)) (expo_only f v j l large))

module _ (f : Format) (D N : ℕ) (d : 0 < D) where
  -- ---- by the rule: half a step off, nr is an even multiple of 2 ^ ex
  pub nr_tie : 2 * gap (nr f D N * D) N ≡ step f D N → (m : ℕ) × (nr f D N ≡ 2 ^ ex f D N * (2 * m))
  unfolding lo
  nr_tie t =
      nr_cases f D N d
      (λ e h. (q / 2, e ∙ ap (λ x. 2 ^ ex f D N * x) (at_lo e h)))
      (λ e h. ((q + 1) / 2, e ∙ mul_succ (2 ^ ex f D N) q ∙ ap (λ x. 2 ^ ex f D N * x) (after_lo e h)))
    where
      q : ℕ
      q = N / step f D N

      mul_succ : (E q : ℕ) → E * q + E ≡ E * (q + 1)
      mul_succ E q = omega arith

      at_lo : nr f D N ≡ lo f D N → 2 * N + q % 2 ≤ 2 * (lo f D N * D) + step f D N → q ≡ 2 * (q / 2)
      at_lo e h = omega (arith, t, ap (λ x. x * D) e, lo_low f D N d)

      after_lo : nr f D N ≡ lo f D N + 2 ^ ex f D N → 2 * (lo f D N * D) + step f D N < 2 * N + q % 2 → q + 1 ≡ 2 * ((q + 1) / 2)
      after_lo e h = omega (arith, t, ap (λ x. x * D) e, lo_near f D N d)

  -- w is the neighbour of nr: one of them is lo, the other lo + 2 ^ ex
  abbrev pub Beside : ℕ → Type 0
  Beside w = ((w ≡ lo f D N) × (nr f D N ≡ w + 2 ^ ex f D N)) ⊎ ((nr f D N ≡ lo f D N) × (w ≡ nr f D N + 2 ^ ex f D N))

  -- a number that is as near as nr is nr, or its neighbour with both half a step off
  pub nr_rival : {G : Type 0} (w : ℕ) → Form f w → gap (w * D) N ≤ gap (nr f D N * D) N → (w ≡ nr f D N → G)
      → (2 * gap (w * D) N ≡ step f D N → 2 * gap (nr f D N * D) N ≡ step f D N → Beside w → G) → G
  nr_rival {G} w F c same tie = ⊎_elim under over (≤_total (w * D) N)
    where
      cancel : {a b : ℕ} → a * D ≡ b * D → a ≡ b
      cancel {a} {b} e = eq_of_mul-eq-mul_left D d a b (mul_comm D a ∙ e ∙ mul_comm b D)

      next_step : (lo f D N + 2 ^ ex f D N) * D ≡ lo f D N * D + step f D N
      next_step = omega arith

      under : w * D ≤ N → G
      under h =
          let k : w * D ≤ lo f D N * D = mul-le-mul_right D (lo_greatest f D N d F h) in
          nr_split f D N d
          (λ e l. same (cancel (omega (arith, ap (λ x. x * D) e, lo_low f D N d))))
          (λ e l s.
          let g : nr f D N * D ≡ lo f D N * D + step f D N = ap (λ x. x * D) e ∙ next_step in
          let q : w ≡ lo f D N = cancel (omega (arith, lo_low f D N d, lo_near f D N d)) in
          let t : 2 * gap (w * D) N ≡ step f D N = omega (arith, lo_low f D N d, lo_near f D N d) in
          tie t (omega (arith, lo_low f D N d, lo_near f D N d)) (inl (q, e ∙ ap (λ x. x + 2 ^ ex f D N) (sym q))))

      over : N ≤ w * D → G
      over h =
          let k : hi f D N * D ≤ w * D = mul-le-mul_right D (hi_least f D N d F h) in
          lo_hi_split f D N d
          (λ x y. nr_split f D N d (λ e l. same (cancel (omega (arith, ap (λ x. x * D) e)))) (λ e l s. absurd (not_both x s)))
          (λ x y z.
          let g : hi f D N * D ≡ lo f D N * D + step f D N = ap (λ x. x * D) z ∙ next_step in
          nr_split f D N d
          (λ e l.
          let scaled : nr f D N * D ≡ lo f D N * D = ap (λ x. x * D) e in
          let q : w ≡ hi f D N = cancel (omega arith) in
          tie (omega arith) (omega arith) (inr (e, q ∙ z ∙ ap (λ x. x + 2 ^ ex f D N) (sym e))))
          (λ e l s.
          let scaled : nr f D N * D ≡ hi f D N * D = ap (λ x. x * D) (e ∙ sym z) in
          same (cancel (omega arith))))
        where
          not_both : lo f D N * D ≡ N → lo f D N * D < N → ⊥
          not_both x y = omega arith

  -- ---- by the number's own spacing: where another number is as near, nr is an even multiple of its spacing
  pub nr_even : (w : ℕ) → Form f w → (w ≡ nr f D N → ⊥) → gap (w * D) N ≡ gap (nr f D N * D) N
      → EvenFraction f (pos (nr f D N))
  nr_even w F other e = nr_rival w F (le_of_eq e) (λ same. absurd (other same)) (λ t u s. own (nr_tie u))
    where
      own : (m : ℕ) × (nr f D N ≡ 2 ^ ex f D N * (2 * m)) → EvenFraction f (pos (nr f D N))
      own (m, x) = even_own f (nr f D N) (ex f D N) (nr_few f D N d) (nr_large f D N d) m x

  -- and no other number is as near and, where another is as near as it, an even multiple of its own spacing
  pub nr_even_only : (v : ℕ) → Form f v → gap (v * D) N ≤ gap (nr f D N * D) N
      → ((w : ℕ) → Form f w → (w ≡ v → ⊥) → gap (w * D) N ≡ gap (v * D) N → EvenFraction f (pos v)) → v ≡ nr f D N
  nr_even_only v F c even =
      nr_rival v F c (λ e. e) (λ t u s. absurd (clash (nr_tie u) s (even (nr f D N) (nr_form f D N d) (other s) (omega (arith, t, u)))))
    where
      other : Beside v → nr f D N ≡ v → ⊥
      other (inl (_, e)) q = omega (arith, e, q, pow_pos (ex f D N))
      other (inr (_, e)) q = omega (arith, e, q, pow_pos (ex f D N))

      odd : (m : ℕ) → v ≤ 2 ^ f.prec * 2 ^ ex f D N → lo f D N ≤ v → v ≡ 2 ^ ex f D N * (2 * m + 1) → EvenFraction f (pos v) → ⊥
      odd m few l = odd_own f v (ex f D N) few (⊎_elim inl (λ h. inr (le_trans h l)) (lo_large f D N d)) m

      clash : (m : ℕ) × (nr f D N ≡ 2 ^ ex f D N * (2 * m)) → Beside v → EvenFraction f (pos v) → ⊥
      clash (zero, x) (inl (_, e)) own = omega (arith, x, e, pow_pos (ex f D N))
      clash (suc m, x) (inl (low, e)) own = odd m (omega (arith, low, lo_few f D N d)) (le_of_eq (sym low)) (omega (arith, x, e)) own
      clash (m, x) (inr (low, e)) own = odd m (omega (arith, low, e, lo_few f D N d)) (omega (arith, low, e)) (omega (arith, x, e)) own
