-- Of the digits below half a step only whether there are any matters: with the step a multiple of 2 * m, the roundings of h * m + r and of
-- h * m + r' agree, where r and r' are below m and both 0 or neither. Assumes nothing.
use mathlib.Core.Path.{◌≡◌, refl, sym, ap, ◌∙◌, subst, ap₂}
use mathlib.Core.Logic.{inl, inr, ⊎_elim}
use Prim.Native.Nat.{ℕ, zero, suc, ◌+◌, ◌*◌, ◌/◌, ◌%◌, ◌^◌, ◌≤◌, ◌<◌}
use native.Mathlib.Omega.{arith}
use native.Mathlib.Nat.{mul_comm, mul-le-mul_right, lt_of_mul-lt-mul_right, div-div-eq-div-mul}
use lib.Arith.{digits_div, digits_mod, mod-mul}
use lib.Ieee.Nearest.{closest}
use Rattle.rounding.specs.Format.{Format, half}
use Rattle.rounding.specs.Rounding.{ex, step, sticky, ceil, lo, hi, nr}
use Rattle.rounding.proofs.Compare.{cmp_split}
use Rattle.rounding.proofs.Grid.{Scale, scale, scale_only}
use Rattle.rounding.proofs.Bracket.{sticky_pos, step_pos}
use Rattle.rounding.proofs.Closest.{closest_split}

-- ---- h * m + r and h * m + r' are on the same side of every multiple of m
jam_lt : (m h r r' k : ℕ) → r' < m → h * m + r < k * m → h * m + r' < k * m
jam_lt m h r r' k l' q = omega (arith, mul-le-mul_right m below)
  where
    below : suc h ≤ k
    below = lt_of_mul-lt-mul_right m (omega arith)

jam_le : (m h r r' k : ℕ) → r < m → k * m ≤ h * m + r → k * m ≤ h * m + r'
jam_le m h r r' k l q = omega (arith, mul-le-mul_right m below)
  where
    below : k ≤ h
    below = omega (arith, lt_of_mul-lt-mul_right m {m = k} {n = suc h} (omega arith))

sticky_add : (y r r' : ℕ) → sticky r ≡ sticky r' → sticky (y + r) ≡ sticky (y + r')
sticky_add y zero zero e = refl
sticky_add y zero (suc r') e = absurd (no e)
  where
    no : ◌≡◌ {A = ℕ} 0 1 → ⊥
    no e = omega arith
sticky_add y (suc r) zero e = absurd (no e)
  where
    no : ◌≡◌ {A = ℕ} 1 0 → ⊥
    no e = omega arith
sticky_add y (suc r) (suc r') e = sticky_pos (y + suc r) (omega arith) ∙ sym (sticky_pos (y + suc r') (omega arith))

module _ (h m q : ℕ) (hq : 0 < 2 * q) (hm : 0 < m) where
  jam_div : {r : ℕ} → r < m → (h * m + r) / (2 * q * m) ≡ h / (2 * q)
  jam_div {r} l =
      ap (λ x. (h * m + r) / x) (mul_comm (2 * q) m) ∙ sym (div-div-eq-div-mul (h * m + r) m (2 * q)) ∙ ap (λ x. x / (2 * q)) (digits_div h l)

  jam_mod : {r : ℕ} → r < m → (h * m + r) % (2 * q * m) ≡ h % (2 * q) * m + r
  jam_mod {r} l = mod-mul (h * m + r) hq hm ∙ ap₂ (λ x y. x % (2 * q) * m + y) (digits_div h l) (digits_mod h l)

  jam_ceil : {r r' : ℕ} → r < m → r' < m → sticky r ≡ sticky r' → ceil (h * m + r) (2 * q * m) ≡ ceil (h * m + r') (2 * q * m)
  unfolding ceil
  jam_ceil {r} {r'} l l' z =
      ap₂ ◌+◌ (jam_div l ∙ sym (jam_div l')) (ap sticky (jam_mod l) ∙ sticky_add (h % (2 * q) * m) r r' z ∙ sym (ap sticky (jam_mod l')))

  -- twice the remainder, against the step
  jam_half : (y c r r' : ℕ) → r < m → r' < m → sticky r ≡ sticky r' → 2 * (y * m + r) + c % 2 ≤ 2 * q * m → 2 * q * m < 2 * (y * m + r') + c % 2 → ⊥
  jam_half y c r r' l l' z a b = cmp_split y q under (λ e. same r r' z (omega (arith, ap (λ x. x * m) e)) (omega (arith, ap (λ x. x * m) e))) over
    where
      under : y < q → ⊥
      under k = omega (arith, mul-le-mul_right m k)

      over : q < y → ⊥
      over k = omega (arith, mul-le-mul_right m k)

      same : (r r' : ℕ) → sticky r ≡ sticky r' → 2 * r + c % 2 ≤ 0 → 0 < 2 * r' + c % 2 → ⊥
      same zero zero z a b = omega arith
      same zero (suc r') z a b = omega arith
      same (suc r) r' z a b = omega arith

  jam_closest : {r r' : ℕ} → r < m → r' < m → sticky r ≡ sticky r' → closest (h * m + r) (2 * q * m) ≡ closest (h * m + r') (2 * q * m)
  jam_closest {r} {r'} l l' z =
      split l
      (λ a e. split l' (λ a' e'. e ∙ sym e') (λ a' e'. absurd (jam_half (h % (2 * q)) (h / (2 * q)) r r' l l' z a a')))
      (λ a e. split l' (λ a' e'. absurd (jam_half (h % (2 * q)) (h / (2 * q)) r' r l' l (sym z) a' a)) (λ a' e'. e ∙ sym e'))
    where
      split : {G : Type 0} {r : ℕ} → r < m
          → (2 * (h % (2 * q) * m + r) + h / (2 * q) % 2 ≤ 2 * q * m → closest (h * m + r) (2 * q * m) ≡ h / (2 * q) → G)
          → (2 * q * m < 2 * (h % (2 * q) * m + r) + h / (2 * q) % 2 → closest (h * m + r) (2 * q * m) ≡ h / (2 * q) + 1 → G) → G
      split {r = r} l F H =
          closest_split (h * m + r) (2 * q * m)
          (λ a e. F (omega (arith, jam_mod l, ap (λ x. x % 2) (jam_div l))) (e ∙ jam_div l))
          (λ a e. H (omega (arith, jam_mod l, ap (λ x. x % 2) (jam_div l))) (e ∙ ap (λ x. x + 1) (jam_div l)))

-- ---- the roundings
module _ (f : Format) (D h m q r r' : ℕ) (d : 0 < D) (l : r < m) (l' : r' < m) (z : sticky r ≡ sticky r')
    (es : step f D (h * m + r) ≡ 2 * q * m) where
  jam_scale : Scale f D (h * m + r') (ex f D (h * m + r))
  jam_scale = record { below = below; above = ⊎_elim inl (λ k. inr (above k)) (scale f D (h * m + r) d).above }
    where
      wide : (p : ℕ) → p * step f D (h * m + r) ≡ p * (2 * q) * m
      wide p = ap (λ x. p * x) es ∙ assoc
        where
          assoc : p * (2 * q * m) ≡ p * (2 * q) * m
          assoc = omega arith

      below : h * m + r' < 2 ^ f.prec * step f D (h * m + r)
      below =
          let k : h * m + r < 2 ^ f.prec * (2 * q) * m = subst (λ x. h * m + r < x) (wide (2 ^ f.prec)) (scale f D (h * m + r) d).below in
          subst (λ x. h * m + r' < x) (sym (wide (2 ^ f.prec))) (jam_lt m h r r' (2 ^ f.prec * (2 * q)) l' k)

      above : half f * step f D (h * m + r) ≤ h * m + r → half f * step f D (h * m + r) ≤ h * m + r'
      above k = subst (λ x. x ≤ h * m + r') (sym (wide (half f))) (jam_le m h r r' (half f * (2 * q)) l (subst (λ x. x ≤ h * m + r) (wide (half f)) k))

  pub jam_ex : ex f D (h * m + r') ≡ ex f D (h * m + r)
  jam_ex = scale_only d jam_scale

  jam_step : step f D (h * m + r') ≡ 2 * q * m
  jam_step = ap (λ x. 2 ^ x * D) jam_ex ∙ es

  jam_q : 0 < 2 * q
  jam_q = go q (subst (λ x. 0 < x) es (step_pos f D (h * m + r) d))
    where
      go : (q : ℕ) → 0 < 2 * q * m → 0 < 2 * q
      go zero k = absurd (no k)
        where
          no : 0 < 0 * m → ⊥
          no k = omega arith
      go (suc q) k = omega arith

  jam_m : 0 < m
  jam_m = omega arith

  -- r may be replaced by r'
  pub jam_lo : lo f D (h * m + r') ≡ lo f D (h * m + r)
  unfolding lo
  jam_lo = ap₂ (λ j c. 2 ^ j * c) jam_ex
      (ap (λ x. (h * m + r') / x) jam_step ∙ jam_div h m q jam_q jam_m l' ∙ sym (ap (λ x. (h * m + r) / x) es ∙ jam_div h m q jam_q jam_m l))

  pub jam_hi : hi f D (h * m + r') ≡ hi f D (h * m + r)
  unfolding hi
  jam_hi = ap₂ (λ j c. 2 ^ j * c) jam_ex
      (ap (λ x. ceil (h * m + r') x) jam_step ∙ sym (ap (λ x. ceil (h * m + r) x) es ∙ jam_ceil h m q jam_q jam_m l l' z))

  pub jam_nr : nr f D (h * m + r') ≡ nr f D (h * m + r)
  unfolding nr
  jam_nr = ap₂ (λ j c. 2 ^ j * c) jam_ex
      (ap (λ x. closest (h * m + r') x) jam_step ∙ sym (ap (λ x. closest (h * m + r) x) es ∙ jam_closest h m q jam_q jam_m l l' z))
