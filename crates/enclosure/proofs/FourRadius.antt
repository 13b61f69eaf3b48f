-- The radius of method 4 as rounded: it is not negative, and how far it is from the sum of |mA| × rB + rA × w, where w is |mB| + rB rounded up.
use mathlib.Core.Path.{◌≡◌, refl, sym, ◌∙◌, ap, ap₂, subst}
use mathlib.Core.Option.{Option, none, some, get_or}
use Prim.Native.Nat.{ℕ, ◌+◌, ◌*◌, ◌≤◌, ◌<◌}
use native.Mathlib.Omega.{arith}
use native.Mathlib.Nat.{mul-le-mul_left}
use lib.IntN.{ℤ, pos, nat_abs, ◌+ℤ◌, ◌*ℤ◌}
use Rattle.algebra.specs.Order.{◌≼◌}
use Rattle.algebra.specs.Absolute.{abs}
use Rattle.algebra.specs.Sum.{Σ<}
use Rattle.algebra.proofs.Order.{nonneg, mul_nonneg}
use Rattle.algebra.proofs.Absolute.{nat_abs_add, nat_abs_mul}
use Rattle.enclosure.specs.Arithmetic.{Arithmetic}
use Rattle.enclosure.specs.NaturalSum.{Σℕ}
use Rattle.enclosure.specs.Cell.{Cell}
use Rattle.enclosure.specs.Methods.{radius₄, total, inner_term, outer_radius, outer_term}
use Rattle.enclosure.proofs.Accepted.{bound}
use Rattle.enclosure.proofs.NaturalSum.{Σℕ_ext, Σℕ_add}
use Rattle.enclosure.proofs.Converted.{Converted, EachConverted}
use Rattle.enclosure.proofs.Laws.{Laws, one}
use Rattle.enclosure.proofs.Terms.{inner, reach_nonneg}
use Rattle.enclosure.proofs.Magnitude.{sum_size}
use Rattle.enclosure.proofs.Accumulate.{Approx, magnitudes, zero_approx, accumulate}
use Rattle.enclosure.proofs.Traces.{Rounded, up_nonneg, rising}
use Rattle.enclosure.proofs.CellSize.{reach}
use Rattle.enclosure.proofs.PairSums.{radius_sum}

-- w is at most 1 + 1 / P of mB + rB, so the terms exceed the reaches' product less mA × mB by no more than that
radius_terms : (P mA rA mB rB w : ℕ) → P * w ≤ (P + 1) * (mB + rB) → P * (mA * rB + rA * w) + (P + 1) * (mA * mB) ≤ (P + 1) * ((mA + rA) * (mB + rB))
radius_terms P mA rA mB rB w h = omega (arith, mul-le-mul_left rA h)

module _ {A : Arithmetic} (L : Laws A) where
  open A use {up, units}
  open L use {P, units_above}

  -- ---- |mB| + rB rounded up, or 0 where that is refused
  unfoldable pub raised_reach : Cell → ℤ
  raised_reach b = get_or (up 1 (abs b.mid +ℤ b.rad)) (pos 0)

  module _ (b : Cell) (o : Converted P b) where
    pub raised_reach_≤ : P * nat_abs (raised_reach b) ≤ (P + 1) * reach b
    unfolding raised_reach
    raised_reach_≤ = go (up 1 (abs b.mid +ℤ b.rad)) refl
      where
        go : (w : Option ℤ) → up 1 (abs b.mid +ℤ b.rad) ≡ w → P * nat_abs (get_or w (pos 0)) ≤ (P + 1) * (nat_abs b.mid + nat_abs b.rad)
        go none e = omega arith
        go (some w) e =
            let r = up_nonneg L one (reach_nonneg b.mid b.rad o.rad_nonneg) e in
            omega (arith, sum_size r.close, mul-le-mul_left (P + 1) (nat_abs_add (abs b.mid) b.rad))

    pub outer_rounded : (a : Cell) → Converted P a → (t : ℤ) → outer_term A a b ≡ some t → Rounded L units (a.rad *ℤ raised_reach b) t
    unfolding raised_reach outer_term outer_radius
    outer_rounded a i t h =
        let c = bound (up 1 (abs b.mid +ℤ b.rad)) _ h in
        let w = up_nonneg L one (reach_nonneg b.mid b.rad o.rad_nonneg) c.first in
        let e : get_or (up 1 (abs b.mid +ℤ b.rad)) (pos 0) ≡ c.value = ap (λ z. get_or z (pos 0)) c.first in
        subst (λ z. Rounded L units (a.rad *ℤ z) t) (sym e) (up_nonneg L units_above (mul_nonneg i.rad_nonneg w.nonnegative) c.then)

  module _ (k : ℕ) (a b : ℕ → Cell) (oka : EachConverted P k a) (okb : EachConverted P k b) where
    abbrev pub raised_outer : ℕ → ℤ
    raised_outer l = (a l).rad *ℤ raised_reach (b l)

    pub record RadiusClose (r : ℤ) : Type 0 where
      pub nonnegative : pos 0 ≼ r
      pub close : Approx P units (0 + k + k) r (pos 0 +ℤ Σ< k (inner a b) +ℤ Σ< k raised_outer) (0 + magnitudes k (inner a b) + magnitudes k raised_outer)

    pub radius_close : 65 * (2 * k) ≤ P → {r : ℤ} → radius₄ A k a b ≡ some r → RadiusClose r
    unfolding radius₄ total inner_term
    radius_close few h =
        let c = bound (total A k a b up (inner_term A) (pos 0)) _ h in
        let r₁ = rising L (λ l. up units (inner a b l)) (inner a b) (pos 0) (nonneg 0) k
        (λ l i t f. up_nonneg L units_above (mul_nonneg (nonneg (nat_abs (a l).mid)) (okb l i).rad_nonneg) f) c.first in
        let r₂ = rising L (λ l. outer_term A (a l) (b l)) raised_outer c.value r₁.nonnegative k
        (λ l i t f. outer_rounded (b l) (okb l i) (a l) (oka l i) t f) c.then in
        record {
          nonnegative = r₂.nonnegative;
          close = accumulate (accumulate (zero_approx P units) r₁.trace (omega (arith, few))) r₂.trace (omega (arith, few));
        }

    -- the magnitudes of its terms, pair by pair
    abbrev terms : ℕ → ℕ
    terms l = nat_abs (a l).mid * nat_abs (b l).rad + nat_abs (a l).rad * nat_abs (raised_reach (b l))

    terms_are : magnitudes k (inner a b) + magnitudes k raised_outer ≡ Σℕ k terms
    terms_are =
        sym (Σℕ_add k (λ l. nat_abs (a l).mid * nat_abs (b l).rad) (λ l. nat_abs (a l).rad * nat_abs (raised_reach (b l)))
        ∙ ap₂ ◌+◌ (Σℕ_ext k _ _ (λ l i. sym (nat_abs_mul (abs (a l).mid) (b l).rad))) (Σℕ_ext k _ _ (λ l i. sym (nat_abs_mul (a l).rad (raised_reach (b l))))))

    terms_≤ : (l : ℕ) → l < k → P * terms l + (P + 1) * (nat_abs (a l).mid * nat_abs (b l).mid) ≤ (P + 1) * (reach (a l) * reach (b l))
    terms_≤ l i =
        radius_terms P (nat_abs (a l).mid) (nat_abs (a l).rad) (nat_abs (b l).mid) (nat_abs (b l).rad) (nat_abs (raised_reach (b l))) (raised_reach_≤ (b l) (okb l i))

    pub radius_terms_≤ : P * (magnitudes k (inner a b) + magnitudes k raised_outer) + (P + 1) * Σℕ k (λ l. nat_abs (a l).mid * nat_abs (b l).mid)
        ≤ (P + 1) * Σℕ k (λ l. reach (a l) * reach (b l))
    radius_terms_≤ =
        let s = radius_sum P terms (λ l. nat_abs (a l).mid * nat_abs (b l).mid) (λ l. reach (a l) * reach (b l)) k terms_≤ in
        omega (arith, ap (λ z. P * z) terms_are, s)
