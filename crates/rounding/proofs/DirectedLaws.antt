-- Laws of up and down: they keep numbers, grow with X / D, and depend on the fraction only. Assumes nothing.
use mathlib.Core.Path.{◌≡◌, refl, sym, ap, ◌∙◌}
use mathlib.Core.Bool.{cond}
use mathlib.Core.List.{[], ◌∷◌}
use mathlib.Core.Option.{Option, none, some}
use Prim.Native.Nat.{ℕ, zero, suc, ◌*◌, ◌≤◌, ◌<◌, min}
use native.Mathlib.Omega.{arith}
use native.Mathlib.Nat.{le_of_mul-le-mul_right, mul-pos, zero-mul}
use lib.Dec.{leb}
use lib.IntN.{ℤ, pos, neg_ℤ, ◌*ℤ◌}
use Rattle.algebra.specs.Order.{◌≼◌}
use Rattle.algebra.proofs.Reading.{by_ring}
use Rattle.algebra.proofs.Linear.{reading, le, lt, lin_le, lin_lt}
use Rattle.algebra.proofs.Order.{◌⊠◌, ≼_refl, ≼_trans, cancel_le, nonneg, ≺_step}
use Rattle.algebra.proofs.Natural.{of_lt}
use Rattle.rounding.specs.Format.{Format, MAX, Num}
use Rattle.rounding.specs.Rounding.{lo, hi, negate, up, down}
use Rattle.rounding.specs.Property.{IsUp, IsDown, UpTo}
use Rattle.rounding.proofs.Bracket.{lo_low}
use Rattle.rounding.proofs.Sign.{num_zero}
use Rattle.rounding.proofs.Directed.{up_to, up_only, up_above, down_only}

module _ (f : Format) (D : ℕ) (d : 0 < D) where
  -- ---- no jump over a number: with `least`, v ≼ w for a number w from X / D on, and w ≼ v for any w up to X / D
  cancel : {v w : ℤ} → v *ℤ pos D ≼ w *ℤ pos D → v ≼ w
  cancel {v} {w} l = cancel_le {c = pos D} (of_lt d) (lin_le (v ∷ w ∷ pos D ∷ []) (le l ∷ []) (search reading depth 20) (omega arith))

  pub up_ge : {X v : ℤ} → IsUp f D X v → (w : ℤ) → w *ℤ pos D ≼ X → w ≼ v
  up_ge u w h = cancel (≼_trans h u.above)

  -- ---- no sign is changed
  pub from_zero : {X : ℤ} → pos 0 ≼ X → pos 0 *ℤ pos D ≼ X
  from_zero {X} h = lin_le (X ∷ pos D ∷ []) (le h ∷ []) (search reading depth 20) (omega arith)

  pub up_nonneg : {X v : ℤ} → IsUp f D X v → pos 0 ≼ X → pos 0 ≼ v
  up_nonneg u h = up_ge u (pos 0) (from_zero h)

  -- ---- exact on numbers
  pub up_exact : {v : ℤ} → Num f v → up f D (v *ℤ pos D) ≡ some v
  up_exact {v} n = up_only f D d (record { num = n; above = ≼_refl (v *ℤ pos D); least = λ w k l. cancel l })

  pub down_exact : {v : ℤ} → Num f v → down f D (v *ℤ pos D) ≡ some v
  down_exact {v} n = down_only f D d (record { num = n; below = ≼_refl (v *ℤ pos D); greatest = λ w k l. cancel l })

  -- ---- the two clauses by magnitudes, 0 counted with either sign
  pub up_of_pos : (N : ℕ) → up f D (pos N) ≡ cond (leb (hi f D N) (MAX f)) (some (pos (hi f D N))) none
  unfolding up
  up_of_pos N = refl

  pub up_of_neg : (N : ℕ) → up f D (neg_ℤ (pos N)) ≡ some (neg_ℤ (pos (min (lo f D N) (MAX f))))
  unfolding up
  up_of_neg zero = ap (λ x. up f D (pos x)) (sym (zero-mul D)) ∙ up_exact (num_zero f) ∙ ap (λ x. some (neg_ℤ (pos x))) zero_is_zero
    where
      lo_zero : lo f D 0 * D ≤ 0 → lo f D 0 ≤ 0
      lo_zero h = le_of_mul-le-mul_right {k = D} (omega arith) d

      zero_is_zero : 0 ≡ min (lo f D 0) (MAX f)
      zero_is_zero = omega (arith, lo_zero (lo_low f D 0 d))
  up_of_neg (suc n) = refl

-- ---- monotone, between any two denominators
pub up_mono : (f : Format) (D E : ℕ) → 0 < D → 0 < E → {X Y v w : ℤ} → X *ℤ pos E ≼ Y *ℤ pos D → IsUp f D X v → IsUp f E Y w → v ≼ w
up_mono f D E d e {X} {Y} {v} {w} h a b =
    a.least w b.num
    (cancel_le {c = pos E} (of_lt e)
    (lin_le (X ∷ Y ∷ w ∷ pos D ∷ pos E ∷ []) (le h ∷ le (b.above ⊠ nonneg D) ∷ []) (search reading depth 20) (omega arith)))

pub down_mono : (f : Format) (D E : ℕ) → 0 < D → 0 < E → {X Y v w : ℤ} → X *ℤ pos E ≼ Y *ℤ pos D → IsDown f D X v → IsDown f E Y w → v ≼ w
down_mono f D E d e {X} {Y} {v} {w} h a b =
    b.greatest v a.num
    (cancel_le {c = pos D} (of_lt d)
    (lin_le (X ∷ Y ∷ v ∷ pos D ∷ pos E ∷ []) (le h ∷ le (a.below ⊠ nonneg E) ∷ []) (search reading depth 20) (omega arith)))

-- ---- scaling: a common factor of X and D does not matter
pub up_scale : (f : Format) (c D : ℕ) → 0 < c → 0 < D → (X : ℤ) → up f (c * D) (pos c *ℤ X) ≡ up f D X
up_scale f c D c₀ d X = go (up f D X) (up_to f D d X)
  where
    cd : 0 < c * D
    cd = mul-pos c₀ d

    go : (a : Option ℤ) → UpTo f D X a → up f (c * D) (pos c *ℤ X) ≡ a
    go (some v) u = up_only f (c * D) cd (record { num = u.num; above = above; least = least })
      where
        above : pos c *ℤ X ≼ v *ℤ pos (c * D)
        above = lin_le (X ∷ v ∷ pos c ∷ pos D ∷ []) (le (u.above ⊠ nonneg c) ∷ []) (search reading depth 20) (omega arith)

        least : (w : ℤ) → Num f w → pos c *ℤ X ≼ w *ℤ pos (c * D) → v ≼ w
        least w n l =
            u.least w n
            (cancel_le {c = pos c} (of_lt c₀) (lin_le (X ∷ w ∷ pos c ∷ pos D ∷ []) (le l ∷ []) (search reading depth 20) (omega arith)))
    go none u =
        up_above f (c * D) cd
        (lin_lt (X ∷ pos c ∷ pos D ∷ pos (MAX f) ∷ []) (le (≺_step u ⊠ ≺_step (of_lt c₀)) ∷ lt u ∷ lt (of_lt c₀) ∷ []) (search reading depth 20) (omega arith))

pub down_scale : (f : Format) (c D : ℕ) → 0 < c → 0 < D → (X : ℤ) → down f (c * D) (pos c *ℤ X) ≡ down f D X
unfolding down
down_scale f c D c₀ d X =
    let e : neg_ℤ (pos c *ℤ X) ≡ pos c *ℤ neg_ℤ X = by_ring (X ∷ pos c ∷ []) (search reading depth 20) tt in
    ap (λ z. negate (up f (c * D) z)) e ∙ ap negate (up_scale f c D c₀ d (neg_ℤ X))
