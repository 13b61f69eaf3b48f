-- Signs: the numbers with the other sign, and distances as differences of naturals. Assumes nothing.
use mathlib.Core.Path.{◌≡◌, refl, sym, ap, ◌∙◌, subst}
use mathlib.Core.List.{List, [], ◌∷◌}
use mathlib.Core.Logic.{⊎_elim}
use mathlib.Core.Option.{some}
use Prim.Native.Nat.{ℕ, zero, suc, ◌+◌, ◌-◌, ◌*◌, ◌^◌, ◌≤◌, zero-le}
use native.Mathlib.Omega.{arith}
use native.Mathlib.Nat.{le_of_eq}
use lib.Pow.{pow_pos}
use lib.IntN.{ℤ, pos, negsuc, neg_ℤ, nat_abs, ◌+ℤ◌, ◌*ℤ◌, ◌-ℤ◌}
use Rattle.algebra.specs.Order.{◌≼◌, ◌≺◌}
use Rattle.algebra.specs.Absolute.{abs}
use Rattle.algebra.proofs.Reading.{by_ring}
use Rattle.algebra.proofs.SignParts.{le_parts, parts_le, neg_parts}
use Rattle.algebra.proofs.Linear.{reading, le, lt, eq, lin_le, lin_absurd}
use Rattle.algebra.proofs.Order.{neg_mono}
use Rattle.algebra.proofs.Natural.{≤_total, of_le, of_sub}
use Rattle.algebra.proofs.Absolute.{≼_abs, neg_≼_abs, abs_split}
use Rattle.rounding.specs.Format.{Format, MAX, Form, Num}
use Rattle.rounding.specs.Property.{off}

-- ---- the largest number, and 0
pub max_form : (f : Format) → Form f (MAX f)
unfolding MAX
max_form f = record { significand = 2 ^ f.prec - 1; shift = f.top; few = omega (arith, pow_pos f.prec); is = refl }

pub num_max : (f : Format) → Num f (pos (MAX f))
num_max f = record { form = max_form f; within = le_of_eq refl }

pub num_zero : (f : Format) → Num f (pos 0)
num_zero f = record { form = record { significand = 0; shift = 0; few = pow_pos f.prec; is = refl }; within = zero-le }

pub some_injective : {v w : ℤ} → some v ≡ some w → v ≡ w
some_injective e = cc

-- ---- signs
pub neg_le : {a b : ℕ} → a ≤ b → neg_ℤ (pos b) ≼ neg_ℤ (pos a)
neg_le h = neg_mono (of_le h)

pub of_neg_le : {a b : ℕ} → neg_ℤ (pos b) ≼ neg_ℤ (pos a) → a ≤ b
of_neg_le {a} {b} h = omega (arith, le_parts (neg_ℤ (pos b)) (neg_ℤ (pos a)) h, neg_parts (pos a), neg_parts (pos b))

pub nat_abs_neg : (v : ℤ) → nat_abs (neg_ℤ v) ≡ nat_abs v
nat_abs_neg (pos zero) = refl
nat_abs_neg (pos (suc n)) = refl
nat_abs_neg (negsuc n) = refl

pub neg_mul : (m D : ℕ) → neg_ℤ (pos m) *ℤ pos D ≡ neg_ℤ (pos (m * D))
neg_mul m D = by_ring (pos m ∷ pos D ∷ []) (search reading depth 20) tt

pub num_neg : {f : Format} {v : ℤ} → Num f v → Num f (neg_ℤ v)
num_neg {f} {v} n = record { form = subst (Form f) (sym (nat_abs_neg v)) n.form; within = omega (arith, n.within, nat_abs_neg v) }

pub pos_le_neg : {a b : ℕ} → pos a ≼ neg_ℤ (pos b) → b ≡ 0
pos_le_neg {a} {b} h = omega (arith, le_parts (pos a) (neg_ℤ (pos b)) h, neg_parts (pos b))

pub neg_le_pos : (a b : ℕ) → neg_ℤ (pos a) ≼ pos b
neg_le_pos a b = parts_le (neg_ℤ (pos a)) (pos b) (omega (arith, neg_parts (pos a)))

-- a number is between the least and the largest
pub num_le : {f : Format} {v : ℤ} → Num f v → v ≼ pos (MAX f)
num_le {f} {v = pos v} n = of_le n.within
num_le {f} {v = negsuc v} n = neg_le_pos (suc v) (MAX f)

pub num_ge : {f : Format} {v : ℤ} → Num f v → neg_ℤ (pos (MAX f)) ≼ v
num_ge {f} {v = pos v} n = neg_le_pos (MAX f) v
num_ge {f} {v = negsuc v} n = neg_le {a = suc v} n.within

-- ---- distances
pub off_neg : (D : ℕ) (X v : ℤ) → off D (neg_ℤ X) (neg_ℤ v) ≡ off D X v
off_neg D X v =
    let e : neg_ℤ v *ℤ pos D -ℤ neg_ℤ X ≡ neg_ℤ (v *ℤ pos D -ℤ X) = by_ring (X ∷ v ∷ pos D ∷ []) (search reading depth 20) tt in
    ap nat_abs e ∙ nat_abs_neg (v *ℤ pos D -ℤ X)

pub dist : {a b : ℕ} → b ≤ a → nat_abs (pos a -ℤ pos b) ≡ a - b
dist h = ap nat_abs (sym (of_sub h))

pub dist_neg : (m D N : ℕ) → m * D ≤ N → nat_abs (neg_ℤ (pos m) *ℤ pos D -ℤ neg_ℤ (pos N)) ≡ N - m * D
dist_neg m D N h =
    let e : neg_ℤ (pos m) *ℤ pos D -ℤ neg_ℤ (pos N) ≡ pos N -ℤ pos (m * D) = by_ring (pos m ∷ pos D ∷ pos N ∷ []) (search reading depth 20) tt in
    ap nat_abs e ∙ dist h

pub dist₂ : (a b : ℕ) → nat_abs (pos a -ℤ pos b) ≡ (a - b) + (b - a)
dist₂ a b = ⊎_elim above below (≤_total b a)
  where
    flip : pos a -ℤ pos b ≡ neg_ℤ (pos b -ℤ pos a)
    flip = by_ring (pos a ∷ pos b ∷ []) (search reading depth 20) tt

    above : b ≤ a → nat_abs (pos a -ℤ pos b) ≡ (a - b) + (b - a)
    above h = dist h ∙ same
      where
        same : a - b ≡ (a - b) + (b - a)
        same = omega arith

    below : a ≤ b → nat_abs (pos a -ℤ pos b) ≡ (a - b) + (b - a)
    below h = ap nat_abs flip ∙ nat_abs_neg (pos b -ℤ pos a) ∙ dist h ∙ same
      where
        same : b - a ≡ (a - b) + (b - a)
        same = omega arith

pub apart : (a b : ℕ) → nat_abs (neg_ℤ (pos a) -ℤ pos b) ≡ a + b
apart a b =
    let e : neg_ℤ (pos a) -ℤ pos b ≡ neg_ℤ (pos (a + b)) = by_ring (pos a ∷ pos b ∷ []) (search reading depth 20) tt in
    ap nat_abs e ∙ nat_abs_neg (pos (a + b))

-- of a and b ≺ a, a is no farther from X than b: then X is not below their middle
pub closer_above : (a b X : ℤ) → nat_abs (a -ℤ X) ≤ nat_abs (b -ℤ X) → b ≺ a → a +ℤ b ≼ pos 2 *ℤ X
closer_above a b X h k =
    abs_split (b -ℤ X)
    (λ p e. absurd (lin_absurd ρ (le (≼_abs (a -ℤ X)) ∷ le (of_le h) ∷ eq e ∷ lt k ∷ []) (search reading depth 20) (omega arith)))
    (λ p e. lin_le ρ (le (≼_abs (a -ℤ X)) ∷ le (of_le h) ∷ eq e ∷ []) (search reading depth 20) (omega arith))
  where
    ρ : List ℤ
    ρ = a ∷ b ∷ X ∷ abs (a -ℤ X) ∷ abs (b -ℤ X) ∷ []

pub closer_below : (a b X : ℤ) → nat_abs (a -ℤ X) ≤ nat_abs (b -ℤ X) → a ≺ b → pos 2 *ℤ X ≼ a +ℤ b
closer_below a b X h k =
    abs_split (b -ℤ X)
    (λ p e. lin_le ρ (le (neg_≼_abs (a -ℤ X)) ∷ le (of_le h) ∷ eq e ∷ []) (search reading depth 20) (omega arith))
    (λ p e. absurd (lin_absurd ρ (le (neg_≼_abs (a -ℤ X)) ∷ le (of_le h) ∷ eq e ∷ lt k ∷ []) (search reading depth 20) (omega arith)))
  where
    ρ : List ℤ
    ρ = a ∷ b ∷ X ∷ abs (a -ℤ X) ∷ abs (b -ℤ X) ∷ []
