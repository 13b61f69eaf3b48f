-- The three roundings defined by their properties, and a bound on the rounding error. Definitions only. What is rounded is X / D units.
use Rattle.std.specs.Prelude.{◌≡◌, ℕ, ◌+◌, ◌-◌, ◌*◌, ◌^◌, ◌≤◌, ℤ, pos, neg_ℤ, nat_abs, ◌*ℤ◌, ◌-ℤ◌}
use Rattle.std.proofs.Math.Option.{Option, none, some}
use Rattle.algebra.specs.Order.{◌≼◌, ◌≺◌}
use Rattle.rounding.specs.Format.{Format, MAX, Form, Num, spacing}

-- ---- v is the least number not below X / D (up), the greatest not above it (down)
pub record IsUp (f : Format) (D : ℕ) (X v : ℤ) : Type 0 where
  pub num : Num f v
  pub above : X ≼ v *ℤ pos D
  pub least : (w : ℤ) → Num f w → X ≼ w *ℤ pos D → v ≼ w

pub record IsDown (f : Format) (D : ℕ) (X v : ℤ) : Type 0 where
  pub num : Num f v
  pub below : v *ℤ pos D ≼ X
  pub greatest : (w : ℤ) → Num f w → w *ℤ pos D ≼ X → w ≼ v

-- the result of rounding up: such a number, or none where X / D is above MAX
abbrev pub UpTo : Format → ℕ → ℤ → Option ℤ → Type 0
UpTo f D X (some v) = IsUp f D X v
UpTo f D X none = pos (MAX f * D) ≺ X

-- the result of rounding down: such a number, or none where X / D is below -MAX
abbrev pub DownTo : Format → ℕ → ℤ → Option ℤ → Type 0
DownTo f D X (some v) = IsDown f D X v
DownTo f D X none = X ≺ neg_ℤ (pos (MAX f * D))

-- ---- the distance of v and X / D, times D
abbrev pub off : ℕ → ℤ → ℤ → ℕ
off D X v = nat_abs (v *ℤ pos D -ℤ X)

-- ---- v is the nearest number, and in a tie the one with the even fraction

-- v is an even multiple of its ulp, which means that its pattern is even (proofs/Encoding, `encode_even`)
abbrev pub EvenFraction : Format → ℤ → Type 0
EvenFraction f v = (m : ℕ) × (nat_abs v ≡ spacing f v * (2 * m))

-- `closer` and `even` compare v with all `Form`s: the numbers as if there were no largest one. So the result is none where the nearest of these
-- is above the largest number: from half an ulp above it on, 2 ^ 128 - 2 ^ 103 for binary32, as in IEEE 754.
pub record IsNear (f : Format) (D : ℕ) (X v : ℤ) : Type 0 where
  pub num : Num f v
  pub closer : (w : ℤ) → Form f (nat_abs w) → off D X v ≤ off D X w
  pub even : (w : ℤ) → Form f (nat_abs w) → (w ≡ v → ⊥) → off D X w ≡ off D X v → EvenFraction f v

-- the result of rounding to nearest: such a number, or none where |X / D| is MAX + half an ulp or more
abbrev pub NearTo : Format → ℕ → ℤ → Option ℤ → Type 0
NearTo f D X (some v) = IsNear f D X v
NearTo f D X none = 2 * (MAX f * D) + 2 ^ f.top * D ≤ 2 * nat_abs X

-- ---- the error of v is at most 1 / P of |X / D|, plus 1 - 1 / D units, which is 0 for D = 1
pub record Err (P D : ℕ) (X v : ℤ) : Type 0 where
  pub bound : P * off D X v ≤ nat_abs X + P * (D - 1)
