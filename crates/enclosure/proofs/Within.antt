-- Integers within a radius of a centre, and how signs move through it.
use mathlib.Core.Path.{◌≡◌, refl, subst}
use mathlib.Core.List.{[], ◌∷◌}
use Prim.Native.Nat.{zero, suc}
use native.Mathlib.Omega.{arith}
use lib.IntN.{ℤ, pos, negsuc, neg_ℤ, ◌+ℤ◌, ◌-ℤ◌, neg_ℤ-neg_ℤ}
use Rattle.algebra.specs.Order.{◌≼◌}
use Rattle.algebra.specs.Absolute.{abs}
use Rattle.algebra.proofs.Linear.{reading, le, lin_le}
use Rattle.algebra.proofs.Natural.{to_le}

pub record Within (c r z : ℤ) : Type 0 where
  pub not_under : c -ℤ r ≼ z
  pub not_over : z ≼ c +ℤ r

pub within_at : {c c' r z z' : ℤ} → c ≡ c' → z ≡ z' → Within c r z → Within c' r z'
within_at {c} {c'} {r} {z} {z'} e f i = subst (λ t. Within t r z') e (subst (λ t. Within c r t) f i)

pub within_neg : {m r x : ℤ} → Within m r x → Within (neg_ℤ m) r (neg_ℤ x)
within_neg {m} {r} {x} w =
    record {
      not_under = lin_le (m ∷ r ∷ x ∷ []) (le w.not_over ∷ []) (search reading depth 20) (omega arith);
      not_over = lin_le (m ∷ r ∷ x ∷ []) (le w.not_under ∷ []) (search reading depth 20) (omega arith);
    }

pub within_of_neg : {c r z : ℤ} → Within (neg_ℤ c) r (neg_ℤ z) → Within c r z
within_of_neg {c} {r} {z} i = within_at (neg_ℤ-neg_ℤ c) (neg_ℤ-neg_ℤ z) (within_neg i)

-- ---- the absolute value where the sign is known
pub abs_nonneg : (x : ℤ) → pos 0 ≼ x → abs x ≡ x
abs_nonneg (pos n) h = refl
abs_nonneg (negsuc n) h = absurd h.le

pub abs_nonpos : (x : ℤ) → x ≼ pos 0 → abs x ≡ neg_ℤ x
abs_nonpos (pos zero) h = refl
abs_nonpos (pos (suc n)) h = absurd (omega (arith, to_le h))
abs_nonpos (negsuc n) h = refl
