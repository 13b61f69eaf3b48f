-- Laws of the absolute value.
use mathlib.Core.Path.{◌≡◌, refl, sym, ap}
use mathlib.Core.List.{[], ◌∷◌}
use mathlib.Core.Logic.{◌⊎◌, inl, inr, ⊎_elim}
use Prim.Native.Nat.{zero, suc, ◌+◌, ◌*◌, ◌≤◌}
use native.Mathlib.Omega.{arith}
use lib.IntN.{ℤ, pos, negsuc, neg_ℤ, nat_abs, ◌+ℤ◌, ◌*ℤ◌}
use lib.Signed.{le_z_yes, lt_z_yes}
use Rattle.algebra.specs.Order.{◌≼◌, ◌≺◌}
use Rattle.algebra.specs.Absolute.{abs}
use Rattle.algebra.proofs.Linear.{reading, le, eq, lin_le}
use Rattle.algebra.proofs.Order.{≼_refl, ≼_of_≡, nonneg, add_mono}
use Rattle.algebra.proofs.Natural.{to_le}

pub abs_cases : (x : ℤ) → ((pos 0 ≼ x) × (abs x ≡ x)) ⊎ ((x ≺ pos 0) × (abs x ≡ neg_ℤ x))
abs_cases (pos n) = inl (nonneg n, refl)
abs_cases (negsuc n) = inr (lt_z_yes tt, refl)

-- the split at a proof: f where x is not negative, g where it is
pub abs_split : {G : Type 0} (x : ℤ) → (pos 0 ≼ x → abs x ≡ x → G) → (x ≺ pos 0 → abs x ≡ neg_ℤ x → G) → G
abs_split x f g = ⊎_elim (λ h. f h.0 h.1) (λ h. g h.0 h.1) (abs_cases x)

pub ≼_abs : (x : ℤ) → x ≼ abs x
≼_abs (pos n) = ≼_refl (pos n)
≼_abs (negsuc n) = le_z_yes tt

pub neg_≼_abs : (x : ℤ) → neg_ℤ x ≼ abs x
neg_≼_abs x = abs_split x (λ h e. lin_le (x ∷ abs x ∷ []) (le h ∷ eq e ∷ []) (search reading depth 12) (omega arith)) (λ h e. ≼_of_≡ (sym e))

pub abs_≼ : (x : ℤ) {b : ℤ} → x ≼ b → neg_ℤ x ≼ b → abs x ≼ b
abs_≼ x {b} h k =
    abs_split x
    (λ p e. lin_le (x ∷ b ∷ abs x ∷ []) (le h ∷ eq e ∷ []) (search reading depth 12) (omega arith))
    (λ p e. lin_le (x ∷ b ∷ abs x ∷ []) (le k ∷ eq e ∷ []) (search reading depth 12) (omega arith))

pub abs_add : (x y : ℤ) → abs (x +ℤ y) ≼ abs x +ℤ abs y
abs_add x y = abs_≼ (x +ℤ y) (add_mono (≼_abs x) (≼_abs y)) (lin_le (x ∷ y ∷ abs x ∷ abs y ∷ []) (le (neg_≼_abs x) ∷ le (neg_≼_abs y) ∷ []) (search reading depth 14) (omega arith))

pub abs_neg : (x : ℤ) → abs (neg_ℤ x) ≡ abs x
abs_neg (pos zero) = refl
abs_neg (pos (suc n)) = refl
abs_neg (negsuc n) = refl

pub abs_mul : (x y : ℤ) → abs (x *ℤ y) ≡ abs x *ℤ abs y
abs_mul (pos a) (pos b) = refl
abs_mul (pos a) (negsuc b) = abs_neg (pos (a * suc b))
abs_mul (negsuc a) (pos b) = abs_neg (pos (suc a * b))
abs_mul (negsuc a) (negsuc b) = refl

-- as naturals
pub nat_abs_add : (x y : ℤ) → nat_abs (x +ℤ y) ≤ nat_abs x + nat_abs y
nat_abs_add x y = to_le (abs_add x y)

pub nat_abs_mul : (x y : ℤ) → nat_abs (x *ℤ y) ≡ nat_abs x * nat_abs y
nat_abs_mul x y = ap nat_abs (abs_mul x y)
