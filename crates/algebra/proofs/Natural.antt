-- Naturals under `pos`: an order, an equation or a difference of naturals as one of integers, and back.
use mathlib.Core.Path.{◌≡◌, ap}
use mathlib.Core.List.{[], ◌∷◌}
use mathlib.Core.Logic.{◌⊎◌, inl, inr, ⊎_elim}
use Prim.Native.Nat.{ℕ, ◌-◌, ◌≤◌, ◌<◌}
use native.Mathlib.Omega.{arith}
use lib.IntN.{pos, nat_abs, ◌-ℤ◌}
use Rattle.algebra.specs.Order.{◌≼◌, ◌≺◌}
use Rattle.algebra.proofs.SignParts.{parts_lt, parts_le, le_parts, lt_parts}
use Rattle.algebra.proofs.Linear.{reading, lin_eq}
use Rattle.algebra.proofs.Order.{≼_total}

pub of_le : {m n : ℕ} → m ≤ n → pos m ≼ pos n
of_le {m} {n} h = parts_le (pos m) (pos n) (omega arith)

pub to_le : {m n : ℕ} → pos m ≼ pos n → m ≤ n
to_le {m} {n} h = omega (arith, le_parts (pos m) (pos n) h)

pub of_lt : {m n : ℕ} → m < n → pos m ≺ pos n
of_lt {m} {n} h = parts_lt (pos m) (pos n) (omega arith)

pub to_lt : {m n : ℕ} → pos m ≺ pos n → m < n
to_lt {m} {n} h = omega (arith, lt_parts (pos m) (pos n) h)

pub to_eq : {m n : ℕ} → pos m ≡ pos n → m ≡ n
to_eq h = ap nat_abs h

-- a split (native.Mathlib.Nat's `le_total` is truncated)
pub ≤_total : (m n : ℕ) → (m ≤ n) ⊎ (n ≤ m)
≤_total m n = ⊎_elim (λ h. inl (to_le h)) (λ h. inr (to_le h)) (≼_total (pos m) (pos n))

-- a difference of naturals
pub of_sub : {m n : ℕ} → n ≤ m → pos (m - n) ≡ pos m -ℤ pos n
of_sub {m} {n} h = lin_eq (pos m ∷ pos n ∷ pos (m - n) ∷ []) [] (search reading depth 12) (omega arith)
