-- Inequalities between the sizes of each pair, summed over k pairs.
use Prim.Native.Nat.{ℕ, zero, suc, ◌+◌, ◌*◌, ◌≤◌, ◌<◌}
use native.Mathlib.Omega.{arith}
use Rattle.enclosure.specs.NaturalSum.{Σℕ}

-- z the reaches' product, s and t the product and the sum of the largest magnitudes
pub reaches_sum : (P : ℕ) (z s t : ℕ → ℕ) (k : ℕ) → ((l : ℕ) → l < k → P * z l ≤ (P + 5) * s l + (P + 2) * t l + P)
    → P * Σℕ k z ≤ (P + 5) * Σℕ k s + (P + 2) * Σℕ k t + P * k
reaches_sum P z s t zero h = omega arith
reaches_sum P z s t (suc k) h = omega (arith, reaches_sum P z s t k (λ l i. h l (omega arith)), h k (omega arith))

-- y the midpoints' product, w the exact width
pub exceed_sum : (P : ℕ) (z y w s t : ℕ → ℕ) (k : ℕ)
    → ((l : ℕ) → l < k → 4 * (P * z l) ≤ 4 * (P * y l) + 3 * (P * w l) + 28 * s l + (6 * P + 8) * t l + 4 * P)
    → 4 * (P * Σℕ k z) ≤ 4 * (P * Σℕ k y) + 3 * (P * Σℕ k w) + 28 * Σℕ k s + (6 * P + 8) * Σℕ k t + 4 * (P * k)
exceed_sum P z y w s t zero h = omega arith
exceed_sum P z y w s t (suc k) h = omega (arith, exceed_sum P z y w s t k (λ l i. h l (omega arith)), h k (omega arith))

-- x the radius's terms
pub radius_sum : (P : ℕ) (x y z : ℕ → ℕ) (k : ℕ) → ((l : ℕ) → l < k → P * x l + (P + 1) * y l ≤ (P + 1) * z l)
    → P * Σℕ k x + (P + 1) * Σℕ k y ≤ (P + 1) * Σℕ k z
radius_sum P x y z zero h = omega arith
radius_sum P x y z (suc k) h = omega (arith, radius_sum P x y z k (λ l i. h l (omega arith)), h k (omega arith))
