-- Laws of sums of naturals, and of a sum of integers that are naturals or differences.
use mathlib.Core.Path.{◌≡◌, refl, ◌∙◌, ap, ap₂}
use Prim.Native.Nat.{ℕ, zero, suc, ◌+◌, ◌≤◌, ◌<◌}
use native.Mathlib.Omega.{arith}
use lib.IntN.{ℤ, pos, neg_ℤ, ◌+ℤ◌, ◌-ℤ◌}
use Rattle.algebra.specs.Sum.{Σ<}
use Rattle.algebra.proofs.Sum.{Σ_add, Σ_neg}
use Rattle.enclosure.specs.NaturalSum.{Σℕ}

pub Σℕ_ext : (n : ℕ) (f g : ℕ → ℕ) → ((l : ℕ) → l < n → f l ≡ g l) → Σℕ n f ≡ Σℕ n g
Σℕ_ext zero f g h = refl
Σℕ_ext (suc n) f g h = ap₂ ◌+◌ (Σℕ_ext n f g (λ l i. h l (omega arith))) (h n (omega arith))

pub Σℕ_add : (n : ℕ) (f g : ℕ → ℕ) → Σℕ n (λ l. f l + g l) ≡ Σℕ n f + Σℕ n g
Σℕ_add zero f g = refl
Σℕ_add (suc n) f g = omega (arith, Σℕ_add n f g)

pub Σℕ_mono : (n : ℕ) (f g : ℕ → ℕ) → ((l : ℕ) → l < n → f l ≤ g l) → Σℕ n f ≤ Σℕ n g
Σℕ_mono zero f g h = omega arith
Σℕ_mono (suc n) f g h = omega (arith, Σℕ_mono n f g (λ l i. h l (omega arith)), h n (omega arith))

-- under `pos`
pub Σ_pos : (n : ℕ) (f : ℕ → ℕ) → Σ< n (λ l. pos (f l)) ≡ pos (Σℕ n f)
unfolding Σ<
Σ_pos zero f = refl
Σ_pos (suc n) f = ap (λ z. z +ℤ pos (f n)) (Σ_pos n f)

pub Σ_sub : (n : ℕ) (f g : ℕ → ℤ) → Σ< n (λ l. f l -ℤ g l) ≡ Σ< n f -ℤ Σ< n g
Σ_sub n f g = Σ_add n f (λ l. neg_ℤ (g l)) ∙ ap (λ z. Σ< n f +ℤ z) (Σ_neg n g)
