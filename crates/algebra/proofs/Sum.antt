-- Laws of sums over an index: they depend on the terms only, are linear, and grow with their terms.
use mathlib.Core.Path.{◌≡◌, refl, sym, ap₂}
use mathlib.Core.List.{[], ◌∷◌}
use Prim.Native.Nat.{ℕ, zero, suc, ◌<◌}
use native.Mathlib.Omega.{arith}
use lib.IntN.{ℤ, pos, neg_ℤ, ◌+ℤ◌, ◌*ℤ◌, *ℤ-zero}
use Rattle.algebra.specs.Order.{◌≼◌}
use Rattle.algebra.specs.Sum.{Σ<}
use Rattle.algebra.proofs.Linear.{reading, eq, lin_eq}
use Rattle.algebra.proofs.Order.{≼_refl, add_mono}

pub Σ_ext : (n : ℕ) (f g : ℕ → ℤ) → ((i : ℕ) → i < n → f i ≡ g i) → Σ< n f ≡ Σ< n g
unfolding Σ<
Σ_ext zero f g h = refl
Σ_ext (suc n) f g h = ap₂ ◌+ℤ◌ (Σ_ext n f g (λ i l. h i (omega arith))) (h n (omega arith))

pub Σ_add : (n : ℕ) (f g : ℕ → ℤ) → Σ< n (λ i. f i +ℤ g i) ≡ Σ< n f +ℤ Σ< n g
unfolding Σ<
Σ_add zero f g = refl
Σ_add (suc n) f g = lin_eq (Σ< n f ∷ Σ< n g ∷ Σ< n (λ i. f i +ℤ g i) ∷ f n ∷ g n ∷ []) (eq (Σ_add n f g) ∷ []) (search reading depth 20) (omega arith)

pub Σ_scale : (n : ℕ) (c : ℤ) (f : ℕ → ℤ) → Σ< n (λ i. c *ℤ f i) ≡ c *ℤ Σ< n f
unfolding Σ<
Σ_scale zero c f = sym (*ℤ-zero c)
Σ_scale (suc n) c f = lin_eq (c ∷ Σ< n f ∷ Σ< n (λ i. c *ℤ f i) ∷ f n ∷ []) (eq (Σ_scale n c f) ∷ []) (search reading depth 20) (omega arith)

pub Σ_neg : (n : ℕ) (f : ℕ → ℤ) → Σ< n (λ i. neg_ℤ (f i)) ≡ neg_ℤ (Σ< n f)
unfolding Σ<
Σ_neg zero f = refl
Σ_neg (suc n) f = lin_eq (Σ< n f ∷ Σ< n (λ i. neg_ℤ (f i)) ∷ f n ∷ []) (eq (Σ_neg n f) ∷ []) (search reading depth 20) (omega arith)

pub Σ_mono : (n : ℕ) (f g : ℕ → ℤ) → ((i : ℕ) → i < n → f i ≼ g i) → Σ< n f ≼ Σ< n g
unfolding Σ<
Σ_mono zero f g h = ≼_refl (pos 0)
Σ_mono (suc n) f g h = add_mono (Σ_mono n f g (λ i l. h i (omega arith))) (h n (omega arith))
