-- A sum rounded up is not below the exact one, and a sum rounded down not above it: from 0 on, and continued from where another sum ended.
use mathlib.Core.Path.{◌≡◌, ap}
use mathlib.Core.List.{[], ◌∷◌}
use mathlib.Core.Option.{Option, some}
use Prim.Native.Nat.{ℕ, zero, suc, ◌<◌}
use native.Mathlib.Omega.{arith}
use lib.IntN.{ℤ, pos, ◌+ℤ◌, ◌*ℤ◌}
use Rattle.algebra.specs.Order.{◌≼◌}
use Rattle.algebra.specs.Sum.{Σ<}
use Rattle.algebra.proofs.Linear.{reading, le, eq, lin_le}
use Rattle.algebra.proofs.Order.{◌⊠◌, nonneg}
use Rattle.enclosure.specs.Arithmetic.{Arithmetic}
use Rattle.enclosure.specs.Sums.{sum}
use Rattle.enclosure.proofs.Sums.{sum_start, sum_step}
use Rattle.enclosure.proofs.Laws.{Laws, up_sum, down_sum}

-- ---- one turn, over whole numbers: s has taken in X₀, u the sum S too, and v the term X
module _ (N : ℕ) (X₀ s v : ℤ) (e : s ≡ v) where
  start_above : X₀ ≼ s *ℤ pos N → X₀ +ℤ pos 0 ≼ v *ℤ pos N
  start_above h = lin_le (pos N ∷ X₀ ∷ s ∷ v ∷ []) (le h ∷ eq (ap (λ z. z *ℤ pos N) e) ∷ []) (search reading depth 20) (omega arith)

  start_below : s *ℤ pos N ≼ X₀ → v *ℤ pos N ≼ X₀ +ℤ pos 0
  start_below h = lin_le (pos N ∷ X₀ ∷ s ∷ v ∷ []) (le h ∷ eq (ap (λ z. z *ℤ pos N) e) ∷ []) (search reading depth 20) (omega arith)

module _ (N : ℕ) (X₀ S X u t v : ℤ) where
  turn_above : X₀ +ℤ S ≼ u *ℤ pos N → X ≼ t *ℤ pos N → u +ℤ t ≼ v → X₀ +ℤ (S +ℤ X) ≼ v *ℤ pos N
  turn_above h k l = lin_le (pos N ∷ X₀ ∷ S ∷ X ∷ u ∷ t ∷ v ∷ []) (le h ∷ le k ∷ le (l ⊠ nonneg N) ∷ []) (search reading depth 30) (omega arith)

  turn_below : u *ℤ pos N ≼ X₀ +ℤ S → t *ℤ pos N ≼ X → v ≼ u +ℤ t → v *ℤ pos N ≼ X₀ +ℤ (S +ℤ X)
  turn_below h k l = lin_le (pos N ∷ X₀ ∷ S ∷ X ∷ u ∷ t ∷ v ∷ []) (le h ∷ le k ∷ le (l ⊠ nonneg N) ∷ []) (search reading depth 30) (omega arith)

module _ (N : ℕ) (S v : ℤ) where
  from_zero_above : pos 0 +ℤ S ≼ v *ℤ pos N → S ≼ v *ℤ pos N
  from_zero_above h = lin_le (pos N ∷ S ∷ v ∷ []) (le h ∷ []) (search reading depth 20) (omega arith)

  from_zero_below : v *ℤ pos N ≼ pos 0 +ℤ S → v *ℤ pos N ≼ S
  from_zero_below h = lin_le (pos N ∷ S ∷ v ∷ []) (le h ∷ []) (search reading depth 20) (omega arith)

  zero_above : (m : ℕ) → pos 0 ≼ pos m *ℤ pos N
  zero_above m = lin_le (pos N ∷ pos m ∷ []) (le (nonneg m ⊠ nonneg N) ∷ []) (search reading depth 20) (omega arith)

  zero_below : pos 0 *ℤ pos N ≼ pos 0
  zero_below = lin_le (pos N ∷ []) [] (search reading depth 20) (omega arith)

-- ---- f l is a term in units, X l the exact one in 1 / N of a unit
module _ {A : Arithmetic} (L : Laws A) (N : ℕ) (f : ℕ → Option ℤ) (X : ℕ → ℤ) where
  abbrev Above : ℕ → Type 0
  Above n = (l : ℕ) → l < n → (t : ℤ) → f l ≡ some t → X l ≼ t *ℤ pos N

  abbrev Below : ℕ → Type 0
  Below n = (l : ℕ) → l < n → (t : ℤ) → f l ≡ some t → t *ℤ pos N ≼ X l

  pub continued_above : {X₀ : ℤ} (s : ℤ) → X₀ ≼ s *ℤ pos N → (n : ℕ) → Above n → {v : ℤ} → sum (A.up 1) f s n ≡ some v → X₀ +ℤ Σ< n X ≼ v *ℤ pos N
  unfolding Σ<
  continued_above {X₀} s p zero h {v} e = start_above N X₀ s v (sum_start (A.up 1) f s e) p
  continued_above {X₀} s p (suc n) h {v} e =
      let c = sum_step (A.up 1) f s n e in
      let i = continued_above s p n (λ l i. h l (omega arith)) c.ran in
      turn_above N X₀ (Σ< n X) (X n) c.before c.term v i (h n (omega arith) c.term c.got) (up_sum L c.added)

  pub continued_below : {X₀ : ℤ} (s : ℤ) → s *ℤ pos N ≼ X₀ → (n : ℕ) → Below n → {v : ℤ} → sum (A.down 1) f s n ≡ some v → v *ℤ pos N ≼ X₀ +ℤ Σ< n X
  unfolding Σ<
  continued_below {X₀} s p zero h {v} e = start_below N X₀ s v (sum_start (A.down 1) f s e) p
  continued_below {X₀} s p (suc n) h {v} e =
      let c = sum_step (A.down 1) f s n e in
      let i = continued_below s p n (λ l i. h l (omega arith)) c.ran in
      turn_below N X₀ (Σ< n X) (X n) c.before c.term v i (h n (omega arith) c.term c.got) (down_sum L c.added)

  -- from zero, or any number above it
  pub sum_above : (m n : ℕ) → Above n → {v : ℤ} → sum (A.up 1) f (pos m) n ≡ some v → Σ< n X ≼ v *ℤ pos N
  sum_above m n h {v} e = from_zero_above N (Σ< n X) v (continued_above (pos m) (zero_above N (Σ< n X) v m) n h e)

  pub sum_below : (n : ℕ) → Below n → {v : ℤ} → sum (A.down 1) f (pos 0) n ≡ some v → v *ℤ pos N ≼ Σ< n X
  sum_below n h {v} e = from_zero_below N (Σ< n X) v (continued_below (pos 0) (zero_below N (Σ< n X) v) n h e)
