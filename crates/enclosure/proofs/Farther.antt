-- The distance from a midpoint m to the farther of two bounds a and b: a radius encloses [a, b] exactly if it is not less, and the distance is the
-- smaller, the nearer m is to (a + b) / 2.
use mathlib.Core.Path.{◌≡◌, sym, ◌∙◌, ap}
use mathlib.Core.List.{[], ◌∷◌}
use mathlib.Core.Logic.{⊎_elim}
use Prim.Native.Nat.{ℕ, ◌+◌, ◌*◌, ◌≤◌}
use native.Mathlib.Omega.{arith}
use lib.IntN.{ℤ, pos, nat_abs, ◌+ℤ◌, ◌*ℤ◌, ◌-ℤ◌}
use Rattle.algebra.specs.Order.{◌≼◌}
use Rattle.algebra.specs.Absolute.{abs}
use Rattle.algebra.proofs.Reading.{by_ring}
use Rattle.algebra.proofs.Linear.{reading, le, eq, lin_le}
use Rattle.algebra.proofs.Order.{≼_refl, ≼_trans, ≼_antisym, ≼_total}
use Rattle.algebra.proofs.Natural.{of_le}
use Rattle.algebra.proofs.Extremes.{≼_max_l, ≼_max_r, max_≼}
use Rattle.rounding.specs.Property.{off}
use Rattle.enclosure.specs.Conversion.{farther}
use Rattle.enclosure.proofs.Within.{abs_nonneg, abs_nonpos}

module _ (a b m : ℤ) where
  -- ---- the radii that enclose
  pub low_reached : {r : ℤ} → farther a b m ≼ r → m -ℤ r ≼ a
  low_reached {r} h = lin_le (a ∷ m ∷ r ∷ []) (le (≼_trans (≼_max_l (m -ℤ a) (b -ℤ m)) h) ∷ []) (search reading depth 20) (omega arith)

  pub high_reached : {r : ℤ} → farther a b m ≼ r → b ≼ m +ℤ r
  high_reached {r} h = lin_le (b ∷ m ∷ r ∷ []) (le (≼_trans (≼_max_r (m -ℤ a) (b -ℤ m)) h) ∷ []) (search reading depth 20) (omega arith)

  pub farther_least : {r : ℤ} → m -ℤ r ≼ a → b ≼ m +ℤ r → farther a b m ≼ r
  farther_least {r} h k =
      max_≼
      (lin_le (a ∷ m ∷ r ∷ []) (le h ∷ []) (search reading depth 20) (omega arith))
      (lin_le (b ∷ m ∷ r ∷ []) (le k ∷ []) (search reading depth 20) (omega arith))

  -- ---- which bound is the farther one: the lower where m is not below (a + b) / 2, the upper where it is not above
  pub lower_farther : a +ℤ b ≼ m *ℤ pos 2 → farther a b m ≡ m -ℤ a
  lower_farther h =
      let k : b -ℤ m ≼ m -ℤ a = lin_le (a ∷ b ∷ m ∷ []) (le h ∷ []) (search reading depth 20) (omega arith) in
      ≼_antisym (max_≼ (≼_refl (m -ℤ a)) k) (≼_max_l (m -ℤ a) (b -ℤ m))

  pub upper_farther : m *ℤ pos 2 ≼ a +ℤ b → farther a b m ≡ b -ℤ m
  upper_farther h =
      let k : m -ℤ a ≼ b -ℤ m = lin_le (a ∷ b ∷ m ∷ []) (le h ∷ []) (search reading depth 20) (omega arith) in
      ≼_antisym (max_≼ k (≼_refl (b -ℤ m))) (≼_max_r (m -ℤ a) (b -ℤ m))

  -- ---- how far twice m is off a + b
  abbrev excess : ℤ
  excess = pos 2 *ℤ m -ℤ (a +ℤ b)

  pub off_is : off 2 (a +ℤ b) m ≡ nat_abs (pos 2 *ℤ m -ℤ (a +ℤ b))
  off_is =
      let e : m *ℤ pos 2 -ℤ (a +ℤ b) ≡ pos 2 *ℤ m -ℤ (a +ℤ b) = by_ring (a ∷ b ∷ m ∷ []) (search reading depth 20) tt in
      ap nat_abs e

  -- twice the distance is the width and what twice m is off
  pub farther_doubled : pos 2 *ℤ farther a b m ≡ (b -ℤ a) +ℤ abs (pos 2 *ℤ m -ℤ (a +ℤ b))
  farther_doubled = ⊎_elim lower upper (≼_total (pos 0) excess)
    where
      lower : pos 0 ≼ excess → pos 2 *ℤ farther a b m ≡ (b -ℤ a) +ℤ abs excess
      lower n =
          let h : a +ℤ b ≼ m *ℤ pos 2 = lin_le (a ∷ b ∷ m ∷ []) (le n ∷ []) (search reading depth 20) (omega arith) in
          ap (λ z. pos 2 *ℤ z) (lower_farther h) ∙ by_ring (a ∷ b ∷ m ∷ []) (search reading depth 20) tt ∙ ap (λ z. (b -ℤ a) +ℤ z) (sym (abs_nonneg excess n))

      upper : excess ≼ pos 0 → pos 2 *ℤ farther a b m ≡ (b -ℤ a) +ℤ abs excess
      upper n =
          let h : m *ℤ pos 2 ≼ a +ℤ b = lin_le (a ∷ b ∷ m ∷ []) (le n ∷ []) (search reading depth 20) (omega arith) in
          ap (λ z. pos 2 *ℤ z) (upper_farther h) ∙ by_ring (a ∷ b ∷ m ∷ []) (search reading depth 20) tt ∙ ap (λ z. (b -ℤ a) +ℤ z) (sym (abs_nonpos excess n))

-- the nearer midpoint has the smaller distance
pub farther_closer : (a b m n : ℤ) → off 2 (a +ℤ b) m ≤ off 2 (a +ℤ b) n → farther a b m ≼ farther a b n
farther_closer a b m n h =
    let k : abs (excess a b m) ≼ abs (excess a b n) = of_le (omega (arith, h, off_is a b m, off_is a b n)) in
    lin_le (a ∷ b ∷ farther a b m ∷ farther a b n ∷ abs (excess a b m) ∷ abs (excess a b n) ∷ [])
    (le k ∷ eq (farther_doubled a b m) ∷ eq (farther_doubled a b n) ∷ []) (search reading depth 30) (omega arith)

-- a radius that exceeds the distance by at most a P-th
pub radius_tight : (P : ℕ) (a b m r : ℤ) → pos 0 ≼ farther a b m → pos 0 ≼ r → P * nat_abs r ≤ (P + 1) * nat_abs (farther a b m)
    → pos (2 * P) *ℤ r ≼ pos (P + 1) *ℤ ((b -ℤ a) +ℤ abs (pos 2 *ℤ m -ℤ (a +ℤ b)))
radius_tight P a b m r p q h = plain (farther a b m) (b -ℤ a) (abs (excess a b m)) p (farther_doubled a b m) h
  where
    plain : (x w d : ℤ) → pos 0 ≼ x → pos 2 *ℤ x ≡ w +ℤ d → P * nat_abs r ≤ (P + 1) * nat_abs x → pos (2 * P) *ℤ r ≼ pos (P + 1) *ℤ (w +ℤ d)
    plain x w d p e h =
        let h' : pos P *ℤ abs r ≼ pos (P + 1) *ℤ abs x = of_le h in
        lin_le (pos P ∷ x ∷ r ∷ w ∷ d ∷ abs x ∷ abs r ∷ [])
        (le h' ∷ eq (ap (λ z. pos P *ℤ z) (abs_nonneg r q)) ∷ eq (ap (λ z. pos (P + 1) *ℤ z) (abs_nonneg x p)) ∷ eq (ap (λ z. pos (P + 1) *ℤ z) e) ∷ [])
        (search reading depth 40 fits 9999) (omega arith)
