-- Method 7's p of a cell: it has m's sign, and is no larger than |m| or r. So is 0.
use mathlib.Core.Path.{◌≡◌, ◌∙◌}
use mathlib.Core.List.{[], ◌∷◌}
use mathlib.Core.Logic.{◌⊎◌, inl, inr}
use Prim.Native.Nat.{suc}
use native.Mathlib.Omega.{arith}
use lib.IntN.{ℤ, pos, negsuc, neg_ℤ}
use lib.Signed.{le_z_yes}
use Rattle.algebra.specs.Order.{◌≼◌}
use Rattle.algebra.specs.Absolute.{abs}
use Rattle.algebra.specs.Extremes.{minℤ}
use Rattle.algebra.proofs.Linear.{reading, le, lin_le}
use Rattle.algebra.proofs.Order.{≼_trans, ≼_of_≡, nonneg}
use Rattle.algebra.proofs.Absolute.{abs_neg}
use Rattle.algebra.proofs.Extremes.{min_≼_l, min_≼_r, ≼_min}
use Rattle.enclosure.specs.Methods.{part}
use Rattle.enclosure.proofs.Within.{abs_nonneg}

pub record Part (m r p : ℤ) : Type 0 where
  pub side : ((pos 0 ≼ m) × (pos 0 ≼ p)) ⊎ ((m ≼ pos 0) × (p ≼ pos 0))
  pub within_mid : abs p ≼ abs m
  pub within_rad : abs p ≼ r

pub part_is : (m r : ℤ) → pos 0 ≼ r → Part m r (part m r)
unfolding part
part_is (pos n) r h =
    let t : ℤ = minℤ (pos n) r in
    let z : pos 0 ≼ t = ≼_min (nonneg n) h in
    let e : abs t ≡ t = abs_nonneg t z in
    record { side = inl (nonneg n, z); within_mid = ≼_trans (≼_of_≡ e) (min_≼_l (pos n) r); within_rad = ≼_trans (≼_of_≡ e) (min_≼_r (pos n) r) }
part_is (negsuc n) r h =
    let t : ℤ = minℤ (pos (suc n)) r in
    let z : pos 0 ≼ t = ≼_min (nonneg (suc n)) h in
    let e : abs (neg_ℤ t) ≡ t = abs_neg t ∙ abs_nonneg t z in
    record {
      side = inr (le_z_yes tt, lin_le (t ∷ []) (le z ∷ []) (search reading depth 20) (omega arith));
      within_mid = ≼_trans (≼_of_≡ e) (min_≼_l (pos (suc n)) r);
      within_rad = ≼_trans (≼_of_≡ e) (min_≼_r (pos (suc n)) r);
    }

pub part_zero : (m r : ℤ) → pos 0 ≼ r → Part m r (pos 0)
part_zero (pos n) r h = record { side = inl (nonneg n, nonneg 0); within_mid = nonneg n; within_rad = h }
part_zero (negsuc n) r h = record { side = inr (le_z_yes tt, nonneg 0); within_mid = nonneg (suc n); within_rad = h }
