-- What the code of `cut` and `cut_negative` found.
use mathlib.Core.Path.{◌≡◌, refl, sym, ap, ◌∙◌}
use Prim.Native.Nat.{ℕ, zero, suc, ◌+◌, ◌-◌, ◌*◌, ◌^◌, ◌≤◌, ◌<◌}
use native.Mathlib.Omega.{arith}
use lib.Pow.{pow_pos}
use lib.Count.{count_leading_zeros}
use lib.IntN.{ℤ, pos, negsuc, nat_abs, ◌*ℤ◌}
use lib.Signed.{mag}
use Rattle.unpacked.specs.Cuts.{room, nearest_of, CutNear, OrLow, Filled}
use Rattle.unpacked.proofs.Leading.{Lead, wide_abs}
use Rattle.unpacked.proofs.Quotients.{nearest_scale}

pub room_is : (w : ℤ) (m : ℕ) → m ≡ mag w → count_leading_zeros 64 (m * 4 + 3) ≡ room w
unfolding room
room_is w m e = ap (λ (n : ℕ). count_leading_zeros 64 (n * 4 + 3)) e

-- of `cut` to nearest
wide_long : (w : ℤ) (z : ℕ) → Lead (mag w) z → 0 < nat_abs w → 2 ^ 61 ≤ nat_abs w * 2 ^ z
wide_long (pos n) z l p = l.lower p
wide_long (negsuc n) z l p = go n l.lower l.lone
  where
    go : (n : ℕ) → (0 < n → 2 ^ 61 ≤ n * 2 ^ z) → (n ≡ 0 → z ≡ 62) → 2 ^ 61 ≤ suc n * 2 ^ z
    go zero a b = omega (arith, ap (λ x. 2 ^ x) (b refl))
    go (suc n) a b = omega (arith, a (omega arith), pow_pos z)

pub near_cut_found : (w : ℤ) (exp z : ℕ) (v c : ℤ) (e : ℕ) → Lead (mag w) z → 64 ≤ exp → v ≡ w *ℤ pos (2 ^ z) → c ≡ nearest_of v (2 ^ 38) → OrLow w (exp + 2 - z) e
    → CutNear w exp (record { sig = c; exp = e })
near_cut_found w exp z v c e l h ev ec o = record {
  places = z;
  most = wide_abs w z l;
  least = wide_long w z l;
  sigs = ec ∙ ap (λ (t : ℤ). nearest_of t (2 ^ 38)) ev;
  none = o.none;
  some = λ p. omega (arith, o.some p, l.low);
}

-- of `cut_negative` to nearest, with a carry and without
module _ (w : ℤ) (exp : ℕ) (f : Filled w exp) (c : ℤ) where
  pub near_carry_found : 2 ^ 60 < nat_abs w → c ≡ nearest_of w (2 ^ 37) → CutNear w exp (record { sig = c; exp = exp + 1 })
  near_carry_found h e = record {
    places = 1;
    most = omega (arith, f.few);
    least = λ p. omega arith;
    sigs = e ∙ sym (nearest_scale w 2 (2 ^ 37) (omega arith) (pow_pos 37));
    none = λ z. absurd (no (ap nat_abs z));
    some = λ p. omega arith;
  }
    where
      no : nat_abs w ≡ 0 → ⊥
      no z = omega arith

  pub near_plain_found : nat_abs w ≤ 2 ^ 60 → c ≡ nearest_of w (2 ^ 36) → CutNear w exp (record { sig = c; exp = exp })
  near_plain_found h e = record {
    places = 2;
    most = omega arith;
    least = λ p. omega (arith, f.full p);
    sigs = e ∙ sym (nearest_scale w 4 (2 ^ 36) (omega arith) (pow_pos 36));
    none = λ z. f.low (ap nat_abs z);
    some = λ p. refl;
  }
