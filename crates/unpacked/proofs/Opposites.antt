-- The other sign of a number taken apart, and the number without its sign.
use mathlib.Core.Path.{◌≡◌, refl, sym, ap, ◌∙◌, subst}
use mathlib.Core.Bool.{true, false}
use mathlib.Core.List.{[], ◌∷◌}
use mathlib.Core.Option.{Option, none, some, map}
use Prim.Native.Nat.{ℕ, ◌*◌, ◌^◌, ◌≤◌}
use native.Mathlib.Nat.{le_trans, le_of_eq, not-suc-le-zero}
use lib.Dec.{T}
use lib.Signed.{lt_z}
use borrow.Author.Tests.{ltb-true}
use native.Mathlib.Omega.{arith}
use lib.IntN.{ℤ, pos, negsuc, neg_ℤ, nat_abs, ◌*ℤ◌}
use Rattle.algebra.specs.Absolute.{abs}
use Rattle.algebra.specs.Order.{◌≼◌, ◌≺◌}
use Rattle.algebra.proofs.Linear.{reading, eq, lin_eq}
use Rattle.algebra.proofs.Order.{≼_trans, nonneg, not_≺}
use Rattle.rounding.specs.Format.{binary32, MAX}
use Rattle.rounding.specs.Rounding.{negate}
use Rattle.rounding.proofs.Sign.{nat_abs_neg, neg_le_pos}
use Rattle.unpacked.specs.declared.Number.{Number}
use Rattle.binary32.specs.Number.{value_of, Finite}
use Rattle.binary32.specs.Order.{magnitude_of}
use Rattle.unpacked.specs.Number.{worth, Normal, IsNumber, Below, Is, Holds, Unpacked, Opposite, Absolute, Negative}
use Rattle.unpacked.proofs.Worths.{worth_is}
use Rattle.unpacked.proofs.Packing.{same_sign}
use Rattle.unpacked.proofs.Patterns.{held_is, held_magnitude}

pub opposite_is : (x : Number) (z : ℤ) → Normal x → z ≡ neg_ℤ x.sig → Opposite x (record { sig = z; exp = x.exp })
opposite_is x z n e = record {
  normal = record {
    whole = value ∙ ap (λ t. t *ℤ pos (2 ^ 400)) (sym w);
    few = omega (arith, size, n.few);
    full = λ l. omega (arith, size, n.full (omega (arith, size)));
    low = λ h. n.low (omega (arith, size));
  };
  worths = w;
  same = refl;
}
  where
    size : nat_abs z ≡ nat_abs x.sig
    size = ap nat_abs e ∙ nat_abs_neg x.sig

    value : z *ℤ pos (2 ^ x.exp) ≡ neg_ℤ (worth x) *ℤ pos (2 ^ 400)
    value = go x.sig (worth x) (2 ^ x.exp) (2 ^ 400) n.whole e
      where
        go : (s v : ℤ) (m K : ℕ) → s *ℤ pos m ≡ v *ℤ pos K → z ≡ neg_ℤ s → z *ℤ pos m ≡ neg_ℤ v *ℤ pos K
        go s v m K h i = lin_eq (z ∷ s ∷ v ∷ pos m ∷ pos K ∷ []) (eq h ∷ eq (ap (λ t. t *ℤ pos m) i) ∷ []) (search reading depth 20) (omega arith)

    w : worth (record { sig = z; exp = x.exp }) ≡ neg_ℤ (worth x)
    w = worth_is (record { sig = z; exp = x.exp }) (neg_ℤ (worth x)) value

pub opposite_number : {x r : Number} → IsNumber x → Opposite x r → IsNumber r
opposite_number {x} n o = record { normal = o.normal; within = le_trans (le_of_eq (ap nat_abs o.worths ∙ nat_abs_neg (worth x))) n.within }

-- ---- without the sign
module _ (x : Number) (n : Normal x) where
  pub absolute_below : (r : Number) → lt_z x.sig (pos 0) ≡ true → Opposite x r → Absolute x r
  absolute_below r t o = record { normal = o.normal; worths = o.worths ∙ go (worth x) (sym (same_sign x n) ∙ t); same = o.same }
    where
      go : (v : ℤ) → lt_z v (pos 0) ≡ true → neg_ℤ v ≡ abs v
      go (pos a) e = absurd (not-suc-le-zero (ltb-true a 0 e))
      go (negsuc a) e = refl

  pub absolute_above : lt_z x.sig (pos 0) ≡ false → Absolute x x
  absolute_above t = record { normal = n; worths = go (worth x) (sym (same_sign x n) ∙ t); same = refl }
    where
      go : (v : ℤ) → lt_z v (pos 0) ≡ false → v ≡ abs v
      go (pos a) e = refl
      go (negsuc a) e = absurd (subst T e tt)

  -- with a minus sign
  pub negative_below : lt_z x.sig (pos 0) ≡ true → Negative x x
  negative_below t = record { normal = n; worths = go (worth x) (sym (same_sign x n) ∙ t); same = refl }
    where
      go : (v : ℤ) → lt_z v (pos 0) ≡ true → v ≡ neg_ℤ (abs v)
      go (pos a) e = absurd (not-suc-le-zero (ltb-true a 0 e))
      go (negsuc a) e = refl

  pub negative_above : (r : Number) → lt_z x.sig (pos 0) ≡ false → Opposite x r → Negative x r
  negative_above r t o = record { normal = o.normal; worths = o.worths ∙ ap neg_ℤ (absolute_above t).worths; same = o.same }

pub negative_under : (x r : Number) → Negative x r → Below r
negative_under x r g = subst (λ t. t ≼ pos 0) (sym g.worths) (neg_le_pos (nat_abs (worth x)) 0)

-- of a number or none: none is negative
pub negative_holds : (m : Option ℤ) (x r : Number) → Holds m x → Negative x r → Holds (negate (map abs m)) r
negative_holds m x r h g = record { part = record { normal = g.normal; high = subst (λ e. e ≤ 2000) (sym g.same) h.part.high }; is = go m h.is }
  where
    below : (v : ℤ) → v ≺ neg_ℤ (pos (3 * MAX binary32)) → neg_ℤ (abs v) ≡ v
    below (pos a) l = absurd (not_≺ (≼_trans (neg_le_pos (3 * MAX binary32) 0) (nonneg a)) l)
    below (negsuc a) l = refl

    go : (m : Option ℤ) → Is m x → Is (negate (map abs m)) r
    go (some v) i = (g.worths ∙ ap (λ t. neg_ℤ (abs t)) i.0, subst (λ n. n ≤ MAX binary32) (sym (nat_abs_neg (abs v))) i.1)
    go none i = (subst (λ t. t ≺ neg_ℤ (pos (3 * MAX binary32))) (sym (g.worths ∙ below (worth x) i.0)) i.0, subst (λ e. 1500 ≤ e) (sym g.same) i.1)

-- what a pattern holds, without the sign
pub absolute_unpacked : (p : ℕ) (x r : Number) → Finite p → Unpacked p x → Absolute x r → Unpacked (magnitude_of p) r
absolute_unpacked p x r f u a = subst (λ m. Holds m r) (sym (held_magnitude p (held_is p f))) (record {
  part = record { normal = a.normal; high = subst (λ e. e ≤ 2000) (sym a.same) u.part.high };
  is = (a.worths ∙ ap abs h.is.0, h.is.1);
})
  where
    h : Holds (some (value_of p)) x
    h = subst (λ m. Holds m x) (held_is p f) u
