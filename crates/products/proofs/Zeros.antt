-- Factors that are zero: a term of zero leaves a running sum as it is, and where the first factor of a pair is zero the pair's terms are zero.
use mathlib.Core.Path.{◌≡◌, sym, ap, ◌∙◌}
use mathlib.Core.Bool.{false}
use mathlib.Core.List.{[], ◌∷◌}
use mathlib.Core.Option.{Option, some, bind}
use Prim.Native.Nat.{ℕ, ◌+◌, ◌*◌, ◌^◌}
use native.Mathlib.Omega.{arith}
use lib.Dec.{leb, ltb, lit<}
use lib.Pow.{pow_pos}
use lib.IntN.{ℤ, pos, neg_ℤ, ◌+ℤ◌, ◌*ℤ◌, neg_ℤ-neg_ℤ}
use borrow.Author.Tests.{ltb-false, leb-false}
use Rattle.algebra.specs.Absolute.{abs}
use Rattle.algebra.proofs.Linear.{reading, lin_eq}
use Rattle.rounding.specs.Format.{binary32, Num}
use Rattle.rounding.specs.Rounding.{up, down, near, negate}
use Rattle.rounding.proofs.DirectedLaws.{up_exact, down_exact}
use Rattle.rounding.proofs.NearestLaws.{near_exact}
use Rattle.rounding.proofs.Sign.{num_zero, num_neg}
use Rattle.enclosure.specs.Arithmetic.{of}
use Rattle.enclosure.specs.Cell.{Cell}
use Rattle.enclosure.specs.Methods.{mid_term, inner_term, raised_term}
use Rattle.enclosure.specs.Sums.{sum}
use Rattle.binary32.specs.Number.{value_of, Finite, held}
use Rattle.binary32.specs.Operations.{Way}
use Rattle.binary32.specs.Order.{magnitude_of}
use Rattle.unpacked.specs.declared.Number.{Number}
use Rattle.products.specs.declared.centred.Centred.{Centred}
use Rattle.unpacked.specs.Number.{worth, Runs}
use Rattle.products.specs.Centred.{CentredSum}
use Rattle.products.specs.Terms.{adds_of}
use Rattle.products.specs.Derived.{raised_of, factor_of}
use Rattle.unpacked.proofs.Packing.{num_of}
use Rattle.products.proofs.Carrying.{sum_next, mirrored_is}
use Rattle.products.proofs.Or.{or_first, or_second}
use Rattle.unpacked.proofs.CornerTerms.{zero_value, zero_left}
use Rattle.unpacked.proofs.Patterns.{held_is}

-- ---- a sum with zero more is itself
pub plus_zero : (v : ℤ) → v +ℤ pos 0 ≡ v *ℤ pos 1
plus_zero v = lin_eq (v ∷ []) [] (search reading depth 20) (omega arith)

module _ (f : ℕ → Option ℤ) (s : ℤ) (l : ℕ) (e : f l ≡ some (pos 0)) (x : Number) where
  -- by a rounding that keeps numbers
  any_same : (add : ℤ → Option ℤ) → ((v : ℤ) → Num binary32 v → add (v *ℤ pos 1) ≡ some v) → Runs (sum add f s l) x → Runs (sum add f s (l + 1)) x
  unfolding bind
  any_same add keeps R = record {
    is = sum_next add f s l (worth x) (some (pos 0)) R.is e ∙ ap add (plus_zero (worth x)) ∙ keeps (worth x) (num_of x R.number);
    number = R.number;
  }

  down_same : Runs (sum (down binary32 1) f s l) x → Runs (sum (down binary32 1) f s (l + 1)) x
  down_same = any_same (down binary32 1) (λ v n. down_exact binary32 1 (lit< tt) n)

  pub near_same : Runs (sum (near binary32 1) f s l) x → Runs (sum (near binary32 1) f s (l + 1)) x
  near_same = any_same (near binary32 1) (λ v n. near_exact binary32 1 (lit< tt) n)

  -- kept with the other sign
  mirrored_same : (add : ℤ → Option ℤ) → ((v : ℤ) → Num binary32 v → add (v *ℤ pos 1) ≡ some v) → Runs (negate (sum add f s l)) x → Runs (negate (sum add f s (l + 1))) x
  unfolding bind
  mirrored_same add keeps R = record {
    is =
        ap negate
        (sum_next add f s l (neg_ℤ (worth x)) (some (pos 0)) (mirrored_is _ x R) e
        ∙ ap add (plus_zero (neg_ℤ (worth x))) ∙ keeps (neg_ℤ (worth x)) (num_neg (num_of x R.number)))
        ∙ ap some (neg_ℤ-neg_ℤ (worth x));
    number = R.number;
  }

  pub up_same : Runs (negate (sum (up binary32 1) f s l)) x → Runs (negate (sum (up binary32 1) f s (l + 1))) x
  up_same = mirrored_same (up binary32 1) (λ v n. up_exact binary32 1 (lit< tt) n)

  pub near_mirrored_same : Runs (negate (sum (near binary32 1) f s l)) x → Runs (negate (sum (near binary32 1) f s (l + 1))) x
  near_mirrored_same = mirrored_same (near binary32 1) (λ v n. near_exact binary32 1 (lit< tt) n)

-- the three sums of methods 4 and 7
pub centred_same : (f g h : ℕ → Option ℤ) (a b c : ℤ) (l : ℕ) (s : Centred) → f l ≡ some (pos 0) → g l ≡ some (pos 0) → h l ≡ some (pos 0)
    → CentredSum (sum (down binary32 1) f a l) (sum (up binary32 1) g b l) (sum (up binary32 1) h c l) s
    → CentredSum (sum (down binary32 1) f a (l + 1)) (sum (up binary32 1) g b (l + 1)) (sum (up binary32 1) h c (l + 1)) s
centred_same f g h a b c l s e d q S =
    record {
      lower = down_same f a l e s.lower S.lower;
      upper = up_same g b l d s.opposed S.upper;
      radius = up_same h c l q s.radius S.radius;
    }

-- ---- what the tests for zero tell
pub magnitude_zero : (p : ℕ) → ltb 0 (magnitude_of p) ≡ false → magnitude_of p ≡ 0
magnitude_zero p t = let h = ltb-false 0 (magnitude_of p) t in omega arith

pub is_zero : (p : ℕ) → ltb 0 (magnitude_of p) ≡ false → value_of p ≡ pos 0
is_zero p t = zero_value p (magnitude_zero p t)

pub adds_not : (u w : ℕ) → adds_of u w ≡ false → (magnitude_of u ≡ 0) × Finite w
unfolding adds_of
adds_not u w t = (
  magnitude_zero u (or_first (ltb 0 (magnitude_of u)) (leb (255 * 2 ^ 23) (magnitude_of w)) t),
  leb-false (255 * 2 ^ 23) (magnitude_of w) (or_second (ltb 0 (magnitude_of u)) (leb (255 * 2 ^ 23) (magnitude_of w)) t),
)

-- ---- products with zero, rounded
pub down_zero : down binary32 (2 ^ 149) (pos 0) ≡ some (pos 0)
down_zero = down_exact binary32 (2 ^ 149) (pow_pos 149) (num_zero binary32)

pub up_zero : up binary32 (2 ^ 149) (pos 0) ≡ some (pos 0)
up_zero = up_exact binary32 (2 ^ 149) (pow_pos 149) (num_zero binary32)

pub near_zero : near binary32 (2 ^ 149) (pos 0) ≡ some (pos 0)
near_zero = near_exact binary32 (2 ^ 149) (pow_pos 149) (num_zero binary32)

-- zero times what w holds
times_zero : (w : ℕ) (m : Option ℤ) (x : ℤ) → x ≡ pos 0 → Finite w → held w ≡ m → bind m (λ v. up binary32 (2 ^ 149) (x *ℤ v)) ≡ some (pos 0)
unfolding bind
times_zero w m x z f h = ap (λ t. bind t λ v. up binary32 (2 ^ 149) (x *ℤ v)) (sym h ∙ held_is w f) ∙ ap (up binary32 (2 ^ 149)) (zero_left (value_of w) z) ∙ up_zero

-- ---- the terms of a pair
module _ (a b : Cell) where
  -- where the first midpoint is zero
  pub mid_zero : (way : Way) → way binary32 (2 ^ 149) (pos 0) ≡ some (pos 0) → a.mid ≡ pos 0 → mid_term (of binary32) (way binary32) a b ≡ some (pos 0)
  unfolding mid_term
  mid_zero way e z = ap (way binary32 (2 ^ 149)) (zero_left b.mid z) ∙ e

  pub inner_zero : a.mid ≡ pos 0 → inner_term (of binary32) a b ≡ some (pos 0)
  unfolding inner_term
  inner_zero z = ap (up binary32 (2 ^ 149)) (zero_left b.rad (ap abs z)) ∙ up_zero

  -- where the first midpoint is zero, and v holds rB'
  pub raised_zero : (k v : ℕ) → a.mid ≡ pos 0 → Finite v → held v ≡ raised_of (factor_of k) b.mid b.rad → raised_term (of binary32) k a b ≡ some (pos 0)
  unfolding raised_term
  raised_zero k v z f h = times_zero v _ (abs a.mid) (ap abs z) f h
