-- The running sums of method 5's centre taken apart: a step makes sums of one pair more of them, a pair with a zero factor is passed over,
-- and a sum that was refused stays refused.
use mathlib.Core.Path.{◌≡◌, refl, sym, ap, ◌∙◌, subst}
use Rattle.std.specs.Prelude.{Some, None}
use mathlib.Core.Logic.{inl, inr}
use mathlib.Core.Option.{Option, none, some, map}
use Prim.Native.Nat.{ℕ, ◌+◌, ◌^◌, ◌≤◌, ◌<◌}
use lib.Dec.{lit<}
use lib.IntN.{ℤ, pos, neg_ℤ, ◌*ℤ◌, neg_ℤ-neg_ℤ}
use Rattle.algebra.specs.Absolute.{abs}
use Rattle.algebra.specs.Order.{◌≼◌}
use Rattle.algebra.proofs.Absolute.{abs_mul, abs_neg}
use Rattle.algebra.proofs.Order.{neg_mono}
use Rattle.rounding.specs.Format.{binary32}
use Rattle.rounding.specs.Rounding.{near, negate}
use Rattle.rounding.proofs.Nearest.{near_odd}
use Rattle.rounding.proofs.NearestLaws.{near_abs}
use Rattle.enclosure.specs.Sums.{sum}
use Rattle.binary32.specs.Number.{value_of, Finite}
use Rattle.binary32.specs.Operations.{mul}
use Rattle.unpacked.specs.declared.Number.{Number}
use Rattle.unpacked.specs.declared.Product.{Product}
use Rattle.unpacked.specs.Exact.{Exact, ProductIs}
use Rattle.unpacked.specs.Number.{worth, IsNumber, Below, Holds, Unpacked, no_number}
use Rattle.unpacked.proofs.CornerTerms.{zero_left}
use Rattle.unpacked.proofs.ExactProducts.{exact_worths}
use Rattle.unpacked.proofs.Multiplying.{held_number}
use Rattle.unpacked.proofs.Patterns.{held_is}
use Rattle.products.specs.declared.centre_size.CentreSize.{CentreSize}
use Rattle.products.specs.CentreSize.{Pairs, number, pattern, centre_from, size_from, plus_near, minus_size, SizedStep, SizedSum, SizedNone, SizedAll}
use Rattle.products.proofs.Carrying.{number_runs, no_holds, runs_holds, holds_none, negate_none, any_more, near_more, sum_stays}
use Rattle.products.proofs.Pairs.{none_worth}
use Rattle.products.proofs.Radii.{NotBelow, NotAbove, abs_same, abs_above, negate_above, holds_below, plus_under}
use Rattle.products.proofs.Zeros.{near_same, near_mirrored_same, near_zero}

-- ---- one product
pub finite_number : (y : ℕ) (v : Number) → Finite y → Unpacked y v → IsNumber v × (worth v ≡ value_of y)
finite_number y v g b = held_number (value_of y) v (subst (λ m. Holds m v) (held_is y g) b)

pub exact_product : (u : Number) (y : ℕ) (v : Number) (p : Product) → IsNumber u → Finite y → Unpacked y v → ProductIs u v p → Exact (worth u *ℤ value_of y) p
exact_product u y v p n g b i =
    let o = finite_number y v g b in
    subst (λ w. Exact (worth u *ℤ w) p) o.1 (exact_worths u v p n o.0 i)

-- the magnitude of a product to nearest is the product of the magnitudes
pub minus_size_is : (x y : ℤ) → negate (map abs (mul near x y)) ≡ minus_size x y
minus_size_is x y = ap negate (sym (near_abs binary32 (2 ^ 149) (x *ℤ y)) ∙ ap (near binary32 (2 ^ 149)) (abs_mul x y))

-- ---- G, kept negated, stays not above zero
sizes_above : (m : Option ℤ) → NotBelow (map abs m)
sizes_above none = tt
sizes_above (some v) = abs_above v

near_under : (X : ℤ) → X ≼ pos 0 → NotAbove (near binary32 1 X)
near_under X h = subst NotAbove (sym turn) (negate_above (map abs (near binary32 1 X)) (sizes_above (near binary32 1 X)))
  where
    size : abs X ≡ neg_ℤ X
    size = sym (abs_neg X) ∙ abs_same (neg_ℤ X) (neg_mono h)

    turn : near binary32 1 X ≡ negate (map abs (near binary32 1 X))
    turn = ap (near binary32 1) (sym (neg_ℤ-neg_ℤ X)) ∙ near_odd binary32 1 (lit< tt) (neg_ℤ X) ∙ ap negate (ap (near binary32 1) (sym size) ∙ near_abs binary32 1 X)

pub size_under : (s : Number) (x y : ℤ) (r : Number) → Below s → Holds (plus_near (worth s) (minus_size x y)) r → Below r
size_under s x y r b h =
    let k : NotAbove (minus_size x y) = subst NotAbove (minus_size_is x y) (negate_above (map abs (mul near x y)) (sizes_above (mul near x y))) in
    holds_below _ r h (plus_under (near binary32 1) near_under (worth s) (minus_size x y) b k)

module _ (p : Pairs) where
  -- ---- the start
  pub sized_start : (s : CentreSize) → SizedSum p s 0 s
  unfolding centre_from size_from sum
  sized_start s = record { centre = record { is = refl; number = s.centre_number }; size = record { is = ap some (neg_ℤ-neg_ℤ (worth s.size)); number = s.size_number }; below = s.below }

  -- after any pairs both sums are numbers, and G, kept negated, is not above zero
  pub sized_numbers : (s : CentreSize) (l : ℕ) (r : CentreSize) → SizedSum p s l r → IsNumber r.centre × IsNumber r.size × Below r.size
  sized_numbers s l r S = (S.centre.number, S.size.number, S.below)

  -- ---- after a step
  module _ (s : CentreSize) (l : ℕ) (r : CentreSize) (S : SizedSum p s l r) where
    centre_next : (t : Number) → Holds (plus_near (worth r.centre) (mul near (worth (number p l)) (value_of (pattern p l)))) t → Holds (centre_from p (worth s.centre) (l + 1)) t
    unfolding centre_from
    centre_next t A = any_more _ _ (near binary32 1) l r.centre t _ S.centre refl A

    size_next : (t : Number) → Holds (plus_near (worth r.size) (minus_size (worth (number p l)) (value_of (pattern p l)))) t → Holds (negate (size_from p (neg_ℤ (worth s.size)) (l + 1))) t
    unfolding size_from
    size_next t A = near_more _ _ l r.size t _ S.size refl A

    pub sized_more : (t : CentreSize) → SizedStep r (worth (number p l)) (value_of (pattern p l)) (Some t) → SizedSum p s (l + 1) t
    sized_more t A = record {
      centre = number_runs t.centre_number (centre_next t.centre (runs_holds A.0));
      size = number_runs t.size_number (size_next t.size (runs_holds A.1));
      below = t.below;
    }

    pub sized_none : l < p.k → SizedStep r (worth (number p l)) (value_of (pattern p l)) None → SizedNone p s p.k
    unfolding centre_from size_from
    sized_none m (inl e) = inl (sum_stays (near binary32 1) _ _ l p.k m (holds_none _ no_number (centre_next no_number (no_holds e)) refl))
    sized_none m (inr e) = inr (sum_stays (near binary32 1) _ _ l p.k m (negate_none _ (holds_none _ no_number (size_next no_number (no_holds e)) refl)))

  -- ---- where the first factor is zero, which alone has the exponent 64
  pub sized_skip : (s : CentreSize) (l : ℕ) (r : CentreSize) → SizedSum p s l r → IsNumber (number p l) → (number p l).exp ≤ 64 → SizedSum p s (l + 1) r
  unfolding centre_from size_from
  sized_skip s l r S n e =
      let z = none_worth (number p l) n e in
      let y = value_of (pattern p l) in
      record {
        centre = near_same _ _ l (ap (near binary32 (2 ^ 149)) (zero_left y z) ∙ near_zero) r.centre S.centre;
        size = near_mirrored_same _ _ l (ap (near binary32 (2 ^ 149)) (zero_left (abs y) (ap abs z)) ∙ near_zero) r.size S.size;
        below = S.below;
      }

  -- ---- after all pairs
  pub sized_whole : (s : CentreSize) (l : ℕ) (r : CentreSize) → l ≡ p.k → SizedSum p s l r → SizedAll p s (Some r)
  sized_whole s l r e S = subst (λ n. SizedSum p s n r) e S
