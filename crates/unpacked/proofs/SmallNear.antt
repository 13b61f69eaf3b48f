-- A product below 2 ^ 24 units is rounded to nearest to a whole number of units, which is a number.
use mathlib.Core.Path.{◌≡◌, sym, ap, ◌∙◌, subst}
use mathlib.Core.Bool.{cond}
use mathlib.Core.Option.{none, some}
use Prim.Native.Nat.{ℕ, ◌+◌, ◌-◌, ◌*◌, ◌^◌, ◌≤◌, ◌<◌, min}
use native.Mathlib.Omega.{arith, min_cases}
use native.Mathlib.Nat.{le_trans}
use lib.Pow.{pow_pos, pow_mono}
use lib.IntN.{ℤ, nat_abs}
use lib.Ieee.Nearest.{closest}
use borrow.Author.Tests.{le-leb}
use Rattle.rounding.specs.Format.{binary32, MAX}
use Rattle.rounding.specs.Rounding.{near, signed}
use Rattle.unpacked.specs.declared.Number.{Number}
use Rattle.unpacked.specs.declared.Product.{Product}
use Rattle.unpacked.specs.Number.{Holds}
use Rattle.unpacked.specs.Cuts.{limited_near, nearest_of}
use Rattle.unpacked.specs.Exact.{Exact}
use Rattle.unpacked.proofs.Multiplying.{near_exact_product}
use Rattle.unpacked.proofs.Quotients.{closest_about, nearest_few, signed_abs}
use Rattle.unpacked.proofs.Nearing.{near_narrow}
use Rattle.unpacked.proofs.Worths.{few_max}

-- ---- a shift past all digits is as good as one by 61
far_closest : (n m : ℕ) → n + n < m → closest n m ≡ 0
far_closest n m h = closest_about n m 0 (omega arith) (omega arith)

near_capped : (t : ℤ) (d : ℕ) → nat_abs t ≤ 2 ^ 48 → nearest_of t (2 ^ min d 61) ≡ nearest_of t (2 ^ d)
near_capped t d h = min_cases d 61 (nearest_of t (2 ^ min d 61) ≡ nearest_of t (2 ^ d))
    (λ l e. ap (λ n. nearest_of t (2 ^ n)) e)
    (λ l e. ap (λ n. nearest_of t (2 ^ n)) e
    ∙ ap (signed t) (far_closest (nat_abs t) (2 ^ 61) (omega arith) ∙ sym (far_closest (nat_abs t) (2 ^ d) (omega (arith, pow_mono {i = 61} {j = d} l)))))

module _ (p : Product) (few : nat_abs p.sig ≤ 2 ^ 48) (low : p.exp < 926) where
  -- how far down the units are
  abbrev n : ℕ
  n = 950 - p.exp

  abbrev pub nearest_units : ℤ
  nearest_units = nearest_of p.sig (2 ^ min n 61)

  below : nat_abs p.sig < 2 ^ 24 * 2 ^ n
  below = omega (arith, few, pow_mono {i = 25} {j = n} (omega arith))

  same : nearest_units ≡ nearest_of p.sig (2 ^ n)
  same = near_capped p.sig n few

  pub small_near_few : nat_abs nearest_units ≤ 2 ^ 24
  small_near_few = subst (λ t. nat_abs t ≤ 2 ^ 24) (sym same)
      (subst (λ t. t ≤ 2 ^ 24) (sym (signed_abs p.sig (closest (nat_abs p.sig) (2 ^ n)))) (nearest_few (nat_abs p.sig) (2 ^ n) (pow_pos n) (omega (arith, below))))

  pub small_near_holds : (X : ℤ) → Exact X p → (r : Number) → Holds (some nearest_units) r → Holds (near binary32 (2 ^ 149) X) r
  small_near_holds X i r =
      subst (λ m. Holds m r) (sym (near_exact_product i ∙ near_narrow n 950 p.sig p.exp below (omega arith) ∙ ap limited_near (sym same)
      ∙ ap (λ t. cond t (some nearest_units) none) (le-leb (nat_abs nearest_units) (MAX binary32) (le_trans small_near_few few_max))))
