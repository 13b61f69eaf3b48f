-- Values of patterns: a magnitude has the absolute value, the lesser of two the lesser value, the other sign the negated one.
use mathlib.Core.Path.{◌≡◌, refl, sym, ap, ap₂, ◌∙◌}
use mathlib.Core.Bool.{Bool, true, false, cond}
use mathlib.Core.Option.{none, some, none-ne-some, some-injective}
use Prim.Native.Nat.{ℕ, ◌*◌, ◌%◌, ◌^◌, ◌≤◌, ◌<◌}
use native.Mathlib.Omega.{arith}
use native.Mathlib.Nat.{mod-eq_of_lt}
use lib.Dec.{leb, ltb}
use lib.IntN.{ℤ, pos, neg_ℤ}
use lib.Signed.{le_z}
use borrow.Author.Tests.{lt-leb, le-leb}
use Rattle.algebra.specs.Order.{◌≼◌}
use Rattle.algebra.specs.Absolute.{abs}
use Rattle.algebra.specs.Extremes.{minℤ}
use Rattle.algebra.proofs.Absolute.{abs_neg}
use Rattle.algebra.proofs.Extremes.{min_split}
use Rattle.algebra.proofs.Order.{≼_antisym}
use Rattle.rounding.specs.Format.{binary32}
use Rattle.rounding.specs.Pattern.{val}
use Rattle.binary32.specs.Number.{signed_by, value_of, finite, Finite, held, negated}
use Rattle.binary32.specs.Order.{magnitude_of, least_of}
use Rattle.binary32.proofs.Held.{is_finite, held_finite}
use Rattle.binary32.proofs.Negation.{negated_value, negated_finite}

-- ---- what a pattern holds

pub held_is : (p : ℕ) → Finite p → held p ≡ some (value_of p)
held_is p h = held_finite p (is_finite p h)

-- a pattern with the same test and the value f of the first one's holds f of what that holds
held_by : (f : ℤ → ℤ) (p q : ℕ) {v : ℤ} → finite q ≡ finite p → value_of q ≡ f (value_of p) → held p ≡ some v → held q ≡ some (f v)
unfolding held
held_by f p q {v} t u e = ap₂ (λ s w. cond s (some w) none) t u ∙ go (finite p) e
  where
    go : (s : Bool) → cond s (some (value_of p)) none ≡ some v → cond s (some (f (value_of p))) none ≡ some (f v)
    go true e = ap (λ w. some (f w)) (some-injective (value_of p) v e)
    go false e = absurd (none-ne-some v e)

-- ---- magnitudes

abs_signed : (t : Bool) (n : ℕ) → abs (signed_by t n) ≡ pos n
abs_signed true n = abs_neg (pos n)
abs_signed false n = refl

mod_low : (p : ℕ) → p % 2 ^ 31 < 2 ^ 31
mod_low p = omega arith

pub low_value : (p : ℕ) → p < 2 ^ 31 → value_of p ≡ pos (val binary32 (p % 2 ^ 31))
unfolding value_of
low_value p h = ap (λ t. signed_by t (val binary32 (p % 2 ^ 31))) (lt-leb (2 ^ 31) p h)

pub high_value : (p : ℕ) → 2 ^ 31 ≤ p → value_of p ≡ neg_ℤ (pos (val binary32 (p % 2 ^ 31)))
unfolding value_of
high_value p h = ap (λ t. signed_by t (val binary32 (p % 2 ^ 31))) (le-leb (2 ^ 31) p h)

pub magnitude_value : (p : ℕ) → value_of (magnitude_of p) ≡ abs (value_of p)
unfolding value_of
magnitude_value p =
    low_value (p % 2 ^ 31) (mod_low p) ∙ ap (λ n. pos (val binary32 n)) (mod-eq_of_lt (mod_low p)) ∙ sym (abs_signed (leb (2 ^ 31) p) (val binary32 (p % 2 ^ 31)))

pub magnitude_test : (p : ℕ) → finite (magnitude_of p) ≡ finite p
magnitude_test p = ap (λ n. ltb n (255 * 2 ^ 23)) (mod-eq_of_lt (mod_low p))

pub magnitude_finite : (p : ℕ) → Finite p → Finite (magnitude_of p)
magnitude_finite p h = omega arith

pub held_magnitude : (p : ℕ) {v : ℤ} → held p ≡ some v → held (magnitude_of p) ≡ some (abs v)
held_magnitude p = held_by abs p (magnitude_of p) (magnitude_test p) (magnitude_value p)

pub held_negated : (p : ℕ) {v : ℤ} → p < 2 ^ 32 → held p ≡ some v → held (negated p) ≡ some (neg_ℤ v)
held_negated p l = held_by neg_ℤ p (negated p) (negated_finite p l) (negated_value p l)

-- ---- the lesser

pub held_least : (a b : ℕ) → Finite a → Finite b → held (least_of a b) ≡ some (minℤ (value_of a) (value_of b))
unfolding least_of minℤ
held_least a b f g = go (le_z (value_of a) (value_of b))
  where
    go : (t : Bool) → held (cond t a b) ≡ some (cond t (value_of a) (value_of b))
    go true = held_is a f
    go false = held_is b g

pub min_zero : (r : ℤ) → pos 0 ≼ r → minℤ (pos 0) r ≡ pos 0
min_zero r h = min_split (pos 0) r (λ k e. e) (λ k e. e ∙ ≼_antisym k h)
