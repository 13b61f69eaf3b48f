-- What a step adds to the running sums of methods 3, 4, 5 and 7: the rounded products of patterns are the terms of cells with a midpoint and a radius.
use mathlib.Core.Path.{◌≡◌, sym, ap₂}
use mathlib.Core.Option.{Option, some, bind}
use Prim.Native.Nat.{ℕ}
use lib.IntN.{ℤ, pos}
use Rattle.algebra.specs.Order.{◌≼◌}
use Rattle.algebra.specs.Absolute.{abs}
use Rattle.algebra.proofs.Order.{nonneg}
use Rattle.rounding.specs.Format.{binary32}
use Rattle.rounding.specs.Rounding.{up, down, negate}
use Rattle.enclosure.specs.Arithmetic.{of}
use Rattle.enclosure.specs.Cell.{Cell}
use Rattle.enclosure.specs.Methods.{part, mid_term, inner_term, outer_term, largest_term, raised_term, part_term, shared_term}
use Rattle.binary32.specs.Number.{value_of, Finite, held}
use Rattle.binary32.specs.Operations.{Way, mul, with₂}
use Rattle.binary32.specs.Order.{magnitude_of}
use Rattle.products.specs.Derived.{outer_of, raised_of, factor_of, part_of}
use Rattle.unpacked.proofs.Patterns.{held_is, held_magnitude}
use Rattle.products.proofs.Radii.{held_size, outer_above, raised_above}

-- ---- products of what two patterns hold

pub with_held : (op : ℤ → ℤ → Option ℤ) (p q : ℕ) (m n : Option ℤ) → held p ≡ m → held q ≡ n → with₂ op p q ≡ bind m λ x. bind n λ y. op x y
unfolding with₂
with_held op p q m n e f = ap₂ (λ u v. bind u λ x. bind v λ y. op x y) e f

-- ---- the terms, of cells given by their patterns

abbrev pub cell : ℕ → ℕ → Cell
cell m r = record { low = pos 0; high = pos 0; mid = value_of m; rad = value_of r }

module _ (ma ra mb rb : ℕ) where
  pub mid_is : (way : Way) → Finite ma → Finite mb → mid_term (of binary32) (way binary32) (cell ma ra) (cell mb rb) ≡ with₂ (mul way) ma mb
  unfolding mid_term bind
  mid_is way f g = sym (with_held (mul way) ma mb (some (value_of ma)) (some (value_of mb)) (held_is ma f) (held_is mb g))

  pub inner_is : Finite ma → Finite rb → pos 0 ≼ value_of rb → inner_term (of binary32) (cell ma ra) (cell mb rb) ≡ with₂ (mul up) (magnitude_of ma) (magnitude_of rb)
  unfolding inner_term bind
  inner_is f g h =
      sym (with_held (mul up) (magnitude_of ma) (magnitude_of rb) (some (abs (value_of ma))) (some (value_of rb)) (held_magnitude ma (held_is ma f)) (held_size rb _ (held_is rb g) h))

  -- w holds |mB| + rB
  pub outer_is : (w : ℕ) → Finite ra → pos 0 ≼ value_of ra → pos 0 ≼ value_of rb → held w ≡ outer_of (value_of mb) (value_of rb)
      → outer_term (of binary32) (cell ma ra) (cell mb rb) ≡ with₂ (mul up) (magnitude_of ra) (magnitude_of w)
  unfolding outer_term bind
  outer_is w f h k e =
      sym (with_held (mul up) (magnitude_of ra) (magnitude_of w) (some (value_of ra)) (outer_of (value_of mb) (value_of rb)) (held_size ra _ (held_is ra f) h) (held_size w _ e (outer_above (value_of mb) (value_of rb) k)))

  -- v and w hold |mA| + rA and |mB| + rB
  pub largest_is : (v w : ℕ) → pos 0 ≼ value_of ra → pos 0 ≼ value_of rb → held v ≡ outer_of (value_of ma) (value_of ra) → held w ≡ outer_of (value_of mb) (value_of rb)
      → with₂ (mul up) (magnitude_of v) (magnitude_of w) ≡ largest_term (of binary32) (cell ma ra) (cell mb rb)
  unfolding largest_term
  largest_is v w h k d e =
      with_held (mul up) (magnitude_of v) (magnitude_of w) (outer_of (value_of ma) (value_of ra)) (outer_of (value_of mb) (value_of rb)) (held_size v _ d (outer_above (value_of ma) (value_of ra) h)) (held_size w _ e (outer_above (value_of mb) (value_of rb) k))

  -- v holds rB'
  pub raised_is : (k v : ℕ) → Finite ma → pos 0 ≼ value_of rb → held v ≡ raised_of (factor_of k) (value_of mb) (value_of rb)
      → raised_term (of binary32) k (cell ma ra) (cell mb rb) ≡ with₂ (mul up) (magnitude_of ma) (magnitude_of v)
  unfolding raised_term bind
  raised_is k v f h e =
      sym (with_held (mul up) (magnitude_of ma) (magnitude_of v) (some (abs (value_of ma))) (raised_of (factor_of k) (value_of mb) (value_of rb)) (held_magnitude ma (held_is ma f)) (held_size v _ e (raised_above (factor_of k) (value_of mb) (value_of rb) (nonneg _) h)))

  -- p and q hold the parts of the two cells
  pub part_is : (way : Way) (p q : ℕ) → held p ≡ part_of (value_of ma) (value_of ra) → held q ≡ part_of (value_of mb) (value_of rb)
      → part_term (of binary32) (way binary32) (cell ma ra) (cell mb rb) ≡ with₂ (mul way) p q
  unfolding part_term bind
  part_is way p q e f = sym (with_held (mul way) p q (part_of (value_of ma) (value_of ra)) (part_of (value_of mb) (value_of rb)) e f)

  pub shared_is : (p q : ℕ) → held p ≡ part_of (value_of ma) (value_of ra) → held q ≡ part_of (value_of mb) (value_of rb)
      → with₂ (mul down) (magnitude_of p) (magnitude_of q) ≡ negate (shared_term (of binary32) (cell ma ra) (cell mb rb))
  unfolding shared_term bind down
  shared_is p q e f =
      with_held (mul down) (magnitude_of p) (magnitude_of q) (some (abs (part (value_of ma) (value_of ra)))) (some (abs (part (value_of mb) (value_of rb)))) (held_magnitude p e) (held_magnitude q f)
