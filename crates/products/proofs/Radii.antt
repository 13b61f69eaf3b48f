-- Radii kept with the other sign: products of magnitudes are not below zero, and so a radius with one more stays not above zero.
use mathlib.Core.Path.{◌≡◌, refl, sym, ap, ap₂, ◌∙◌, subst}
use mathlib.Core.Bool.{Bool, true, false, cond}
use mathlib.Core.List.{[], ◌∷◌}
use mathlib.Core.Option.{Option, none, some, bind}
use Prim.Native.Nat.{ℕ, ◌^◌, ◌<◌}
use native.Mathlib.Omega.{arith}
use lib.Dec.{lit<}
use lib.Pow.{pow_pos}
use lib.IntN.{ℤ, pos, negsuc, ◌+ℤ◌, ◌*ℤ◌}
use lib.Signed.{lt_z_yes}
use Rattle.algebra.specs.Absolute.{abs}
use Rattle.algebra.specs.Order.{◌≼◌}
use Rattle.algebra.proofs.Linear.{reading, le, lt, lin_le}
use Rattle.algebra.proofs.Order.{not_≺, nonneg, ◌⊠◌}
use Rattle.rounding.specs.Format.{binary32, MAX}
use Rattle.rounding.specs.Rounding.{up, down, negate}
use Rattle.rounding.specs.Property.{UpTo, DownTo}
use Rattle.rounding.proofs.Directed.{up_to, down_to}
use Rattle.rounding.proofs.DirectedLaws.{up_nonneg}
use Rattle.enclosure.specs.Methods.{outer_radius, raised_radius}
use Rattle.binary32.specs.Number.{value_of, finite, held}
use Rattle.binary32.specs.Operations.{mul, with₂}
use Rattle.binary32.specs.Order.{magnitude_of}
use Rattle.unpacked.specs.declared.Number.{Number}
use Rattle.unpacked.specs.Number.{worth, Below, Holds}
use Rattle.products.specs.Running.{plus_down}
use Rattle.products.specs.Centred.{Grown}
use Rattle.products.specs.Derived.{outer_of, raised_of}
use Rattle.unpacked.proofs.Patterns.{magnitude_value, magnitude_test}

-- ---- partial results that are not below zero, and not above
abbrev pub NotBelow : Option ℤ → Type 0
NotBelow none = Unit {0}
NotBelow (some v) = pos 0 ≼ v

abbrev pub NotAbove : Option ℤ → Type 0
NotAbove none = Unit {0}
NotAbove (some v) = v ≼ pos 0

pub negate_above : (m : Option ℤ) → NotBelow m → NotAbove (negate m)
negate_above none h = tt
negate_above (some v) h = lin_le (v ∷ []) (le h ∷ []) (search reading depth 20) (omega arith)

up_above : (D : ℕ) → 0 < D → (X : ℤ) → pos 0 ≼ X → NotBelow (up binary32 D X)
up_above D d X h = go (up binary32 D X) (up_to binary32 D d X)
  where
    go : (m : Option ℤ) → UpTo binary32 D X m → NotBelow m
    go none u = tt
    go (some v) u = up_nonneg binary32 D d u h

down_under : (X : ℤ) → X ≼ pos 0 → NotAbove (down binary32 1 X)
down_under X h = go (down binary32 1 X) (down_to binary32 1 (lit< tt) X)
  where
    go : (m : Option ℤ) → DownTo binary32 1 X m → NotAbove m
    go none u = tt
    go (some v) u = lin_le (X ∷ v ∷ []) (le u.below ∷ le h ∷ []) (search reading depth 20) (omega arith)

-- ---- magnitudes
pub abs_above : (v : ℤ) → pos 0 ≼ abs v
abs_above v = nonneg _

pub abs_same : (x : ℤ) → pos 0 ≼ x → abs x ≡ x
abs_same (pos n) h = refl
abs_same (negsuc n) h = absurd (not_≺ h (lt_z_yes tt))

size_above : (p : ℕ) → NotBelow (held (magnitude_of p))
unfolding held
size_above p = go (finite (magnitude_of p))
  where
    go : (t : Bool) → NotBelow (cond t (some (value_of (magnitude_of p))) none)
    go true = subst (λ v. pos 0 ≼ v) (sym (magnitude_value p)) (abs_above (value_of p))
    go false = tt

-- the sign of what is not below zero can be left out
pub held_size : (p : ℕ) (m : Option ℤ) → held p ≡ m → NotBelow m → held (magnitude_of p) ≡ m
unfolding held
held_size p m e h = ap₂ (λ t v. cond t (some v) none) (magnitude_test p) (magnitude_value p) ∙ go (finite p) e
  where
    go : (t : Bool) → cond t (some (value_of p)) none ≡ m → cond t (some (abs (value_of p))) none ≡ m
    go true d = ap some (abs_same (value_of p) (subst NotBelow (sym d) h)) ∙ d
    go false d = d

-- ---- their products
times_above : (a b : Option ℤ) → NotBelow a → NotBelow b → NotBelow (bind a λ x. bind b λ y. mul up x y)
unfolding bind
times_above none b h k = tt
times_above (some x) none h k = tt
times_above (some x) (some y) h k = up_above (2 ^ 149) (pow_pos 149) (x *ℤ y) (lin_le (x ∷ y ∷ []) (le (h ⊠ k) ∷ []) (search reading depth 20) (omega arith))

product_above : (u v : ℕ) → NotBelow (with₂ (mul up) (magnitude_of u) (magnitude_of v))
unfolding with₂
product_above u v = times_above (held (magnitude_of u)) (held (magnitude_of v)) (size_above u) (size_above v)

-- ---- numbers taken apart
pub holds_below : (m : Option ℤ) (r : Number) → Holds m r → NotAbove m → Below r
holds_below none r h n = lin_le (worth r ∷ pos (MAX binary32) ∷ []) (lt h.is.0 ∷ le (nonneg (MAX binary32)) ∷ []) (search reading depth 20) (omega arith)
holds_below (some v) r h n = subst (λ t. t ≼ pos 0) (sym h.is.0) n

-- a product of magnitudes, by the patterns of its factors
pub by_sizes : (u v a b : ℕ) (r : Number) → a ≡ magnitude_of u → b ≡ magnitude_of v → Holds (negate (with₂ (mul up) a b)) r → Holds (negate (with₂ (mul up) (magnitude_of u) (magnitude_of v))) r
by_sizes u v a b r e f h = subst (λ m. Holds (negate m) r) (ap₂ (with₂ (mul up)) e f) h

pub term_below : (u v : ℕ) (r : Number) → Holds (negate (with₂ (mul up) (magnitude_of u) (magnitude_of v))) r → Below r
term_below u v r h = holds_below _ r h (negate_above (with₂ (mul up) (magnitude_of u) (magnitude_of v)) (product_above u v))

-- a sum of two that are not above zero, where rounding does not lift it above
pub plus_under : (add : ℤ → Option ℤ) → ((X : ℤ) → X ≼ pos 0 → NotAbove (add X)) → (v : ℤ) (t : Option ℤ) → v ≼ pos 0 → NotAbove t → NotAbove (bind t λ u. add (v +ℤ u))
unfolding bind
plus_under add under v none h k = tt
plus_under add under v (some u) h k = under (v +ℤ u) (lin_le (v ∷ u ∷ []) (le h ∷ le k ∷ []) (search reading depth 20) (omega arith))

-- a radius with a number more that is not above zero
pub plus_below : (x r : Number) (t : Option ℤ) → Below x → NotAbove t → Holds (plus_down (worth x) t) r → Below r
plus_below x r t h k H = holds_below _ r H (plus_under (down binary32 1) down_under (worth x) t h k)

pub grown_below : (x : Number) (u v : ℕ) (r : Number) → Below x → Grown x u v r → Below r
grown_below x u v r h G =
    let t = with₂ (mul up) (magnitude_of u) (magnitude_of v) in
    plus_below x r (negate t) h (negate_above t (product_above u v)) G

-- ---- what is worked out once a cell
pub outer_above : (m r : ℤ) → pos 0 ≼ r → NotBelow (outer_of m r)
unfolding outer_radius
outer_above m r h = up_above 1 (lit< tt) (abs m +ℤ r) (lin_le (abs m ∷ r ∷ []) (le (abs_above m) ∷ le h ∷ []) (search reading depth 20) (omega arith))

pub raised_above : (f m r : ℤ) → pos 0 ≼ f → pos 0 ≼ r → NotBelow (raised_of f m r)
unfolding raised_radius bind
raised_above f m r g h = go (up binary32 (2 ^ 149) (f *ℤ abs m)) (up_above (2 ^ 149) (pow_pos 149) (f *ℤ abs m) (lin_le (f ∷ abs m ∷ []) (le (g ⊠ abs_above m) ∷ []) (search reading depth 20) (omega arith)))
  where
    go : (t : Option ℤ) → NotBelow t → NotBelow (bind t λ u. up binary32 1 (u +ℤ r))
    go none n = tt
    go (some u) n = up_above 1 (lit< tt) (u +ℤ r) (lin_le (u ∷ r ∷ []) (le n ∷ le h ∷ []) (search reading depth 20) (omega arith))
