-- What is worked out of a midpoint and a radius, from what the calls give: the part, |m| + r, and (c × |m|) + r; of one cell, and of the first cells of a list.
use mathlib.Core.Path.{◌≡◌, refl, sym, ap, ap₂, ◌∙◌}
use mathlib.Core.List.{List}
use mathlib.Core.Option.{Option, none, some, bind}
use native.Mathlib.Omega.{arith}
use Prim.Native.Nat.{ℕ, zero, suc, ◌*◌, ◌%◌, ◌^◌, ◌≤◌, ◌<◌}
use lib.IntN.{ℤ, pos, neg_ℤ}
use Rattle.algebra.specs.Order.{◌≼◌}
use Rattle.algebra.specs.Absolute.{abs}
use Rattle.algebra.specs.Extremes.{minℤ}
use Rattle.algebra.proofs.Absolute.{abs_neg}
use Rattle.rounding.specs.Format.{binary32}
use Rattle.rounding.specs.Rounding.{up}
use Rattle.rounding.specs.Pattern.{val}
use Rattle.enclosure.specs.Methods.{part, outer_radius, raised_radius}
use Rattle.binary32.specs.Number.{value_of, held, hold_up, negated}
use Rattle.binary32.specs.Operations.{add, mul, with₂}
use Rattle.binary32.specs.Order.{magnitude_of, least_of}
use Rattle.binary32.proofs.Held.{held_hold}
use Rattle.products.specs.MidRad.{Sized}
use Rattle.products.specs.Derived.{MidRad, MidRads, MadeOf, Derived, outer_of, raised_of, part_of, factor_of, raised_factor}
use Rattle.matrices.proofs.Fitting.{plus_up_fits, mul_up_fits}
use Rattle.unpacked.proofs.Patterns.{held_is, low_value, high_value, magnitude_value, magnitude_finite, held_magnitude, held_negated, held_least, min_zero}

-- ---- p = sign(m) × min(|m|, r)

part_opposed : (n : ℕ) (r : ℤ) → pos 0 ≼ r → neg_ℤ (minℤ (pos n) r) ≡ part (neg_ℤ (pos n)) r
unfolding part
part_opposed zero r h = ap neg_ℤ (min_zero r h) ∙ sym (min_zero r h)
part_opposed (suc n) r h = refl

-- the lesser of |m| and r, from its calls
least_held : (m r q p : ℕ) → MidRad m r → q ≡ magnitude_of m → p ≡ least_of q r → held p ≡ some (minℤ (abs (value_of m)) (value_of r))
least_held m r q p M e f =
    ap held (f ∙ ap (λ x. least_of x r) e) ∙ held_least (magnitude_of m) r (magnitude_finite m M.mid) M.rad ∙ ap (λ v. some (minℤ v (value_of r))) (magnitude_value m)

pub part_low : (m r q p : ℕ) → MidRad m r → m < 2 ^ 31 → q ≡ magnitude_of m → p ≡ least_of q r → held p ≡ part_of (value_of m) (value_of r)
unfolding part
part_low m r q p M l e f =
    let v : value_of m ≡ pos (val binary32 (m % 2 ^ 31)) = low_value m l in
    least_held m r q p M e f ∙ ap (λ x. some (minℤ (abs x) (value_of r))) v ∙ sym (ap (λ x. some (part x (value_of r))) v)

pub part_high : (m r q p z : ℕ) → MidRad m r → 2 ^ 31 ≤ m → p < 2 ^ 32 → q ≡ magnitude_of m → p ≡ least_of q r → z ≡ negated p → held z ≡ part_of (value_of m) (value_of r)
unfolding part
part_high m r q p z M h l e f g =
    let n = val binary32 (m % 2 ^ 31) in
    let v : value_of m ≡ neg_ℤ (pos n) = high_value m h in
    let a : abs (value_of m) ≡ pos n = ap abs v ∙ abs_neg (pos n) in
    ap held g
    ∙ held_negated p l (least_held m r q p M e f)
    ∙ ap some (ap (λ x. neg_ℤ (minℤ x (value_of r))) a ∙ part_opposed n (value_of r) M.nonneg ∙ sym (ap (λ x. part x (value_of r)) v))

-- ---- the sums

bind_assoc : (m : Option ℤ) (f g : ℤ → Option ℤ) → bind (bind m f) g ≡ bind m λ x. bind (f x) g
unfolding bind
bind_assoc none f g = refl
bind_assoc (some v) f g = refl

module _ (m r p : ℕ) where
  -- a sum, rounded up, with the radius
  with_radius : (t : ℕ) (v : Option ℤ) → MidRad m r → held t ≡ v → p ≡ hold_up (with₂ (add up) t r) → held p ≡ bind v λ x. add up x (value_of r)
  unfolding with₂ bind
  with_radius t v M e f =
      ap held f ∙ held_hold 0x7F800000 refl (with₂ (add up) t r) (plus_up_fits t (held r)) ∙ ap₂ (λ a b. bind a λ x. bind b λ y. add up x y) e (held_is r M.rad)

  pub outer_held : (q : ℕ) → MidRad m r → q ≡ magnitude_of m → p ≡ hold_up (with₂ (add up) q r) → held p ≡ outer_of (value_of m) (value_of r)
  unfolding outer_radius bind
  outer_held q M e f = with_radius q _ M (ap held e ∙ held_magnitude m (held_is m M.mid)) f

  pub raised_held : (c q t : ℕ) → MidRad m r → q ≡ magnitude_of m → t ≡ hold_up (with₂ (mul up) c q) → p ≡ hold_up (with₂ (add up) t r)
      → held p ≡ bind (held c) λ f. raised_of f (value_of m) (value_of r)
  unfolding raised_radius with₂ bind
  raised_held c q t M e f g =
      let h : held q ≡ some (abs (value_of m)) = ap held e ∙ held_magnitude m (held_is m M.mid) in
      let u : held t ≡ bind (held c) λ x. mul up x (abs (value_of m)) =
      ap held f ∙ held_hold 0x7F800000 refl (with₂ (mul up) c q) (mul_up_fits c q) ∙ ap (λ b. bind (held c) λ x. bind b λ y. mul up x y) h in
      with_radius t _ M u g ∙ bind_assoc (held c) _ _

-- by a pattern that holds the factor of k
pub factor_held : (c k : ℕ) (m r : ℤ) → held c ≡ raised_factor k → bind (held c) (λ f. raised_of f m r) ≡ raised_of (factor_of k) m r
unfolding raised_factor bind
factor_held c k m r e = ap (λ o. bind o λ f. raised_of f m r) e

-- ---- of the first count cells
module _ {made : ℕ → ℕ → ℕ → Type 0} (f : ℤ → ℤ → Option ℤ) (holds : (m r p : ℕ) → MidRad m r → made m r p → held p ≡ f (value_of m) (value_of r)) where
  pub derived : {count : ℕ} {m r p : List ℕ} → MidRads count m r → MadeOf made count m r p → Derived f count m r p
  derived M D = record { long = D.long; each = λ c h. holds _ _ _ (M.each c h) (D.each c h) }

-- what is asked of the result's lengths is met by the number of its cells
pub fitting : {m k n lo up : ℕ} {ma ra mb rb : List ℕ} → Sized m k n ma ra mb rb lo up → Sized m k n ma ra mb rb (m * n) (m * n)
fitting z = record { rows = z.rows; inner = z.inner; columns = z.columns; a = z.a; b = z.b; lowers = omega arith; uppers = omega arith }
