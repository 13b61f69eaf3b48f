-- Method 5's bound E: for k up to 32 its multiple of a spacing and its double are exact, so -2 × E is a number; and the radius that takes it.
use mathlib.Core.Path.{◌≡◌, refl, sym, ap, ap₂, ◌∙◌, subst}
use mathlib.Core.List.{[], ◌∷◌}
use mathlib.Core.Logic.{⊎_elim}
use mathlib.Core.Option.{Option, none, some, bind}
use Prim.Native.Nat.{ℕ, ◌+◌, ◌*◌, ◌^◌, ◌≤◌, ◌<◌}
use native.Mathlib.Nat.{eq-zero-or-pos, le_trans, le_of_eq, mul-pos}
use native.Mathlib.Omega.{arith}
use lib.Dec.{lit<, lit≤}
use lib.IntN.{ℤ, pos, neg_ℤ, nat_abs, ◌+ℤ◌, ◌-ℤ◌, ◌*ℤ◌}
use lib.Pow.{pow_pos}
use Rattle.algebra.specs.Order.{◌≼◌}
use Rattle.algebra.proofs.Linear.{reading, lin_eq}
use Rattle.algebra.proofs.Natural.{to_le}
use Rattle.rounding.specs.Format.{binary32, MAX, Num, half, spacing}
use Rattle.rounding.specs.Rounding.{up, down, negate}
use Rattle.rounding.proofs.Directed.{up_is}
use Rattle.rounding.proofs.Sign.{nat_abs_neg, neg_le_pos}
use Rattle.rounding.proofs.SpacingTimes.{UpDoubles, times_exact, bound_number}
use Rattle.enclosure.specs.Arithmetic.{of}
use Rattle.enclosure.specs.Methods.{error_bound}
use Rattle.unpacked.specs.declared.Number.{Number}
use Rattle.unpacked.specs.Number.{worth, Normal, IsNumber, Below, Holds, Scaled}
use Rattle.unpacked.proofs.Multiplying.{held_number}
use Rattle.unpacked.proofs.Packing.{exp_high}
use Rattle.unpacked.proofs.Worths.{worth_abs}
use Rattle.products.specs.CentreSize.{TwiceError, radius_for}
use Rattle.products.specs.Continued.{Line, grown_by}
use Rattle.products.specs.Running.{plus_down}

-- ---- a number other than zero has a significand other than zero
some_digits : (x : Number) → Normal x → 0 < nat_abs (worth x) → 0 < nat_abs x.sig
some_digits x n p = ⊎_elim (λ e. absurd (no (nat_abs (worth x)) (nat_abs x.sig) (2 ^ 400) (2 ^ x.exp) (pow_pos 400) (worth_abs x n) e p)) (λ l. l) (eq-zero-or-pos (nat_abs x.sig))
  where
    no : (v s K E : ℕ) → 0 < K → v * K ≡ s * E → s ≡ 0 → 0 < v → ⊥
    no v s K E k h e l = omega (arith, ap (λ t. t * E) e, mul-pos {m = v} {n = K} l k)

pub steps_digits : (k : ℕ) (w : Number) → Holds (some (neg_ℤ (pos (k + 1)))) w → 0 < nat_abs w.sig
steps_digits k w h = some_digits w h.part.normal (subst (λ t. 0 < nat_abs t) (sym h.is.0) (omega (arith, nat_abs_neg (pos (k + 1)))))

-- ---- E for k pairs and G = g
module _ (k : ℕ) (few : k ≤ 32) (g : ℤ) (n : Num binary32 g) where
  abbrev spacings : ℕ
  spacings = (k + 1) * spacing binary32 g

  few' : 2 * (k + 1) < half binary32
  few' = omega (arith, few)

  steps : up binary32 1 (pos spacings) ≡ some (pos spacings)
  steps = times_exact binary32 (k + 1) few' g n

  pub error : UpDoubles binary32 (spacings + half binary32)
  error = bound_number binary32 (k + 1) few' g n (lit≤ tt)

  error_is : error_bound (of binary32) k g ≡ some (pos error.e)
  unfolding error_bound bind
  error_is = ap (λ m. bind m λ e. up binary32 1 (e +ℤ pos (half binary32))) steps ∙ error.is

  twice_is : (bind (error_bound (of binary32) k g) λ e. up binary32 1 (pos 2 *ℤ e)) ≡ some (pos (2 * error.e))
  unfolding bind
  twice_is = ap (λ m. bind m λ e. up binary32 1 (pos 2 *ℤ e)) error_is ∙ error.doubled

  -- x is -(k + 1) × 2 ^ j, and 2 ^ j the spacing
  module _ (w x : Number) (j : ℕ) (h : Holds (some (neg_ℤ (pos (k + 1)))) w) (e : 2 ^ j ≡ spacing binary32 g) (S : Scaled w j x) where
    value : worth x ≡ neg_ℤ (pos spacings)
    value = S.worths ∙ ap₂ (λ v m. v *ℤ pos m) h.is.0 e ∙ turn (k + 1) (spacing binary32 g)
      where
        turn : (a b : ℕ) → neg_ℤ (pos a) *ℤ pos b ≡ neg_ℤ (pos (a * b))
        turn a b = lin_eq (pos a ∷ pos b ∷ []) [] (search reading depth 20) (omega arith)

    pub steps_number : IsNumber x × Below x
    steps_number = (
      record {
        normal = S.normal;
        within = subst (λ t. nat_abs t ≤ MAX binary32) (sym value) (le_trans (le_of_eq (nat_abs_neg (pos spacings))) (up_is binary32 1 (lit< tt) steps).num.within);
      },
      subst (λ t. t ≼ pos 0) (sym value) (neg_le_pos spacings 0),
    )

    -- y is -E
    pub error_holds : (y : Number) → Holds (plus_down (worth x) (some (neg_ℤ (pos (half binary32))))) y → Holds (some (neg_ℤ (pos error.e))) y
    unfolding bind down
    error_holds y H = subst (λ m. Holds m y) (ap (λ t. negate (up binary32 1 t)) (ap (λ v. neg_ℤ (v +ℤ neg_ℤ (pos (half binary32)))) value ∙ turn (pos spacings) (pos (half binary32))) ∙ ap negate error.is) H
      where
        turn : (a b : ℤ) → neg_ℤ (neg_ℤ a +ℤ neg_ℤ b) ≡ a +ℤ b
        turn a b = lin_eq (a ∷ b ∷ []) [] (search reading depth 20) (omega arith)

  module _ (y : Number) (h : Holds (some (neg_ℤ (pos error.e))) y) where
    pub error_digits : 0 < nat_abs y.sig
    error_digits =
        let l : spacings + half binary32 ≤ error.e * 1 = to_le (up_is binary32 1 (lit< tt) error.is).above in
        some_digits y h.part.normal (subst (λ t. 0 < nat_abs t) (sym h.is.0) (omega (arith, nat_abs_neg (pos error.e), l)))

    -- r is -2 × E
    pub twice_holds : (r : Number) → Scaled y 1 r → Holds (some (neg_ℤ (pos (2 * error.e)))) r
    twice_holds r S =
        record {
          part = record { normal = S.normal; high = omega (arith, S.high, exp_high y (held_number _ y h).0) };
          is = (S.worths ∙ ap (λ v. v *ℤ pos 2) h.is.0 ∙ turn error.e, le_trans (le_of_eq (nat_abs_neg (pos (2 * error.e)))) error.within);
        }
      where
        turn : (a : ℕ) → neg_ℤ (pos a) *ℤ pos 2 ≡ neg_ℤ (pos (2 * a))
        turn a = lin_eq (pos a ∷ []) [] (search reading depth 20) (omega arith)

    pub twice_error : (r : Number) → Scaled y 1 r → TwiceError k g r
    twice_error r S = subst (λ m. Holds (negate m) r) (sym twice_is) (twice_holds r S)

  pub twice_number : (d : Number) → TwiceError k g d → IsNumber d × (worth d ≡ neg_ℤ (pos (2 * error.e)))
  twice_number d T = held_number _ d (subst (λ m. Holds (negate m) d) twice_is T)

  -- ---- the radius: s is the sum of (|mA| + rA) × (|mB| + rB)
  less_is : (s : Option ℤ) → plus_down g (negate s) ≡ negate (bind s λ s. up binary32 1 (s -ℤ g))
  unfolding bind down
  less_is none = refl
  less_is (some s) = ap (λ t. negate (up binary32 1 t)) (lin_eq (g ∷ s ∷ []) [] (search reading depth 20) (omega arith))

  more_is : (t : Option ℤ) → plus_down (neg_ℤ (pos (2 * error.e))) (negate t) ≡ negate (bind t λ t. bind (error_bound (of binary32) k g) λ e. bind (up binary32 1 (pos 2 *ℤ e)) λ d. up binary32 1 (t +ℤ d))
  unfolding bind down
  more_is none = refl
  more_is (some t) =
      ap (λ v. negate (up binary32 1 v)) (lin_eq (pos (2 * error.e) ∷ t ∷ []) [] (search reading depth 20) (omega arith))
      ∙ sym (ap (λ m. negate (bind m λ e. bind (up binary32 1 (pos 2 *ℤ e)) λ d. up binary32 1 (t +ℤ d))) error_is ∙ ap (λ m. negate (bind m λ d. up binary32 1 (t +ℤ d))) error.doubled)

  module _ (w : Line) (same : w.k ≡ k) where
    abbrev s : Option ℤ
    s = grown_by w (pos 0) w.k

    pub less_holds : (o l : Number) → worth o ≡ g → Holds (plus_down (worth o) (negate s)) l → Holds (negate (bind s λ s. up binary32 1 (s -ℤ g))) l
    less_holds o l e H = subst (λ m. Holds m l) (ap (λ v. plus_down v (negate s)) e ∙ less_is s) H

    pub radius_holds : (d r : Number) → TwiceError k g d → Holds (plus_down (worth d) (negate (bind s λ s. up binary32 1 (s -ℤ g)))) r → Holds (negate (radius_for w g)) r
    unfolding radius_for bind
    radius_holds d r T H = subst (λ m. Holds m r) (ap (λ v. plus_down v (negate (bind s λ s. up binary32 1 (s -ℤ g)))) (twice_number d T).1 ∙ more_is (bind s λ s. up binary32 1 (s -ℤ g)) ∙ ap negate (sym (nested s))) H
      where
        nested : (s : Option ℤ) → (bind s λ s. bind (up binary32 1 (s -ℤ g)) λ t. bind (error_bound (of binary32) w.k g) λ e. bind (up binary32 1 (pos 2 *ℤ e)) λ d. up binary32 1 (t +ℤ d))
            ≡ bind (bind s λ s. up binary32 1 (s -ℤ g)) λ t. bind (error_bound (of binary32) k g) λ e. bind (up binary32 1 (pos 2 *ℤ e)) λ d. up binary32 1 (t +ℤ d)
        nested none = refl
        nested (some s) = ap (λ i. bind (up binary32 1 (s -ℤ g)) λ t. bind (error_bound (of binary32) i g) λ e. bind (up binary32 1 (pos 2 *ℤ e)) λ d. up binary32 1 (t +ℤ d)) same
