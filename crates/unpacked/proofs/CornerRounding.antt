-- The least of values that are each rounded down is the least value rounded down, and the greatest of values rounded up the greatest rounded up,
-- refusals too: so of four corner products only one is rounded.
use mathlib.Core.Path.{◌≡◌, refl, sym, ap, ap₂, ◌∙◌}
use mathlib.Core.List.{[], ◌∷◌}
use mathlib.Core.Logic.{⊎_elim}
use mathlib.Core.Option.{Option, none, some, bind}
use Prim.Native.Nat.{ℕ, ◌^◌, ◌<◌}
use native.Mathlib.Omega.{arith}
use lib.Pow.{pow_pos}
use lib.IntN.{ℤ, pos, neg_ℤ, ◌*ℤ◌, neg_ℤ-neg_ℤ}
use Rattle.algebra.specs.Order.{◌≼◌}
use Rattle.algebra.specs.Extremes.{minℤ, maxℤ, least₄, greatest₄}
use Rattle.algebra.proofs.Linear.{reading, le, lt, lin_absurd}
use Rattle.algebra.proofs.Order.{≼_total, mul_mono_right, neg_mono, nonneg}
use Rattle.rounding.specs.Format.{Format, binary32, MAX}
use Rattle.rounding.specs.Rounding.{up, down, negate}
use Rattle.rounding.specs.Property.{DownTo}
use Rattle.rounding.proofs.Sign.{num_ge}
use Rattle.rounding.proofs.Directed.{down_to}
use Rattle.rounding.proofs.DirectedLaws.{down_mono}
use Rattle.enclosure.specs.Arithmetic.{of}
use Rattle.enclosure.specs.Cell.{Cell, least_corner, greatest_corner}
use Rattle.enclosure.specs.Methods.{least_term, greatest_term}
use Rattle.unpacked.proofs.CornerOrder.{min_left, min_right, max_left, max_right}

-- ---- the lesser of two partial results, none being the least of all

abbrev both : Option ℤ → Option ℤ → Option ℤ
both x y = bind x λ u. bind y λ v. some (minℤ u v)

abbrev Under : Option ℤ → Option ℤ → Type 0
Under none y = Unit {0}
Under (some u) none = ⊥
Under (some u) (some v) = u ≼ v

both_left : (x y : Option ℤ) → Under x y → both x y ≡ x
unfolding bind
both_left none y h = refl
both_left (some u) none h = absurd h
both_left (some u) (some v) h = ap some (sym (min_left h))

both_right : (x y : Option ℤ) → Under y x → both x y ≡ y
unfolding bind
both_right none none h = refl
both_right none (some v) h = absurd h
both_right (some u) none h = refl
both_right (some u) (some v) h = ap some (sym (min_right h))

-- f of four partial results, none where one of them is none
abbrev pub all₄ : (ℤ → ℤ → ℤ → ℤ → ℤ) → Option ℤ → Option ℤ → Option ℤ → Option ℤ → Option ℤ
all₄ f w x y z = bind w λ p. bind x λ q. bind y λ r. bind z λ s. some (f p q r s)

both_four : (w x y z : Option ℤ) → both (both w x) (both y z) ≡ all₄ least₄ w x y z
unfolding bind
both_four none x y z = refl
both_four (some p) none y z = refl
both_four (some p) (some q) none z = refl
both_four (some p) (some q) (some r) none = refl
both_four (some p) (some q) (some r) (some s) = refl

-- ---- rounded down
module _ (f : Format) (D : ℕ) (d : 0 < D) where
  down_under : {X Y : ℤ} → X ≼ Y → Under (down f D X) (down f D Y)
  down_under {X} {Y} h = go (down f D X) (down f D Y) (down_to f D d X) (down_to f D d Y)
    where
      go : (a b : Option ℤ) → DownTo f D X a → DownTo f D Y b → Under a b
      go none b u v = tt
      go (some x) none u v =
          lin_absurd (X ∷ Y ∷ x ∷ pos D ∷ pos (MAX f) ∷ [])
          (le h ∷ lt v ∷ le u.below ∷ le (mul_mono_right (nonneg D) (num_ge u.num)) ∷ []) (search reading depth 20) (omega arith)
      go (some x) (some y) u v = down_mono f D D d d (mul_mono_right (nonneg D) h) u v

  down_both : (X Y : ℤ) → both (down f D X) (down f D Y) ≡ down f D (minℤ X Y)
  down_both X Y =
      ⊎_elim
      (λ h. both_left (down f D X) (down f D Y) (down_under h) ∙ ap (down f D) (min_left h))
      (λ h. both_right (down f D X) (down f D Y) (down_under h) ∙ ap (down f D) (min_right h))
      (≼_total X Y)

  least_down : (W X Y Z : ℤ) → all₄ least₄ (down f D W) (down f D X) (down f D Y) (down f D Z) ≡ down f D (least₄ W X Y Z)
  least_down W X Y Z = sym (both_four (down f D W) (down f D X) (down f D Y) (down f D Z)) ∙ ap₂ both (down_both W X) (down_both Y Z) ∙ down_both (minℤ W X) (minℤ Y Z)

-- ---- the greatest, by the other sign

neg_max : (a b : ℤ) → neg_ℤ (maxℤ a b) ≡ minℤ (neg_ℤ a) (neg_ℤ b)
neg_max a b =
    ⊎_elim
    (λ h. ap neg_ℤ (sym (max_right h)) ∙ min_right (neg_mono h))
    (λ h. ap neg_ℤ (sym (max_left h)) ∙ min_left (neg_mono h))
    (≼_total a b)

neg_greatest : (a b c d : ℤ) → neg_ℤ (greatest₄ a b c d) ≡ least₄ (neg_ℤ a) (neg_ℤ b) (neg_ℤ c) (neg_ℤ d)
neg_greatest a b c d = neg_max (maxℤ a b) (maxℤ c d) ∙ ap₂ minℤ (neg_max a b) (neg_max c d)

negate_all : (w x y z : Option ℤ) → negate (all₄ greatest₄ w x y z) ≡ all₄ least₄ (negate w) (negate x) (negate y) (negate z)
unfolding bind
negate_all none x y z = refl
negate_all (some p) none y z = refl
negate_all (some p) (some q) none z = refl
negate_all (some p) (some q) (some r) none = refl
negate_all (some p) (some q) (some r) (some s) = ap some (neg_greatest p q r s)

pub mirror : (f : Format) (D : ℕ) (X : ℤ) → negate (up f D X) ≡ down f D (neg_ℤ X)
unfolding down
mirror f D X = ap (λ z. negate (up f D z)) (sym (neg_ℤ-neg_ℤ X))

greatest_up : (f : Format) (D : ℕ) → 0 < D → (W X Y Z : ℤ)
    → negate (all₄ greatest₄ (up f D W) (up f D X) (up f D Y) (up f D Z)) ≡ down f D (neg_ℤ (greatest₄ W X Y Z))
greatest_up f D d W X Y Z =
    negate_all (up f D W) (up f D X) (up f D Y) (up f D Z)
    ∙ ap₂ (λ w x. all₄ least₄ w x (negate (up f D Y)) (negate (up f D Z))) (mirror f D W) (mirror f D X)
    ∙ ap₂ (λ y z. all₄ least₄ (down f D (neg_ℤ W)) (down f D (neg_ℤ X)) y z) (mirror f D Y) (mirror f D Z)
    ∙ least_down f D d (neg_ℤ W) (neg_ℤ X) (neg_ℤ Y) (neg_ℤ Z)
    ∙ ap (down f D) (sym (neg_greatest W X Y Z))

-- ---- the terms of the classical method
module _ (a b : Cell) where
  pub least_term_is : least_term (of binary32) a b ≡ down binary32 (2 ^ 149) (least_corner a b)
  unfolding least_term least_corner
  least_term_is = least_down binary32 (2 ^ 149) (pow_pos 149) (a.low *ℤ b.low) (a.low *ℤ b.high) (a.high *ℤ b.low) (a.high *ℤ b.high)

  pub greatest_term_is : negate (greatest_term (of binary32) a b) ≡ down binary32 (2 ^ 149) (neg_ℤ (greatest_corner a b))
  unfolding greatest_term greatest_corner
  greatest_term_is = greatest_up binary32 (2 ^ 149) (pow_pos 149) (a.low *ℤ b.low) (a.low *ℤ b.high) (a.high *ℤ b.low) (a.high *ℤ b.high)
