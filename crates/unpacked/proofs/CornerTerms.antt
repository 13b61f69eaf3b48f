-- The terms of the classical method are 0 where both bounds of a cell are zeros.
use mathlib.Core.Path.{◌≡◌, refl, ap, ap₂, ◌∙◌}
use mathlib.Core.Bool.{Bool, true, false}
use mathlib.Core.List.{[], ◌∷◌}
use mathlib.Core.Option.{Option, some, bind}
use Prim.Native.Nat.{ℕ, ◌^◌}
use lib.Dec.{leb}
use lib.Pow.{pow_pos}
use lib.IntN.{ℤ, pos, ◌*ℤ◌}
use Rattle.algebra.specs.Extremes.{minℤ, maxℤ, least₄, greatest₄}
use Rattle.algebra.proofs.Reading.{by_ring}
use Rattle.algebra.proofs.Linear.{reading}
use Rattle.rounding.specs.Format.{binary32}
use Rattle.rounding.specs.Pattern.{val}
use Rattle.rounding.specs.Rounding.{up, down}
use Rattle.rounding.proofs.Sign.{num_zero}
use Rattle.rounding.proofs.DirectedLaws.{up_exact, down_exact}
use Rattle.binary32.specs.Number.{signed_by, value_of}
use Rattle.binary32.specs.Order.{magnitude_of}
use Rattle.enclosure.specs.Arithmetic.{of}
use Rattle.enclosure.specs.Cell.{Cell}
use Rattle.enclosure.specs.Methods.{least_term, greatest_term}
use Rattle.unpacked.proofs.CornerRounding.{all₄}

pub zero_value : (p : ℕ) → magnitude_of p ≡ 0 → value_of p ≡ pos 0
unfolding value_of val
zero_value p e = ap (λ n. signed_by (leb (2 ^ 31) p) (val binary32 n)) e ∙ go (leb (2 ^ 31) p)
  where
    go : (t : Bool) → signed_by t 0 ≡ pos 0
    go true = refl
    go false = refl

pub zero_left : {x : ℤ} (y : ℤ) → x ≡ pos 0 → x *ℤ y ≡ pos 0
zero_left y e = ap (λ z. z *ℤ y) e ∙ by_ring (y ∷ []) (search reading depth 20) tt

zero_right : (x : ℤ) {y : ℤ} → y ≡ pos 0 → x *ℤ y ≡ pos 0
zero_right x e = ap (λ z. x *ℤ z) e ∙ by_ring (x ∷ []) (search reading depth 20) tt

-- both terms are 0
pub record ZeroTerms (a b : Cell) : Type 0 where
  pub least : least_term (of binary32) a b ≡ some (pos 0)
  pub greatest : greatest_term (of binary32) a b ≡ some (pos 0)

all_zero : (f : ℤ → ℤ → ℤ → ℤ → ℤ) (way : ℤ → Option ℤ) → f (pos 0) (pos 0) (pos 0) (pos 0) ≡ pos 0 → way (pos 0) ≡ some (pos 0)
    → (p q r s : ℤ) → p ≡ pos 0 → q ≡ pos 0 → r ≡ pos 0 → s ≡ pos 0 → all₄ f (way p) (way q) (way r) (way s) ≡ some (pos 0)
unfolding bind
all_zero f way ef ew p q r s ep eq er es =
    ap₂ (λ x y. all₄ f x y (way r) (way s)) (ap way ep ∙ ew) (ap way eq ∙ ew)
    ∙ ap₂ (λ x y. all₄ f (some (pos 0)) (some (pos 0)) x y) (ap way er ∙ ew) (ap way es ∙ ew)
    ∙ ap some ef

module _ {a b : Cell} where
  zero_terms : a.low *ℤ b.low ≡ pos 0 → a.low *ℤ b.high ≡ pos 0 → a.high *ℤ b.low ≡ pos 0 → a.high *ℤ b.high ≡ pos 0 → ZeroTerms a b
  unfolding minℤ maxℤ least_term greatest_term
  zero_terms ep eq er es =
      record {
        least = all_zero least₄ (down binary32 (2 ^ 149)) refl (down_exact binary32 (2 ^ 149) (pow_pos 149) (num_zero binary32)) _ _ _ _ ep eq er es;
        greatest = all_zero greatest₄ (up binary32 (2 ^ 149)) refl (up_exact binary32 (2 ^ 149) (pow_pos 149) (num_zero binary32)) _ _ _ _ ep eq er es;
      }

  pub zero_first : a.low ≡ pos 0 → a.high ≡ pos 0 → ZeroTerms a b
  zero_first u v = zero_terms (zero_left b.low u) (zero_left b.high u) (zero_left b.low v) (zero_left b.high v)

  pub zero_second : b.low ≡ pos 0 → b.high ≡ pos 0 → ZeroTerms a b
  zero_second u v = zero_terms (zero_right a.low u) (zero_right a.low v) (zero_right a.high u) (zero_right a.high v)
