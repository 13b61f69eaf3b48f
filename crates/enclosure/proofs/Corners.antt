-- The least and the greatest of four, and of a pair's four corner products.
use lib.IntN.{ℤ, ◌*ℤ◌}
use Rattle.algebra.specs.Order.{◌≼◌}
use Rattle.algebra.specs.Extremes.{least₄, greatest₄}
use Rattle.algebra.proofs.Order.{≼_trans}
use Rattle.algebra.proofs.Extremes.{min_≼_l, min_≼_r, ≼_max_l, ≼_max_r, ≼_min, max_≼}
use Rattle.enclosure.specs.Cell.{Cell, least_corner, greatest_corner}

module _ (a b c d : ℤ) where
  pub least_≼_first : least₄ a b c d ≼ a
  least_≼_first = ≼_trans (min_≼_l _ _) (min_≼_l a b)

  pub least_≼_second : least₄ a b c d ≼ b
  least_≼_second = ≼_trans (min_≼_l _ _) (min_≼_r a b)

  pub least_≼_third : least₄ a b c d ≼ c
  least_≼_third = ≼_trans (min_≼_r _ _) (min_≼_l c d)

  pub least_≼_fourth : least₄ a b c d ≼ d
  least_≼_fourth = ≼_trans (min_≼_r _ _) (min_≼_r c d)

  pub first_≼_greatest : a ≼ greatest₄ a b c d
  first_≼_greatest = ≼_trans (≼_max_l a b) (≼_max_l _ _)

  pub second_≼_greatest : b ≼ greatest₄ a b c d
  second_≼_greatest = ≼_trans (≼_max_r a b) (≼_max_l _ _)

  pub third_≼_greatest : c ≼ greatest₄ a b c d
  third_≼_greatest = ≼_trans (≼_max_l c d) (≼_max_r _ _)

  pub fourth_≼_greatest : d ≼ greatest₄ a b c d
  fourth_≼_greatest = ≼_trans (≼_max_r c d) (≼_max_r _ _)

pub ≼_least : {a b c d x : ℤ} → x ≼ a → x ≼ b → x ≼ c → x ≼ d → x ≼ least₄ a b c d
≼_least p q r s = ≼_min (≼_min p q) (≼_min r s)

pub greatest_≼ : {a b c d x : ℤ} → a ≼ x → b ≼ x → c ≼ x → d ≼ x → greatest₄ a b c d ≼ x
greatest_≼ p q r s = max_≼ (max_≼ p q) (max_≼ r s)

-- the four corner products of [a₁, a₂] and [b₁, b₂] lie between l and u
pub record Corners (a₁ a₂ b₁ b₂ l u : ℤ) : Type 0 where
  pub low₁₁ : l ≼ a₁ *ℤ b₁
  pub low₁₂ : l ≼ a₁ *ℤ b₂
  pub low₂₁ : l ≼ a₂ *ℤ b₁
  pub low₂₂ : l ≼ a₂ *ℤ b₂
  pub high₁₁ : a₁ *ℤ b₁ ≼ u
  pub high₁₂ : a₁ *ℤ b₂ ≼ u
  pub high₂₁ : a₂ *ℤ b₁ ≼ u
  pub high₂₂ : a₂ *ℤ b₂ ≼ u

pub corners : (a b : Cell) → Corners a.low a.high b.low b.high (least_corner a b) (greatest_corner a b)
unfolding least_corner greatest_corner
corners a b =
    let p : ℤ = a.low *ℤ b.low in
    let q : ℤ = a.low *ℤ b.high in
    let r : ℤ = a.high *ℤ b.low in
    let s : ℤ = a.high *ℤ b.high in
    record {
      low₁₁ = least_≼_first p q r s;
      low₁₂ = least_≼_second p q r s;
      low₂₁ = least_≼_third p q r s;
      low₂₂ = least_≼_fourth p q r s;
      high₁₁ = first_≼_greatest p q r s;
      high₁₂ = second_≼_greatest p q r s;
      high₂₁ = third_≼_greatest p q r s;
      high₂₂ = fourth_≼_greatest p q r s;
    }
