-- An entry that covers the exact range over whole numbers encloses every sum of picks. And what centre and radius must be to cover it.
use mathlib.Core.Path.{◌≡◌, sym, ◌∙◌, ap}
use mathlib.Core.List.{[], ◌∷◌}
use mathlib.Core.Option.{Option, some, some-injective}
use Prim.Native.Nat.{ℕ, ◌<◌}
use native.Mathlib.Omega.{arith}
use lib.IntN.{ℤ, pos, neg_ℤ, ◌+ℤ◌, ◌*ℤ◌, ◌-ℤ◌}
use Rattle.algebra.specs.Order.{◌≼◌}
use Rattle.algebra.specs.Absolute.{abs}
use Rattle.algebra.specs.Sum.{Σ<}
use Rattle.algebra.proofs.Linear.{reading, le, lin_le}
use Rattle.algebra.proofs.Order.{≼_trans, ≼_of_≡, ◌⊠◌, nonneg}
use Rattle.algebra.proofs.Absolute.{≼_abs, neg_≼_abs}
use Rattle.algebra.proofs.Sum.{Σ_add, Σ_mono}
use Rattle.enclosure.specs.Arithmetic.{Arithmetic}
use Rattle.enclosure.specs.Cell.{Cell, least_corner, greatest_corner}
use Rattle.enclosure.specs.Methods.{Range, ends}
use Rattle.enclosure.specs.Demand.{Encloses, exact_lower, exact_upper}
use Rattle.enclosure.proofs.Accepted.{bound}
use Rattle.enclosure.proofs.NaturalSum.{Σ_sub}
use Rattle.enclosure.proofs.Fraction.{in_coarse, in_exact}
use Rattle.enclosure.proofs.Laws.{Laws, up_sum, down_sum}

-- the exact range, in 1 / Q of a unit, lies within the entry
pub record Covers (Q k : ℕ) (a b : ℕ → Cell) (e : Range) : Type 0 where
  pub lower_side : e.lower *ℤ pos Q ≼ exact_lower k a b
  pub upper_side : exact_upper k a b ≼ e.upper *ℤ pos Q

pub covers_encloses : {Q k : ℕ} {a b : ℕ → Cell} {e : Range} → 0 < Q → Covers Q k a b e → Encloses Q k a b e
covers_encloses {Q} {k} {a} {b} q c x y i j = in_coarse Q q (in_exact Q a b x y k i j) c.lower_side c.upper_side

-- ---- what an accepted entry of centre and radius was made of
pub record Ends (A : Arithmetic) (radius low high : Option ℤ) (e : Range) : Type 0 where
  pub rad : ℤ
  pub minus : ℤ
  pub plus : ℤ
  pub rad_is : radius ≡ some rad
  pub minus_is : low ≡ some minus
  pub plus_is : high ≡ some plus
  pub lower_is : A.down 1 (minus -ℤ rad) ≡ some e.lower
  pub upper_is : A.up 1 (plus +ℤ rad) ≡ some e.upper

pub ends_of : (A : Arithmetic) (radius low high : Option ℤ) {e : Range} → ends A radius low high ≡ some e → Ends A radius low high e
unfolding ends
ends_of A radius low high h =
    let c₁ = bound radius _ h in
    let c₂ = bound low _ c₁.then in
    let c₃ = bound high _ c₂.then in
    let c₄ = bound (A.down 1 (c₂.value -ℤ c₁.value)) _ c₃.then in
    let c₅ = bound (A.up 1 (c₃.value +ℤ c₁.value)) _ c₄.then in
    let g = some-injective _ _ c₅.then in
    record {
      rad = c₁.value;
      minus = c₂.value;
      plus = c₃.value;
      rad_is = c₁.first;
      minus_is = c₂.first;
      plus_is = c₃.first;
      lower_is = c₄.first ∙ ap (λ z. some z.lower) g;
      upper_is = c₅.first ∙ ap (λ z. some z.upper) g;
    }

-- ---- over whole numbers: the exact centre is C and the exact radius R
module _ (Q : ℕ) (s r v C R x : ℤ) where
  upper_end : s +ℤ r ≼ v → C +ℤ R ≼ (s +ℤ r) *ℤ pos Q → x ≼ C +ℤ R → x ≼ v *ℤ pos Q
  upper_end h k l = lin_le (pos Q ∷ s ∷ r ∷ v ∷ C ∷ R ∷ x ∷ []) (le (h ⊠ nonneg Q) ∷ le k ∷ le l ∷ []) (search reading depth 30) (omega arith)

  lower_end : v ≼ s -ℤ r → (s -ℤ r) *ℤ pos Q ≼ C -ℤ R → C -ℤ R ≼ x → v *ℤ pos Q ≼ x
  lower_end h k l = lin_le (pos Q ∷ s ∷ r ∷ v ∷ C ∷ R ∷ x ∷ []) (le (h ⊠ nonneg Q) ∷ le k ∷ le l ∷ []) (search reading depth 30) (omega arith)

module _ (Q : ℕ) (s r C R : ℤ) where
  pub centre_and_radius_above : C ≼ s *ℤ pos Q → R ≼ r *ℤ pos Q → C +ℤ R ≼ (s +ℤ r) *ℤ pos Q
  centre_and_radius_above h k = lin_le (pos Q ∷ s ∷ r ∷ C ∷ R ∷ []) (le h ∷ le k ∷ []) (search reading depth 30) (omega arith)

  pub centre_and_radius_below : s *ℤ pos Q ≼ C → R ≼ r *ℤ pos Q → (s -ℤ r) *ℤ pos Q ≼ C -ℤ R
  centre_and_radius_below h k = lin_le (pos Q ∷ s ∷ r ∷ C ∷ R ∷ []) (le h ∷ le k ∷ []) (search reading depth 30) (omega arith)

-- C is known but for an error of e, which the radius pays for
module _ (Q : ℕ) (s r e C R : ℤ) (h : R +ℤ e ≼ r *ℤ pos Q) (k : abs (s *ℤ pos Q -ℤ C) ≼ e) where
  pub paid_above : C +ℤ R ≼ (s +ℤ r) *ℤ pos Q
  paid_above =
      let d : neg_ℤ (s *ℤ pos Q -ℤ C) ≼ e = ≼_trans (neg_≼_abs (s *ℤ pos Q -ℤ C)) k in
      lin_le (pos Q ∷ s ∷ r ∷ e ∷ C ∷ R ∷ []) (le h ∷ le d ∷ []) (search reading depth 30) (omega arith)

  pub paid_below : (s -ℤ r) *ℤ pos Q ≼ C -ℤ R
  paid_below =
      let d : s *ℤ pos Q -ℤ C ≼ e = ≼_trans (≼_abs (s *ℤ pos Q -ℤ C)) k in
      lin_le (pos Q ∷ s ∷ r ∷ e ∷ C ∷ R ∷ []) (le h ∷ le d ∷ []) (search reading depth 30) (omega arith)

-- ---- the corners of each pair lie between c l - r l and c l + r l
module _ {A : Arithmetic} (L : Laws A) (k : ℕ) (a b : ℕ → Cell) (c r : ℕ → ℤ)
    (p : (l : ℕ) → l < k → c l -ℤ r l ≼ least_corner (a l) (b l)) (q : (l : ℕ) → l < k → greatest_corner (a l) (b l) ≼ c l +ℤ r l) where
  pub ends_cover : {radius low high : Option ℤ} {e : Range} (h : Ends A radius low high e)
      → (h.minus -ℤ h.rad) *ℤ pos A.units ≼ Σ< k c -ℤ Σ< k r → Σ< k c +ℤ Σ< k r ≼ (h.plus +ℤ h.rad) *ℤ pos A.units
      → Covers A.units k a b e
  unfolding exact_lower exact_upper
  ends_cover {e = e} h u v =
      record {
        lower_side = lower_end A.units h.minus h.rad e.lower (Σ< k c) (Σ< k r) _ (down_sum L h.lower_is) u
            (≼_trans (≼_of_≡ (sym (Σ_sub k c r))) (Σ_mono k (λ l. c l -ℤ r l) (λ l. least_corner (a l) (b l)) p));
        upper_side = upper_end A.units h.plus h.rad e.upper (Σ< k c) (Σ< k r) _ (up_sum L h.upper_is) v
            (≼_trans (Σ_mono k (λ l. greatest_corner (a l) (b l)) (λ l. c l +ℤ r l) q) (≼_of_≡ (Σ_add k c r)));
      }
