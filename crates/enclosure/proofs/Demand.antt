-- Enclosure and width: every method encloses and method 5 bounds the error of its centre, over any arithmetic and for every format, and in binary32 method 4
-- is as narrow as demanded. Assumes nothing.
use mathlib.Core.Path.{◌≡◌, sym, ◌∙◌, subst}
use mathlib.Core.List.{[], ◌∷◌}
use mathlib.Core.Option.{some}
use Prim.Native.Nat.{ℕ, ◌+◌, ◌*◌, ◌^◌, ◌≤◌}
use native.Mathlib.Omega.{arith}
use lib.Dec.{lit≤}
use lib.IntN.{ℤ, pos, nat_abs, ◌+ℤ◌, ◌*ℤ◌, ◌-ℤ◌}
use Rattle.algebra.specs.Order.{◌≼◌}
use Rattle.algebra.proofs.Linear.{reading, le, eq, lin_le}
use Rattle.algebra.proofs.Order.{◌⊠◌, nonneg}
use Rattle.algebra.proofs.Natural.{of_le}
use Rattle.algebra.proofs.Absolute.{≼_abs}
use Rattle.algebra.proofs.Sum.{Σ_ext}
use Rattle.rounding.specs.Format.{Format, binary32, units, half}
use Rattle.enclosure.specs.Arithmetic.{Arithmetic, of}
use Rattle.enclosure.specs.NaturalSum.{Σℕ}
use Rattle.enclosure.specs.Cell.{Cell, least_corner, greatest_corner}
use Rattle.enclosure.specs.Methods.{Method, classical, three, four, five, seven, Range, entry}
use Rattle.enclosure.specs.CentreError.{CentreWithin}
use Rattle.enclosure.specs.Demand.{ValidCells, Encloses, exact_lower, exact_upper, S, T, WidthFour, Kept}
use Rattle.enclosure.proofs.NaturalSum.{Σ_pos, Σ_sub}
use Rattle.enclosure.proofs.Converted.{EachConverted}
use Rattle.enclosure.proofs.Laws.{Laws}
use Rattle.enclosure.proofs.FormatLaws.{format_laws}
use Rattle.enclosure.proofs.Conversion.{valid_converted}
use Rattle.enclosure.proofs.Covers.{Covers, covers_encloses}
use Rattle.enclosure.proofs.Classical.{classical_covers}
use Rattle.enclosure.proofs.Three.{three_covers}
use Rattle.enclosure.proofs.Four.{four_covers}
use Rattle.enclosure.proofs.FiveError.{centre_within}
use Rattle.enclosure.proofs.Five.{five_covers}
use Rattle.enclosure.proofs.Seven.{seven_covers}
use Rattle.enclosure.proofs.PairSize.{pair_width, pair_width_is}
use Rattle.enclosure.proofs.FourWidth.{four_width}

-- ---- enclosure, over any arithmetic
module _ {A : Arithmetic} (L : Laws A) (k : ℕ) (a b : ℕ → Cell) (oka : EachConverted L.P k a) (okb : EachConverted L.P k b)
    (few : k ≤ 32) (fine : 8388608 ≤ L.P) where
  pub entry_covers : (m : Method) (e : Range) → entry A m k a b ≡ some e → Covers A.units k a b e
  unfolding entry
  entry_covers classical e h = classical_covers L k a b e h
  entry_covers three e h = three_covers L k a b few fine oka okb e h
  entry_covers four e h = four_covers L k a b oka okb e h
  entry_covers five e h = five_covers L k a b (omega (arith, few, fine)) oka okb e h
  entry_covers seven e h = seven_covers L k a b oka okb e h

  pub entry_encloses : (m : Method) (e : Range) → entry A m k a b ≡ some e → Encloses A.units k a b e
  entry_encloses m e h = covers_encloses L.units_above (entry_covers m e h)

-- ---- for every format of 24 digits or more, whose unit is at most 2 ^ -prec
module _ (f : Format) (u : f.prec ≤ f.unit) (p : 8388608 ≤ half f)
    (k : ℕ) (a b : ℕ → Cell) (e : Range) (va : ValidCells f k a) (vb : ValidCells f k b) where
  pub format_encloses : (m : Method) → k ≤ 32 → entry (of f) m k a b ≡ some e → Encloses (units f) k a b e
  unfolding format_laws
  format_encloses m few h =
      entry_encloses (format_laws f u) k a b (λ l i. valid_converted f (a l) (va l i)) (λ l i. valid_converted f (b l) (vb l i)) few p m e h

  -- 2 × half times: in 1 / units of a unit the width is at most 3 / 2 of the exact one, 8 × (k + 4) × S / half, 4 × T and 8 × k × units
  pub format_four_width : 1 ≤ k → k ≤ 32 → 4 ≤ units f → entry (of f) four k a b ≡ some e
      → 2 * (half f * (units f * nat_abs (e.upper -ℤ e.lower)))
      ≤ 3 * (half f * Σℕ k (λ l. pair_width (a l) (b l))) + 16 * (k + 4) * S k a b + 8 * (half f * T k a b) + 16 * k * (half f * units f)
  unfolding format_laws
  format_four_width k≥ k≤ q h =
      four_width (format_laws f u) k a b (λ l i. valid_converted f (a l) (va l i)) (λ l i. valid_converted f (b l) (vb l i)) k≥ k≤ q p e h

-- whatever the cells: C is as near to the exact sum as method 5 says, where k is at most half f
pub format_centre_within : (f : Format) → f.prec ≤ f.unit → (k : ℕ) (a b : ℕ → Cell) (e : Range) → k ≤ half f → entry (of f) five k a b ≡ some e
    → CentreWithin (of f) k a b
unfolding format_laws
format_centre_within f u k a b e few h = centre_within (format_laws f u) k a b few e h

-- ---- binary32: P is 2^23, Q is 2^149
pub binary32_encloses : (m : Method) (k : ℕ) (a b : ℕ → Cell) (e : Range) → k ≤ 32 → ValidCells binary32 k a → ValidCells binary32 k b
    → entry (of binary32) m k a b ≡ some e → Encloses (units binary32) k a b e
binary32_encloses m k a b e few va vb h = format_encloses binary32 (lit≤ tt) (lit≤ tt) k a b e va vb m few h

-- the exact width of an entry, pair by pair
exact_width : (k : ℕ) (a b : ℕ → Cell) → pos (Σℕ k (λ l. pair_width (a l) (b l))) ≡ exact_upper k a b -ℤ exact_lower k a b
unfolding exact_lower exact_upper
exact_width k a b =
    sym (Σ_pos k (λ l. pair_width (a l) (b l))) ∙ Σ_ext k _ _ (λ l i. pair_width_is (a l) (b l))
    ∙ Σ_sub k (λ l. greatest_corner (a l) (b l)) (λ l. least_corner (a l) (b l))

-- the bound with P = 2^23, divided by 8, over integers; Q is left open
literal : (Q k w wd s t : ℕ) (W Wd : ℤ) → W ≼ pos w → pos wd ≡ Wd
    → 2 * (8388608 * (Q * w)) ≤ 3 * (8388608 * wd) + 16 * (k + 4) * s + 8 * (8388608 * t) + 16 * k * (8388608 * Q)
    → pos (2 ^ 21) *ℤ W *ℤ pos Q ≼ pos (3 * 2 ^ 20) *ℤ Wd +ℤ pos (2 * (k + 4) * s + 2 ^ 23 * t + k * (2 ^ 24 * Q))
literal Q k w wd s t W Wd g f h =
    let h' : pos (2 * (8388608 * (Q * w))) ≼ pos (3 * (8388608 * wd) + 16 * (k + 4) * s + 8 * (8388608 * t) + 16 * k * (8388608 * Q)) = of_le h in
    lin_le (pos Q ∷ pos k ∷ pos w ∷ pos wd ∷ pos s ∷ pos t ∷ W ∷ Wd ∷ []) (le h' ∷ le (nonneg Q ⊠ g) ∷ eq f ∷ [])
    (search reading depth 40 fits 9999) (omega arith)

pub binary32_four_width : (k : ℕ) (a b : ℕ → Cell) (e : Range) → 1 ≤ k → k ≤ 32 → ValidCells binary32 k a → ValidCells binary32 k b
    → entry (of binary32) four k a b ≡ some e → WidthFour k a b e
unfolding WidthFour
binary32_four_width k a b e k≥ k≤ va vb h =
    literal (units binary32) k (nat_abs (e.upper -ℤ e.lower)) (Σℕ k (λ l. pair_width (a l) (b l))) (S k a b) (T k a b)
    (e.upper -ℤ e.lower) (exact_upper k a b -ℤ exact_lower k a b) (≼_abs (e.upper -ℤ e.lower)) (exact_width k a b)
    (format_four_width binary32 (lit≤ tt) (lit≤ tt) k a b e va vb k≥ k≤ (lit≤ tt) h)

pub binary32_centre_within : (k : ℕ) (a b : ℕ → Cell) (e : Range) → k ≤ 32 → entry (of binary32) five k a b ≡ some e → CentreWithin (of binary32) k a b
binary32_centre_within k a b e few h = format_centre_within binary32 (lit≤ tt) k a b e (omega arith) h

-- ---- the demand
pub demand_kept : (m : Method) (k : ℕ) (a b : ℕ → Cell) (e : Range) → 1 ≤ k → k ≤ 32 → ValidCells binary32 k a → ValidCells binary32 k b
    → entry (of binary32) m k a b ≡ some e → Kept m k a b e
demand_kept m k a b e k≥ k≤ va vb h =
    record {
      encloses = binary32_encloses m k a b e k≤ va vb h;
      width = λ p. binary32_four_width k a b e k≥ k≤ va vb (subst (λ z. entry (of binary32) z k a b ≡ some e) p h);
      centre = λ p. binary32_centre_within k a b e k≤ (subst (λ z. entry (of binary32) z k a b ≡ some e) p h);
    }
