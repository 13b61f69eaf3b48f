-- Method 5 encloses: centre and G are summed to nearest, and the errors of both are paid for by the 2 × E in the radius, where k is at most P.
use mathlib.Core.Path.{◌≡◌, sym, ◌∙◌, ap, ap₂, subst}
use mathlib.Core.List.{[], ◌∷◌}
use mathlib.Core.Option.{some}
use Prim.Native.Nat.{ℕ, ◌≤◌}
use native.Mathlib.Omega.{arith}
use lib.IntN.{ℤ, pos, neg_ℤ, ◌+ℤ◌, ◌*ℤ◌, ◌-ℤ◌}
use Rattle.algebra.specs.Order.{◌≼◌}
use Rattle.algebra.specs.Absolute.{abs}
use Rattle.algebra.specs.Sum.{Σ<}
use Rattle.algebra.proofs.Reading.{by_ring}
use Rattle.algebra.proofs.Linear.{reading, le, eq, lin_le}
use Rattle.algebra.proofs.Order.{◌⊠◌, nonneg, ≼_trans}
use Rattle.algebra.proofs.Absolute.{abs_mul, ≼_abs}
use Rattle.algebra.proofs.Sum.{Σ_ext, Σ_add}
use Rattle.enclosure.specs.Arithmetic.{Arithmetic}
use Rattle.enclosure.specs.Cell.{Cell}
use Rattle.enclosure.specs.Methods.{part, Range, five, entry, total, largest_term, centre₇, radius₅}
use Rattle.enclosure.specs.CentreError.{exact_centre}
use Rattle.enclosure.proofs.Converted.{EachConverted}
use Rattle.enclosure.proofs.Laws.{Laws, up_sum}
use Rattle.enclosure.proofs.Terms.{mids, parts, reaches, reaches_above}
use Rattle.enclosure.proofs.RoundedSum.{sum_above}
use Rattle.enclosure.proofs.Covers.{Covers, ends_of, ends_cover, paid_above, paid_below}
use Rattle.enclosure.proofs.Seven.{pair_radius, least_above₇, greatest_below₇}
use Rattle.enclosure.proofs.FiveError.{exact_size, Radius₅, radius₅_of, centre_near, size_near}

-- ---- over whole numbers

-- (m + r) × (n + s) is the radius of a pair and what G sums
split_reaches : (m n r s p q : ℤ) → (m +ℤ r) *ℤ (n +ℤ s) ≡ m *ℤ s +ℤ r *ℤ (n +ℤ s) +ℤ neg_ℤ (p *ℤ q) +ℤ (m *ℤ n +ℤ p *ℤ q)
split_reaches m n r s p q = by_ring (m ∷ n ∷ r ∷ s ∷ p ∷ q ∷ []) (search reading depth 30) tt

-- z is the sum of reaches, g that of sizes and e the bound on its error, as rounded; Z, S and R are the exact sums, with R = Z - S
radius_pays : (Q : ℕ) (z g t e d r Z S R : ℤ) → Z ≼ z *ℤ pos Q → z -ℤ g ≼ t → pos 2 *ℤ e ≼ d → t +ℤ d ≼ r
    → abs (g *ℤ pos Q -ℤ S) ≼ e *ℤ pos Q → Z ≡ R +ℤ S → R +ℤ e *ℤ pos Q ≼ r *ℤ pos Q
radius_pays Q z g t e d r Z S R h₁ h₂ h₃ h₄ h₅ f =
    let u : z -ℤ g +ℤ pos 2 *ℤ e ≼ r = lin_le (z ∷ g ∷ t ∷ e ∷ d ∷ r ∷ []) (le h₂ ∷ le h₃ ∷ le h₄ ∷ []) (search reading depth 30) (omega arith) in
    let w : g *ℤ pos Q -ℤ S ≼ e *ℤ pos Q = ≼_trans (≼_abs (g *ℤ pos Q -ℤ S)) h₅ in
    lin_le (pos Q ∷ z ∷ g ∷ e ∷ r ∷ Z ∷ S ∷ R ∷ []) (le h₁ ∷ le (u ⊠ nonneg Q) ∷ le w ∷ eq f ∷ []) (search reading depth 40 fits 9999) (omega arith)

-- ---- of the cells
pair_reaches : (a b : ℕ → Cell) (l : ℕ) → reaches a b l ≡ pair_radius a b l +ℤ (abs (mids a b l) +ℤ abs (parts a b l))
pair_reaches a b l =
    let p : ℤ = part (a l).mid (a l).rad in
    let q : ℤ = part (b l).mid (b l).rad in
    split_reaches (abs (a l).mid) (abs (b l).mid) (a l).rad (b l).rad (abs p) (abs q)
    ∙ ap (λ z. pair_radius a b l +ℤ z) (sym (ap₂ ◌+ℤ◌ (abs_mul (a l).mid (b l).mid) (abs_mul p q)))

reaches_are : (k : ℕ) (a b : ℕ → Cell) → Σ< k (reaches a b) ≡ Σ< k (pair_radius a b) +ℤ exact_size k a b
reaches_are k a b =
    Σ_ext k (reaches a b) (λ l. pair_radius a b l +ℤ (abs (mids a b l) +ℤ abs (parts a b l))) (λ l i. pair_reaches a b l)
    ∙ Σ_add k (pair_radius a b) (λ l. abs (mids a b l) +ℤ abs (parts a b l))
    ∙ ap (λ z. Σ< k (pair_radius a b) +ℤ z) (Σ_add k (λ l. abs (mids a b l)) (λ l. abs (parts a b l)))

module _ {A : Arithmetic} (L : Laws A) (k : ℕ) (a b : ℕ → Cell) (few : k ≤ L.P) (oka : EachConverted L.P k a) (okb : EachConverted L.P k b) where
  open A use {near, units}

  radius₅_above : {r : ℤ} (c : Radius₅ A k a b r) → Σ< k (pair_radius a b) +ℤ c.error *ℤ pos units ≼ r *ℤ pos units
  unfolding total
  radius₅_above {r} c =
      radius_pays units c.reach c.size c.rest c.error c.twice r (Σ< k (reaches a b)) (exact_size k a b) (Σ< k (pair_radius a b))
      (sum_above L units (λ l. largest_term A (a l) (b l)) (reaches a b) 0 k
      (λ l i t f. reaches_above L a b l t (oka l i).rad_nonneg (okb l i).rad_nonneg f) c.reach_is)
      (up_sum L c.rest_is) (up_sum L c.twice_is) (up_sum L c.radius_is) (size_near L k a b few c.size_is c.error_is) (reaches_are k a b)

  pub five_covers : (e : Range) → entry A five k a b ≡ some e → Covers units k a b e
  unfolding entry exact_centre
  five_covers e h =
      let c = ends_of A (radius₅ A k a b) (centre₇ A k a b near) (centre₇ A k a b near) h in
      let r = radius₅_of A k a b c.rad_is in
      let E : ℤ = r.error in
      let R : ℤ = Σ< k (pair_radius a b) in
      let M : ℤ = Σ< k (mids a b) +ℤ Σ< k (parts a b) in
      let g : Σ< k (λ l. mids a b l +ℤ parts a b l) ≡ M = Σ_add k (mids a b) (parts a b) in
      ends_cover L k a b (λ l. mids a b l +ℤ parts a b l) (pair_radius a b) (least_above₇ k a b oka okb) (greatest_below₇ k a b oka okb) c
      (subst (λ z. (c.minus -ℤ c.rad) *ℤ pos units ≼ z -ℤ R) (sym g)
      (paid_below units c.minus c.rad (E *ℤ pos units) M R (radius₅_above r) (centre_near L k a b few c.minus_is r.error_is)))
      (subst (λ z. z +ℤ R ≼ (c.plus +ℤ c.rad) *ℤ pos units) (sym g)
      (paid_above units c.plus c.rad (E *ℤ pos units) M R (radius₅_above r) (centre_near L k a b few c.plus_is r.error_is)))
