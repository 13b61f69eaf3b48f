-- Method 5's E bounds the errors of its C and of its G, so C is as near to the exact sum as demanded.
use mathlib.Core.Path.{◌≡◌, sym, ◌∙◌, ap, subst}
use mathlib.Core.List.{[], ◌∷◌}
use mathlib.Core.Option.{some}
use Prim.Native.Nat.{ℕ, ◌+◌, ◌*◌, ◌≤◌}
use native.Mathlib.Omega.{arith}
use native.Mathlib.Nat.{mul-le-mul_left}
use lib.IntN.{ℤ, pos, ◌+ℤ◌, ◌*ℤ◌, ◌-ℤ◌}
use Rattle.algebra.specs.Order.{◌≼◌}
use Rattle.algebra.specs.Absolute.{abs}
use Rattle.algebra.specs.Sum.{Σ<}
use Rattle.algebra.proofs.Reading.{by_ring}
use Rattle.algebra.proofs.Linear.{reading}
use Rattle.algebra.proofs.Order.{≼_trans, ≼_of_≡, nonneg, add_mono, mul_mono_right}
use Rattle.algebra.proofs.Natural.{of_le}
use Rattle.algebra.proofs.Absolute.{abs_mul}
use Rattle.rounding.specs.Property.{off}
use Rattle.enclosure.specs.Arithmetic.{Arithmetic}
use Rattle.enclosure.specs.Sums.{sum}
use Rattle.enclosure.specs.Cell.{Cell}
use Rattle.enclosure.specs.Methods.{part, Range, five, entry, total, centre, mid_term, part_term, mid_size_term, part_size_term, largest_term}
use Rattle.enclosure.specs.Methods.{centre₇, size₅, error_bound, error₅, radius₅}
use Rattle.enclosure.specs.CentreError.{exact_centre, CentreWithin}
use Rattle.enclosure.proofs.Accepted.{bound}
use Rattle.enclosure.proofs.Sums.{sum_ext}
use Rattle.enclosure.proofs.Laws.{Laws, up_sum}
use Rattle.enclosure.proofs.Terms.{mids, parts}
use Rattle.enclosure.proofs.Covers.{ends_of}
use Rattle.enclosure.proofs.NearSum.{Followed, none_yet, follow, spacing_error}

-- ---- over whole numbers: g is the spacing of G, d the error of C or of G, in 1 / Q of a unit
within_bound : (P Q k g d : ℕ) (E : ℤ) → k ≤ P → 2 * d ≤ Q * ((0 + k + k + 2) * g + (0 + k + k)) → pos ((k + 1) * g + P) ≼ E → pos d ≼ E *ℤ pos Q
within_bound P Q k g d E few h l =
    let e : d ≤ ((k + 1) * g + P) * Q = omega (arith, mul-le-mul_left Q few) in
    ≼_trans (of_le e) (mul_mono_right (nonneg Q) l)

from_zero : (M N : ℤ) → pos 0 +ℤ M +ℤ N ≡ M +ℤ N
from_zero M N = by_ring (M ∷ N ∷ []) (search reading depth 20) tt

-- ---- of the cells
-- the exact sum of |mA × mB| and |pA × pB|
abbrev pub exact_size : (k : ℕ) (a b : ℕ → Cell) → ℤ
exact_size k a b = Σ< k (λ l. abs (mids a b l)) +ℤ Σ< k (λ l. abs (parts a b l))

-- what an accepted radius was made of
pub record Radius₅ (A : Arithmetic) (k : ℕ) (a b : ℕ → Cell) (r : ℤ) : Type 0 where
  pub reach : ℤ
  pub size : ℤ
  pub rest : ℤ
  pub error : ℤ
  pub twice : ℤ
  pub reach_is : total A k a b A.up (largest_term A) (pos 0) ≡ some reach
  pub size_is : size₅ A k a b ≡ some size
  pub rest_is : A.up 1 (reach -ℤ size) ≡ some rest
  pub error_is : error₅ A k a b ≡ some error
  pub twice_is : A.up 1 (pos 2 *ℤ error) ≡ some twice
  pub radius_is : A.up 1 (rest +ℤ twice) ≡ some r

pub radius₅_of : (A : Arithmetic) (k : ℕ) (a b : ℕ → Cell) {r : ℤ} → radius₅ A k a b ≡ some r → Radius₅ A k a b r
unfolding radius₅
radius₅_of A k a b h =
    let c₁ = bound _ _ h in
    let c₂ = bound _ _ c₁.then in
    let c₃ = bound _ _ c₂.then in
    let c₄ = bound _ _ c₃.then in
    let c₅ = bound _ _ c₄.then in
    record {
      reach = c₁.value;
      size = c₂.value;
      rest = c₃.value;
      error = c₄.value;
      twice = c₅.value;
      reach_is = c₁.first;
      size_is = c₂.first;
      rest_is = c₃.first;
      error_is = c₄.first;
      twice_is = c₅.first;
      radius_is = c₅.then;
    }

module _ {A : Arithmetic} (L : Laws A) (k : ℕ) (a b : ℕ → Cell) (few : k ≤ L.P) where
  open A use {up, near, units, spacing}
  open L use {P, normal_is}

  -- the terms of G are the magnitudes of those of C
  record Sizes (G : ℤ) : Type 0 where
    pub first : ℤ
    pub mids_are : sum (near 1) (λ l. near units (abs (mids a b l))) (pos 0) k ≡ some first
    pub parts_are : sum (near 1) (λ l. near units (abs (parts a b l))) first k ≡ some G

  sizes_of : {G : ℤ} → size₅ A k a b ≡ some G → Sizes G
  unfolding size₅ total mid_size_term part_size_term
  sizes_of h =
      let c = bound _ _ h in
      record {
        first = c.value;
        mids_are = sum_ext (near 1) _ _ (pos 0) k (λ l i. ap (near units) (abs_mul (a l).mid (b l).mid)) ∙ c.first;
        parts_are = sum_ext (near 1) _ _ c.value k (λ l i. ap (near units) (abs_mul (part (a l).mid (a l).rad) (part (b l).mid (b l).rad))) ∙ c.then;
      }

  centre_followed : {C G : ℤ} → centre₇ A k a b near ≡ some C → size₅ A k a b ≡ some G → Followed L (0 + k + k) C G (exact_centre k a b)
  unfolding centre₇ centre total mid_term part_term exact_centre
  centre_followed {C} {G} h g =
      let c = bound _ _ h in
      let z = sizes_of g in
      subst (Followed L (0 + k + k) C G) (from_zero (Σ< k (mids a b)) (Σ< k (parts a b)))
      (follow L (parts a b) k (follow L (mids a b) k (none_yet L) c.first z.mids_are) c.then z.parts_are)

  size_followed : {G H : ℤ} → size₅ A k a b ≡ some G → size₅ A k a b ≡ some H → Followed L (0 + k + k) G H (exact_size k a b)
  size_followed {G} {H} g h =
      let y = sizes_of g in
      let z = sizes_of h in
      subst (Followed L (0 + k + k) G H) (from_zero (Σ< k (λ l. abs (mids a b l))) (Σ< k (λ l. abs (parts a b l))))
      (follow L (λ l. abs (parts a b l)) k (follow L (λ l. abs (mids a b l)) k (none_yet L) y.mids_are z.mids_are) y.parts_are z.parts_are)

  -- E is not below (k + 1) × the spacing of G, plus P units
  record Error₅ (E : ℤ) : Type 0 where
    pub size : ℤ
    pub size_is : size₅ A k a b ≡ some size
    pub above : pos ((k + 1) * spacing size + P) ≼ E

  error₅_of : {E : ℤ} → error₅ A k a b ≡ some E → Error₅ E
  unfolding error₅ error_bound
  error₅_of h =
      let c = bound _ _ h in
      let d = bound _ _ c.then in
      record {
        size = c.value;
        size_is = c.first;
        above = ≼_trans (add_mono (up_sum L d.first) (≼_of_≡ (ap pos (sym normal_is)))) (up_sum L d.then);
      }

  -- ---- E bounds the errors of C and of G
  bounded : {s X E : ℤ} (r : Error₅ E) → Followed L (0 + k + k) s r.size X → abs (s *ℤ pos units -ℤ X) ≼ E *ℤ pos units
  bounded {s} {X} {E} r f = within_bound P units k (spacing r.size) (off units X s) E few (spacing_error L (omega (arith, few)) f) r.above

  pub centre_near : {C E : ℤ} → centre₇ A k a b near ≡ some C → error₅ A k a b ≡ some E → abs (C *ℤ pos units -ℤ exact_centre k a b) ≼ E *ℤ pos units
  centre_near c e = bounded (error₅_of e) (centre_followed c (error₅_of e).size_is)

  pub size_near : {G E : ℤ} → size₅ A k a b ≡ some G → error₅ A k a b ≡ some E → abs (G *ℤ pos units -ℤ exact_size k a b) ≼ E *ℤ pos units
  size_near g e = bounded (error₅_of e) (size_followed g (error₅_of e).size_is)

  -- ---- the demand on C
  pub centre_within : (e : Range) → entry A five k a b ≡ some e → CentreWithin A k a b
  unfolding entry
  centre_within e h =
      let c = ends_of A (radius₅ A k a b) (centre₇ A k a b near) (centre₇ A k a b near) h in
      let r = radius₅_of A k a b c.rad_is in
      record { C = c.minus; E = r.error; centre_is = c.minus_is; error_is = r.error_is; within = centre_near c.minus_is r.error_is }
