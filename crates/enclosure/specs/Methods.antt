-- One entry of a product by each of the five methods: every step is rounded, in the order given here. Definitions only.
-- The entry has k pairs of cells, a l and b l for l from 0 to k - 1. It is none where one of its steps overflows.
use Rattle.std.proofs.Math.Option.{Option, some, bind}
use Rattle.std.specs.Prelude.{ℕ, suc, ◌+◌, ◌*◌, ℤ, pos, negsuc, neg_ℤ, ◌+ℤ◌, ◌*ℤ◌, ◌-ℤ◌}
use Rattle.algebra.specs.Absolute.{abs}
use Rattle.algebra.specs.Extremes.{minℤ, least₄, greatest₄}
use Rattle.enclosure.specs.Arithmetic.{Arithmetic}
use Rattle.enclosure.specs.Sums.{sum}
use Rattle.enclosure.specs.Cell.{Cell}

pub data Method : Type 0 where
  classical : Method
  three : Method
  four : Method
  five : Method
  seven : Method

-- the bounds of an entry, in units
pub record Range : Type 0 where
  pub lower : ℤ
  pub upper : ℤ

-- p of methods 5 and 7 for a cell with midpoint m and radius r: sign(m) * min(|m|, r)
unfoldable pub part : ℤ → ℤ → ℤ
part (pos n) r = minℤ (pos n) r
part (negsuc n) r = neg_ℤ (minℤ (pos (suc n)) r)

module _ (A : Arithmetic) where
  open A use {up, down, near, units, eps, tiny, spacing, normal}

  -- ---- the rounded terms of one pair

  -- the least of the four corner products, each rounded down; the greatest, each rounded up
  unfoldable pub least_term : Cell → Cell → Option ℤ
  least_term a b =
      bind (down units (a.low *ℤ b.low)) λ p. bind (down units (a.low *ℤ b.high)) λ q. bind (down units (a.high *ℤ b.low)) λ r. bind (down units (a.high *ℤ b.high)) λ s. some (least₄ p q r s)

  unfoldable pub greatest_term : Cell → Cell → Option ℤ
  greatest_term a b =
      bind (up units (a.low *ℤ b.low)) λ p. bind (up units (a.low *ℤ b.high)) λ q. bind (up units (a.high *ℤ b.low)) λ r. bind (up units (a.high *ℤ b.high)) λ s. some (greatest₄ p q r s)

  -- |mA| × rB
  unfoldable pub inner_term : Cell → Cell → Option ℤ
  inner_term a b = up units (abs a.mid *ℤ b.rad)

  -- |m| + r for a cell
  unfoldable pub outer_radius : ℤ → ℤ → Option ℤ
  outer_radius m r = up 1 (abs m +ℤ r)

  -- rA × (|mB| + rB)
  unfoldable pub outer_term : Cell → Cell → Option ℤ
  outer_term a b = bind (outer_radius b.mid b.rad) λ w. up units (a.rad *ℤ w)

  -- method 3's rB' for a cell: (f × |m|) + r, for f = (k + 2) × 2^-24
  unfoldable pub raised_radius : ℤ → ℤ → ℤ → Option ℤ
  raised_radius f m r = bind (up units (f *ℤ abs m)) λ t. up 1 (t +ℤ r)

  -- |mA| × rB'
  unfoldable pub raised_term : ℕ → Cell → Cell → Option ℤ
  raised_term k a b = bind (raised_radius (pos ((k + 2) * eps)) b.mid b.rad) λ r. up units (abs a.mid *ℤ r)

  -- -|pA| × |pB|
  unfoldable pub shared_term : Cell → Cell → Option ℤ
  shared_term a b = up units (neg_ℤ (abs (part a.mid a.rad) *ℤ abs (part b.mid b.rad)))

  -- mA × mB and pA × pB, rounded by `way`
  unfoldable pub mid_term : (ℕ → ℤ → Option ℤ) → Cell → Cell → Option ℤ
  mid_term way a b = way units (a.mid *ℤ b.mid)

  unfoldable pub part_term : (ℕ → ℤ → Option ℤ) → Cell → Cell → Option ℤ
  part_term way a b = way units (part a.mid a.rad *ℤ part b.mid b.rad)

  -- |mA| × |mB| and |pA| × |pB|, to nearest
  unfoldable pub mid_size_term : Cell → Cell → Option ℤ
  mid_size_term a b = near units (abs a.mid *ℤ abs b.mid)

  unfoldable pub part_size_term : Cell → Cell → Option ℤ
  part_size_term a b = near units (abs (part a.mid a.rad) *ℤ abs (part b.mid b.rad))

  -- (|mA| + rA) × (|mB| + rB)
  unfoldable pub largest_term : Cell → Cell → Option ℤ
  largest_term a b = bind (outer_radius a.mid a.rad) λ v. bind (outer_radius b.mid b.rad) λ w. up units (v *ℤ w)

  -- E of method 5, the bound on the error of C, for k pairs and G = g: (k + 1) × spacing(g), then + 2^-126
  unfoldable pub error_bound : ℕ → ℤ → Option ℤ
  error_bound k g = bind (up 1 (pos ((k + 1) * spacing g))) λ e. up 1 (e +ℤ pos normal)

  module _ (k : ℕ) (a b : ℕ → Cell) where
    -- s plus the sum of a term over the k pairs, each addition rounded by `way`
    unfoldable pub total : (ℕ → ℤ → Option ℤ) → (Cell → Cell → Option ℤ) → ℤ → Option ℤ
    total way term s = sum (way 1) (λ l. term (a l) (b l)) s k

    -- ---- method 1
    unfoldable pub entry₁ : Option Range
    entry₁ = bind (total down least_term (pos 0)) λ l. bind (total up greatest_term (pos 0)) λ u. some (record { lower = l; upper = u })

    -- ---- methods 3, 4, 5 and 7: the radius R, and the centre, which is the sum over midpoints and, by methods 5 and 7, parts
    unfoldable pub radius₄ : Option ℤ
    radius₄ = bind (total up inner_term (pos 0)) λ s. total up outer_term s

    unfoldable pub radius₇ : Option ℤ
    radius₇ = bind radius₄ λ s. total up shared_term s

    unfoldable pub radius₃ : Option ℤ
    radius₃ = bind (total up (raised_term k) (pos 0)) λ s. bind (up 1 (s +ℤ pos tiny)) λ t. total up outer_term t

    unfoldable pub centre : (ℕ → ℤ → Option ℤ) → Option ℤ
    centre way = total way (mid_term way) (pos 0)

    unfoldable pub centre₇ : (ℕ → ℤ → Option ℤ) → Option ℤ
    centre₇ way = bind (centre way) λ s. total way (part_term way) s

    -- ---- method 5: C is the centre of method 7, to nearest. G sums the magnitudes of its terms in the same order
    unfoldable pub size₅ : Option ℤ
    size₅ = bind (total near mid_size_term (pos 0)) λ s. total near part_size_term s

    -- E
    unfoldable pub error₅ : Option ℤ
    error₅ = bind size₅ λ g. error_bound k g

    -- R: the sum of (|mA| + rA) × (|mB| + rB), then - G, then + 2 × E
    unfoldable pub radius₅ : Option ℤ
    radius₅ =
        bind (total up largest_term (pos 0)) λ s. bind size₅ λ g. bind (up 1 (s -ℤ g)) λ t. bind error₅ λ e. bind (up 1 (pos 2 *ℤ e)) λ d. up 1 (t +ℤ d)

  -- ---- the bounds: lower centre - R rounded down, upper centre + R rounded up
  unfoldable pub ends : Option ℤ → Option ℤ → Option ℤ → Option Range
  ends radius low high =
      bind radius λ r. bind low λ s. bind high λ t. bind (down 1 (s -ℤ r)) λ l. bind (up 1 (t +ℤ r)) λ u. some (record { lower = l; upper = u })

  -- the entry by a method
  unfoldable pub entry : Method → (k : ℕ) (a b : ℕ → Cell) → Option Range
  entry classical k a b = entry₁ k a b
  entry three k a b = ends (radius₃ k a b) (centre k a b near) (centre k a b near)
  entry four k a b = ends (radius₄ k a b) (centre k a b down) (centre k a b up)
  entry five k a b = ends (radius₅ k a b) (centre₇ k a b near) (centre₇ k a b near)
  entry seven k a b = ends (radius₇ k a b) (centre₇ k a b down) (centre₇ k a b up)
