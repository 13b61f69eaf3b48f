-- The conversion of two numbers of a format is never refused, and no pair of numbers that encloses [a, b] has a smaller radius than the pair
-- that it gives. Every valid cell is as `Converted` asks. Assumes nothing.
use mathlib.Core.Path.{◌≡◌, sym, ◌∙◌, ap, subst}
use mathlib.Core.List.{[], ◌∷◌}
use mathlib.Core.Logic.{⊎_elim}
use mathlib.Core.Option.{some, get_or}
use Prim.Native.Nat.{ℕ, ◌*◌, ◌<◌}
use native.Mathlib.Omega.{arith}
use lib.IntN.{ℤ, pos, neg_ℤ, ◌+ℤ◌, ◌*ℤ◌, ◌-ℤ◌}
use Rattle.algebra.specs.Order.{◌≼◌}
use Rattle.algebra.proofs.Linear.{reading, le, lin_le}
use Rattle.algebra.proofs.Order.{≼_trans, ≼_antisym, ≼_of_≺, ≼_or_≺, gap_nonneg}
use Rattle.algebra.proofs.Absolute.{nat_abs_add}
use Rattle.algebra.proofs.Extremes.{≼_max_l}
use Rattle.rounding.specs.Format.{Format, half, MAX, Num}
use Rattle.rounding.specs.Rounding.{up, near}
use Rattle.rounding.specs.Property.{IsUp, IsNear}
use Rattle.rounding.proofs.Sign.{num_zero, num_le, num_neg, neg_le_pos}
use Rattle.rounding.proofs.Directed.{up_is, up_number}
use Rattle.rounding.proofs.Nearest.{near_is}
use Rattle.rounding.proofs.NearestLaws.{near_le, near_ge, near_within}
use Rattle.rounding.proofs.Error.{up_err, near_err}
use Rattle.enclosure.specs.Arithmetic.{of}
use Rattle.enclosure.specs.Cell.{Cell}
use Rattle.enclosure.specs.Conversion.{farther, mid, rad, cell_of}
use Rattle.enclosure.specs.Optimal.{Enclosing, Optimal}
use Rattle.enclosure.specs.Demand.{Valid}
use Rattle.enclosure.proofs.Converted.{Converted}
use Rattle.enclosure.proofs.Laws.{one}
use Rattle.enclosure.proofs.Magnitude.{sum_size}
use Rattle.enclosure.proofs.Farther.{low_reached, high_reached, farther_least, lower_farther, upper_farther, off_is, farther_closer, radius_tight}

two : 0 < 2
two = omega arith

module _ (f : Format) {a b : ℤ} (na : Num f a) (nb : Num f b) where
  abbrev m : ℤ
  m = mid (of f) a b

  abbrev r : ℤ
  r = rad (of f) a b

  -- ---- the midpoint: the sum of two numbers is at most twice the largest one
  mid_is : near f 2 (a +ℤ b) ≡ some m
  unfolding mid
  mid_is =
      let u = near_within f 2 two (a +ℤ b) (omega (arith, nat_abs_add a b, na.within, nb.within)) in
      u.1 ∙ ap some (sym (ap (λ z. get_or z (pos 0)) u.1))

  nearest : IsNear f 2 (a +ℤ b) m
  nearest = near_is f 2 two mid_is

  -- ---- the radius: m is at least as near to (a + b) / 2 as 0 is, and <0, MAX> encloses all numbers, so the farther bound is at most MAX away
  room : farther a b m ≼ pos (MAX f * 1)
  room =
      let h : farther a b m ≼ farther a b (pos 0) = farther_closer a b m (pos 0) (nearest.closer (pos 0) (num_zero f).form) in
      within (MAX f) (≼_trans h (farther_least a b (pos 0) (low (num_le (num_neg na))) (high (num_le nb))))
    where
      within : (n : ℕ) → farther a b m ≼ pos n → farther a b m ≼ pos (n * 1)
      within n h = lin_le (pos n ∷ farther a b m ∷ []) (le h ∷ []) (search reading depth 20) (omega arith)

      low : {n : ℕ} → neg_ℤ a ≼ pos n → pos 0 -ℤ pos n ≼ a
      low {n} h = lin_le (pos n ∷ a ∷ []) (le h ∷ []) (search reading depth 20) (omega arith)

      high : {n : ℕ} → b ≼ pos n → b ≼ pos 0 +ℤ pos n
      high {n} h = lin_le (pos n ∷ b ∷ []) (le h ∷ []) (search reading depth 20) (omega arith)

  rad_is : up f 1 (farther a b m) ≡ some r
  unfolding rad
  rad_is = let u = up_number f 1 one room in u.1 ∙ ap some (sym (ap (λ z. get_or z (pos 0)) u.1))

  least : IsUp f 1 (farther a b m) r
  least = up_is f 1 one rad_is

  reached : farther a b m ≼ r
  reached = lin_le (farther a b m ∷ r ∷ []) (le least.above ∷ []) (search reading depth 20) (omega arith)

  pub never_refused : (near f 2 (a +ℤ b) ≡ some (mid (of f) a b)) × (up f 1 (farther a b (mid (of f) a b)) ≡ some (rad (of f) a b))
  never_refused = (mid_is, rad_is)

  -- ---- the midpoint rounded up
  pub mid_up : (u : ℤ) × (up f 2 (a +ℤ b) ≡ some u)
  mid_up = up_number f 2 two (sum (MAX f) (num_le na) (num_le nb))
    where
      sum : (n : ℕ) → a ≼ pos n → b ≼ pos n → a +ℤ b ≼ pos (n * 2)
      sum n h k = lin_le (pos n ∷ a ∷ b ∷ []) (le h ∷ le k ∷ []) (search reading depth 20) (omega arith)

  -- ---- the radius from one side: where m is also the midpoint rounded up the lower bound is the farther one, else the upper
  pub rad_lower : up f 2 (a +ℤ b) ≡ some (mid (of f) a b) → up f 1 (mid (of f) a b -ℤ a) ≡ some (rad (of f) a b)
  rad_lower h = sym (ap (up f 1) (lower_farther a b m (up_is f 2 two h).above)) ∙ rad_is

  pub rad_upper : {u : ℤ} → up f 2 (a +ℤ b) ≡ some u → (mid (of f) a b ≡ u → ⊥) → up f 1 (b -ℤ mid (of f) a b) ≡ some (rad (of f) a b)
  rad_upper {u} h other = sym (ap (up f 1) (upper_farther a b m below)) ∙ rad_is
    where
      v : IsUp f 2 (a +ℤ b) u
      v = up_is f 2 two h

      same : a +ℤ b ≼ m *ℤ pos 2 → m ≡ u
      same l = ≼_antisym (near_le f 2 two nearest u v.num.form v.above) (v.least m nearest.num l)

      below : m *ℤ pos 2 ≼ a +ℤ b
      below = ⊎_elim (λ l. absurd (other (same l))) (λ l. ≼_of_≺ l) (≼_or_≺ (a +ℤ b) (m *ℤ pos 2))

  -- ---- of all pairs that enclose, this one has the least radius
  pub conversion_optimal : Optimal f a b (mid (of f) a b) (rad (of f) a b)
  conversion_optimal = record { encloses = encloses; least = smallest }
    where
      encloses : Enclosing f a b m r
      encloses = record { mid_number = nearest.num; rad_number = least.num; low_reached = low_reached a b m reached; high_reached = high_reached a b m reached }

      smallest : (n s : ℤ) → Enclosing f a b n s → r ≼ s
      smallest n s e =
          let h : farther a b m ≼ farther a b n = farther_closer a b m n (nearest.closer n e.mid_number.form) in
          let k : farther a b n ≼ s = farther_least a b n e.low_reached e.high_reached in
          least.least s e.rad_number (lin_le (farther a b m ∷ farther a b n ∷ s ∷ []) (le h ∷ le k ∷ []) (search reading depth 20) (omega arith))

  -- ---- what enclosure and width ask
  module _ (o : a ≼ b) where
    low_not_above : a ≼ m
    low_not_above = near_ge f 2 two nearest a na.form (lin_le (a ∷ b ∷ []) (le o ∷ []) (search reading depth 20) (omega arith))

    high_not_below : m ≼ b
    high_not_below = near_le f 2 two nearest b nb.form (lin_le (a ∷ b ∷ []) (le o ∷ []) (search reading depth 20) (omega arith))

    distance_nonneg : pos 0 ≼ farther a b m
    distance_nonneg = ≼_trans (gap_nonneg low_not_above) (≼_max_l (m -ℤ a) (b -ℤ m))

    rad_nonneg : pos 0 ≼ r
    rad_nonneg = ≼_trans distance_nonneg reached

    pub cell_converted : Converted (half f) (cell_of (of f) a b)
    cell_converted =
        record {
          mid_above = low_not_above;
          mid_below = high_not_below;
          rad_nonneg = rad_nonneg;
          covers_low = low_reached a b m reached;
          covers_high = high_reached a b m reached;
          centred = omega (arith, (near_err f 2 two nearest).bound, ap (λ n. 2 * half f * n) (off_is a b m));
          tight = radius_tight (half f) a b m r distance_nonneg rad_nonneg (sum_size (up_err f 1 one least (≼_trans (neg_le_pos (MAX f * 1) 0) distance_nonneg)));
        }

pub valid_converted : (f : Format) (c : Cell) → Valid f c → Converted (half f) c
valid_converted f c v = subst (λ z. Converted (half f) z) (sym v.converted) (cell_converted f v.low_number v.high_number v.ordered)
