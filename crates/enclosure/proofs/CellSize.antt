-- The sizes of a converted cell against its largest magnitude: |m| and r, how far m is off the middle, and twice the middle, |low + high|.
use mathlib.Core.Path.{◌≡◌, sym, subst, subst₂}
use mathlib.Core.List.{List, [], ◌∷◌}
use Prim.Native.Nat.{ℕ, ◌+◌, ◌*◌, ◌≤◌}
use native.Mathlib.Omega.{arith}
use native.Mathlib.Nat.{mul-le-mul_left}
use lib.IntN.{ℤ, pos, nat_abs, ◌+ℤ◌, ◌*ℤ◌, ◌-ℤ◌}
use Rattle.algebra.specs.Order.{◌≼◌}
use Rattle.algebra.specs.Absolute.{abs}
use Rattle.algebra.proofs.Linear.{reading, le, eq, lin_le}
use Rattle.algebra.proofs.Order.{≼_trans, ≼_of_≡, gap_nonneg}
use Rattle.algebra.proofs.Natural.{to_le, of_le}
use Rattle.algebra.proofs.Absolute.{abs_split, ≼_abs, neg_≼_abs, abs_≼}
use Rattle.enclosure.specs.Cell.{Cell, largest}
use Rattle.enclosure.proofs.Within.{abs_nonneg}
use Rattle.enclosure.proofs.Converted.{Converted, bounds_ordered}

-- ---- over whole numbers: l ≤ h, and t is at least |l| and |h|
module _ (l h : ℤ) (o : l ≼ h) where
  sum_and_width_≼ : (t : ℤ) → abs l ≼ t → abs h ≼ t → abs (l +ℤ h) +ℤ (h -ℤ l) ≼ pos 2 *ℤ t
  sum_and_width_≼ t p q =
      abs_split (l +ℤ h)
      (λ _ e. lin_le (l ∷ h ∷ t ∷ abs h ∷ abs (l +ℤ h) ∷ []) (eq e ∷ le q ∷ le (≼_abs h) ∷ []) (search reading depth 30) (omega arith))
      (λ _ e. lin_le (l ∷ h ∷ t ∷ abs l ∷ abs (l +ℤ h) ∷ []) (eq e ∷ le p ∷ le (neg_≼_abs l) ∷ []) (search reading depth 30) (omega arith))

  high_≼_sum_and_width : pos 2 *ℤ abs h ≼ abs (l +ℤ h) +ℤ (h -ℤ l)
  high_≼_sum_and_width =
      let ρ : List ℤ = l ∷ h ∷ abs h ∷ abs (l +ℤ h) ∷ [] in
      abs_split h
      (λ _ e. lin_le ρ (eq e ∷ le (≼_abs (l +ℤ h)) ∷ []) (search reading depth 30) (omega arith))
      (λ _ e. lin_le ρ (eq e ∷ le (neg_≼_abs (l +ℤ h)) ∷ le o ∷ []) (search reading depth 30) (omega arith))

  low_≼_sum_and_width : pos 2 *ℤ abs l ≼ abs (l +ℤ h) +ℤ (h -ℤ l)
  low_≼_sum_and_width =
      let ρ : List ℤ = l ∷ h ∷ abs l ∷ abs (l +ℤ h) ∷ [] in
      abs_split l
      (λ _ e. lin_le ρ (eq e ∷ le (≼_abs (l +ℤ h)) ∷ le o ∷ []) (search reading depth 30) (omega arith))
      (λ _ e. lin_le ρ (eq e ∷ le (neg_≼_abs (l +ℤ h)) ∷ []) (search reading depth 30) (omega arith))

  module _ (m : ℤ) (p : l ≼ m) (q : m ≼ h) where
    off_≼_width : abs (pos 2 *ℤ m -ℤ (l +ℤ h)) ≼ h -ℤ l
    off_≼_width =
        abs_≼ (pos 2 *ℤ m -ℤ (l +ℤ h)) (lin_le (l ∷ h ∷ m ∷ []) (le p ∷ le q ∷ []) (search reading depth 30) (omega arith))
        (lin_le (l ∷ h ∷ m ∷ []) (le p ∷ le q ∷ []) (search reading depth 30) (omega arith))

    mid_≼ : (t : ℤ) → abs l ≼ t → abs h ≼ t → abs m ≼ t
    mid_≼ t i j =
        abs_≼ m (lin_le (h ∷ m ∷ t ∷ abs h ∷ []) (le q ∷ le j ∷ le (≼_abs h) ∷ []) (search reading depth 30) (omega arith))
        (lin_le (l ∷ m ∷ t ∷ abs l ∷ []) (le p ∷ le i ∷ le (neg_≼_abs l) ∷ []) (search reading depth 30) (omega arith))

-- m against s / 2
module _ (m s : ℤ) where
  double_mid_≼ : pos 2 *ℤ abs m ≼ abs s +ℤ abs (pos 2 *ℤ m -ℤ s)
  double_mid_≼ =
      let d : ℤ = abs (pos 2 *ℤ m -ℤ s) in
      let ρ : List ℤ = m ∷ s ∷ abs m ∷ abs s ∷ d ∷ [] in
      abs_split m
      (λ _ e. lin_le ρ (eq e ∷ le (≼_abs s) ∷ le (≼_abs (pos 2 *ℤ m -ℤ s)) ∷ []) (search reading depth 30) (omega arith))
      (λ _ e. lin_le ρ (eq e ∷ le (neg_≼_abs s) ∷ le (neg_≼_abs (pos 2 *ℤ m -ℤ s)) ∷ []) (search reading depth 30) (omega arith))

  ≼_double_mid : abs s ≼ pos 2 *ℤ abs m +ℤ abs (pos 2 *ℤ m -ℤ s)
  ≼_double_mid =
      let d : ℤ = abs (pos 2 *ℤ m -ℤ s) in
      let ρ : List ℤ = m ∷ s ∷ abs m ∷ abs s ∷ d ∷ [] in
      abs_split s
      (λ _ e. lin_le ρ (eq e ∷ le (≼_abs m) ∷ le (neg_≼_abs (pos 2 *ℤ m -ℤ s)) ∷ []) (search reading depth 30) (omega arith))
      (λ _ e. lin_le ρ (eq e ∷ le (neg_≼_abs m) ∷ le (≼_abs (pos 2 *ℤ m -ℤ s)) ∷ []) (search reading depth 30) (omega arith))

-- as naturals, where r and w stand for integers that are not negative
to_naturals : (P r w d : ℕ) (R W : ℤ) → pos r ≡ R → pos w ≡ W → pos (2 * P) *ℤ R ≼ pos (P + 1) *ℤ (W +ℤ pos d) → 2 * P * r ≤ (P + 1) * (w + d)
to_naturals P r w d R W e f h =
    let h' : pos (2 * P) *ℤ pos r ≼ pos (P + 1) *ℤ (pos w +ℤ pos d) =
    subst₂ (λ x y. pos (2 * P) *ℤ x ≼ pos (P + 1) *ℤ (y +ℤ pos d)) (sym e) (sym f) h in
    to_le h'

-- ---- the numbers of a cell
-- |m| + r
abbrev pub reach : Cell → ℕ
reach c = nat_abs c.mid + nat_abs c.rad

abbrev pub twice_middle : Cell → ℕ
twice_middle c = nat_abs (c.low +ℤ c.high)

abbrev pub wide : Cell → ℕ
wide c = nat_abs (c.high -ℤ c.low)

abbrev off_middle : Cell → ℕ
off_middle c = nat_abs (pos 2 *ℤ c.mid -ℤ (c.low +ℤ c.high))

low_≤_largest : (c : Cell) → nat_abs c.low ≤ largest c
unfolding largest
low_≤_largest c = omega arith

high_≤_largest : (c : Cell) → nat_abs c.high ≤ largest c
unfolding largest
high_≤_largest c = omega arith

module _ {P : ℕ} (c : Cell) (o : Converted P c) where
  pub wide_is : pos (wide c) ≡ c.high -ℤ c.low
  wide_is = abs_nonneg (c.high -ℤ c.low) (gap_nonneg (bounds_ordered o))

  -- twice the largest magnitude is |low + high| and the width
  pub middle_and_width_≤ : twice_middle c + wide c ≤ 2 * largest c
  middle_and_width_≤ =
      let h = sum_and_width_≼ c.low c.high (bounds_ordered o) (pos (largest c)) (of_le (low_≤_largest c)) (of_le (high_≤_largest c)) in
      to_le (subst (λ z. abs (c.low +ℤ c.high) +ℤ z ≼ pos 2 *ℤ pos (largest c)) (sym wide_is) h)

  pub largest_≤ : 2 * largest c ≤ twice_middle c + wide c
  unfolding largest
  largest_≤ =
      let p : 2 * nat_abs c.low ≤ twice_middle c + wide c =
      to_le (subst (λ z. pos 2 *ℤ abs c.low ≼ abs (c.low +ℤ c.high) +ℤ z) (sym wide_is) (low_≼_sum_and_width c.low c.high (bounds_ordered o))) in
      let q : 2 * nat_abs c.high ≤ twice_middle c + wide c =
      to_le (subst (λ z. pos 2 *ℤ abs c.high ≼ abs (c.low +ℤ c.high) +ℤ z) (sym wide_is) (high_≼_sum_and_width c.low c.high (bounds_ordered o))) in
      omega (arith, p, q)

  pub mid_≤_largest : nat_abs c.mid ≤ largest c
  mid_≤_largest =
      to_le (mid_≼ c.low c.high (bounds_ordered o) c.mid o.mid_above o.mid_below (pos (largest c))
      (of_le (low_≤_largest c)) (of_le (high_≤_largest c)))

  off_≤_width : off_middle c ≤ wide c
  off_≤_width = to_le (≼_trans (off_≼_width c.low c.high (bounds_ordered o) c.mid o.mid_above o.mid_below) (≼_of_≡ (sym wide_is)))

  rad_≤ : 2 * P * nat_abs c.rad ≤ (P + 1) * (wide c + off_middle c)
  rad_≤ = to_naturals P (nat_abs c.rad) (wide c) (off_middle c) c.rad (c.high -ℤ c.low) (abs_nonneg c.rad o.rad_nonneg) wide_is o.tight

  pub reach_≤ : P * reach c ≤ (P + 2) * largest c + P
  reach_≤ =
      plain P (nat_abs c.mid) (nat_abs c.rad) (twice_middle c) (wide c) (off_middle c) (largest c)
      (to_le (double_mid_≼ c.mid (c.low +ℤ c.high))) middle_and_width_≤ off_≤_width o.centred rad_≤
    where
      plain : (P m r M w d t : ℕ) → 2 * m ≤ M + d → M + w ≤ 2 * t → d ≤ w → P * d ≤ M + P → 2 * P * r ≤ (P + 1) * (w + d) → P * (m + r) ≤ (P + 2) * t + P
      plain P m r M w d t h₁ h₂ h₃ h₄ h₅ = omega (arith, mul-le-mul_left P h₁, mul-le-mul_left P h₂)

  pub middle_≤ : P * twice_middle c ≤ P * (2 * nat_abs c.mid) + 2 * largest c + P
  middle_≤ =
      let m : twice_middle c ≤ 2 * nat_abs c.mid + off_middle c = to_le (≼_double_mid c.mid (c.low +ℤ c.high)) in
      omega (arith, mul-le-mul_left P m, middle_and_width_≤, o.centred)
