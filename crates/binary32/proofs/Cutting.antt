-- What `cut` computes: the three roundings of s * 2 ^ e / 2 ^ 149 from one signed shift of s, which is first shifted up to 61 digits.
use mathlib.Core.Path.{◌≡◌, refl, sym, ap, ap₂, ◌∙◌, subst}
use mathlib.Core.List.{[], ◌∷◌}
use mathlib.Core.Logic.{inr}
use Prim.Native.Nat.{ℕ, suc, ◌+◌, ◌-◌, ◌*◌, ◌^◌, ◌≤◌, ◌<◌, min}
use native.Mathlib.Omega.{arith, by_contra}
use native.Mathlib.Nat.{mul-pos, zero-mul, lt_of_lt_of_le, lt_of_le_of_lt, not-le_of_lt}
use lib.Pow.{pow_pos, pow-add, pow_mono}
use lib.Count.{count_leading_zeros, leading_top}
use lib.IntN.{ℤ, pos, nat_abs, ◌*ℤ◌}
use lib.Ieee.{size}
use lib.Ieee.Digits.{size-lt}
use Rattle.algebra.proofs.Absolute.{nat_abs_mul}
use Rattle.algebra.proofs.Reading.{by_ring}
use Rattle.algebra.proofs.Linear.{reading}
use Rattle.rounding.specs.Format.{binary32, MAX, expo}
use Rattle.rounding.specs.Rounding.{ceil, lo, hi, nr, up, down, near}
use Rattle.rounding.specs.Pattern.{encode}
use Rattle.rounding.proofs.DirectedLaws.{up_scale, down_scale}
use Rattle.rounding.proofs.NearestLaws.{near_scale}
use Rattle.rounding.proofs.Shift.{size_only, size_shl}
use Rattle.binary32.specs.declared.funnel.Ways.{Ways}
use Rattle.binary32.specs.Number.{hold_down, hold_up, hold_near, infinity, largest, least, minus_infinity}
use Rattle.binary32.specs.Steps.{packed, Split, IsCut}
use Rattle.binary32.proofs.LongShifts.{near_split}
use Rattle.binary32.proofs.Signs.{Scaled, sign_up, sign_near, sign_down, few_up, few_near, few_down}

-- ---- s * 2 ^ e, its significand shifted up by z places
module _ (s : ℤ) (e z K : ℕ) where
  moved : s *ℤ pos (2 ^ z) *ℤ pos (2 ^ e) ≡ pos (2 ^ z) *ℤ (s *ℤ pos (2 ^ e))
  moved = by_ring (s ∷ pos (2 ^ z) ∷ pos (2 ^ e) ∷ []) (search reading depth 20) tt

  pub moved_up : up binary32 (2 ^ (z + K)) (s *ℤ pos (2 ^ z) *ℤ pos (2 ^ e)) ≡ up binary32 (2 ^ K) (s *ℤ pos (2 ^ e))
  moved_up =
      ap₂ (up binary32) (pow-add 2 z K) moved ∙ up_scale binary32 (2 ^ z) (2 ^ K) (pow_pos z) (pow_pos K) (s *ℤ pos (2 ^ e))

  pub moved_down : down binary32 (2 ^ (z + K)) (s *ℤ pos (2 ^ z) *ℤ pos (2 ^ e)) ≡ down binary32 (2 ^ K) (s *ℤ pos (2 ^ e))
  moved_down =
      ap₂ (down binary32) (pow-add 2 z K) moved ∙ down_scale binary32 (2 ^ z) (2 ^ K) (pow_pos z) (pow_pos K) (s *ℤ pos (2 ^ e))

  moved_near : near binary32 (2 ^ (z + K)) (s *ℤ pos (2 ^ z) *ℤ pos (2 ^ e)) ≡ near binary32 (2 ^ K) (s *ℤ pos (2 ^ e))
  moved_near =
      ap₂ (near binary32) (pow-add 2 z K) moved ∙ near_scale binary32 (2 ^ z) (2 ^ K) (pow_pos z) (pow_pos K) (s *ℤ pos (2 ^ e))

-- the count of leading zeros, of a number of at most 61 digits
pub record Zeros (a zeros : ℕ) : Type 0 where
  pub long : size a + zeros ≡ 64
  pub three : 3 ≤ zeros
  pub less : zeros < 64

pub zeros_of : (a : ℕ) → 0 < a → a < 2 ^ 61 → Zeros a (count_leading_zeros 64 a)
zeros_of a p h =
    let t = leading_top 64 a p (lt_of_lt_of_le h (pow_mono {i = 61} {j = 64} (omega arith))) in
    let l : size a ≡ suc t.0 = length t.0 t.3 t.2 in
    record { long = omega (arith, t.1); three = omega (arith, t.1, short t.0 t.2); less = omega (arith, t.1) }
  where
    length : (j : ℕ) → a < 2 ^ suc j → 2 ^ j ≤ a → size a ≡ suc j
    length j u l = size_only a (suc j) u (inr (subst (λ x. 2 ^ x ≤ a) (back j) l))
      where
        back : (j : ℕ) → j ≡ suc j - 1
        back j = omega arith

    short : (j : ℕ) → 2 ^ j ≤ a → j < 61
    short j l = by_contra (suc j) 61 (λ (g : 61 < suc j). not-le_of_lt (lt_of_le_of_lt l h) (pow_mono {i = 61} {j = j} (omega arith)))

-- ---- the significand in 61 digits: the shift down is 210 - kept places, the exponent field top - kept
module _ (s : ℤ) (e zeros : ℕ) (p : 0 < nat_abs s) (o : Zeros (nat_abs s) zeros) where
  abbrev top : ℕ
  top = 64 - zeros + e

  abbrev kept : ℕ
  kept = min top 173

  abbrev wide : ℤ
  wide = s *ℤ pos (2 ^ (zeros - 3))

  wide_abs : nat_abs wide ≡ nat_abs s * 2 ^ (zeros - 3)
  wide_abs = nat_abs_mul s (pos (2 ^ (zeros - 3)))

  wide_size : size (nat_abs wide) ≡ 61
  wide_size = ap size wide_abs ∙ size_shl (nat_abs s) (zeros - 3) p ∙ sum (size (nat_abs s)) o.long
    where
      sum : (l : ℕ) → l + zeros ≡ 64 → l + (zeros - 3) ≡ 61
      sum l h = omega (arith, o.three)

  pub wide_short : nat_abs wide < 2 ^ 61
  wide_short = subst (λ x. nat_abs wide < 2 ^ x) wide_size (size-lt (nat_abs wide))

  wide_some : 0 < nat_abs wide
  wide_some = omega (arith, wide_abs, mul-pos p (pow_pos (zeros - 3)))

  wide_scaled : Scaled (zeros - 3 + 149) e (210 - kept) (top - kept) wide
  wide_scaled = record {
    some_digit = wide_some;
    digits = omega (arith, wide_size, o.three, o.less);
    dropped = omega (arith, o.three, o.less);
  }

  pub cut_is : (r : Ways) → e ≤ 600 → Split wide (2 ^ min (210 - kept) 62) (top - kept) r → IsCut (s *ℤ pos (2 ^ e)) r
  cut_is r low h = go (near_split wide (210 - kept) (top - kept) r wide_short h)
    where
      K : ℕ
      K = zeros - 3 + 149

      go : Split wide (2 ^ (210 - kept)) (top - kept) r → IsCut (s *ℤ pos (2 ^ e)) r
      go h = record {
        downs =
            ap₂ (λ c j. packed c j minus_infinity largest) h.downs h.shifts
            ∙ sign_down K e (210 - kept) (top - kept) wide wide_scaled ∙ ap hold_down (moved_down s e (zeros - 3) 149);
        ups =
            ap₂ (λ c j. packed c j least infinity) h.ups h.shifts
            ∙ sign_up K e (210 - kept) (top - kept) wide wide_scaled ∙ ap hold_up (moved_up s e (zeros - 3) 149);
        nears =
            ap₂ (λ c j. packed c j infinity infinity) h.nears h.shifts
            ∙ sign_near K e (210 - kept) (top - kept) wide wide_scaled ∙ ap hold_near (moved_near s e (zeros - 3) 149);
        down_few = subst (λ c. nat_abs c ≤ 2 ^ 24) (sym h.downs) (few_down K e (210 - kept) (top - kept) wide wide_scaled);
        up_few = subst (λ c. nat_abs c ≤ 2 ^ 24) (sym h.ups) (few_up K e (210 - kept) (top - kept) wide wide_scaled);
        near_few = subst (λ c. nat_abs c ≤ 2 ^ 24) (sym h.nears) (few_near K e (210 - kept) (top - kept) wide wide_scaled);
        low = omega (arith, h.shifts);
      }

-- ---- what the code of `cut` found: w is s in 61 digits
module _ (s w : ℤ) (e zeros : ℕ) (r : Ways) (p : 0 < nat_abs s) (o : Zeros (nat_abs s) zeros) (low : e ≤ 600) (ew : w ≡ s *ℤ pos (2 ^ (zeros - 3))) where
  cut_found : (k n shift : ℕ) → min (64 - zeros + e) 173 ≡ k → min (210 - k) 62 ≡ n → 64 - zeros + e - k ≡ shift
      → Split w (2 ^ n) shift r → IsCut (s *ℤ pos (2 ^ e)) r
  cut_found k n shift ek en es h =
      cut_is s e zeros p o r low
      (subst (λ k. Split (s *ℤ pos (2 ^ (zeros - 3))) (2 ^ min (210 - k) 62) (64 - zeros + e - k) r) (sym ek)
      (subst (λ j. Split (s *ℤ pos (2 ^ (zeros - 3))) (2 ^ min (210 - k) 62) j r) (sym es)
      (subst (λ x. Split (s *ℤ pos (2 ^ (zeros - 3))) (2 ^ x) shift r) (sym en)
      (subst (λ x. Split x (2 ^ n) shift r) ew h))))

  -- from 2 ^ 24 units on
  pub cut_large : 173 ≤ 64 - zeros + e → Split w (2 ^ 37) (64 - zeros + e - 173) r → IsCut (s *ℤ pos (2 ^ e)) r
  cut_large t h = cut_found 173 37 (64 - zeros + e - 173) (omega arith) refl refl h

  -- below
  pub cut_low : (n : ℕ) → 64 - zeros + e < 173 → n ≡ min (210 - (64 - zeros + e)) 62 → Split w (2 ^ n) 0 r → IsCut (s *ℤ pos (2 ^ e)) r
  cut_low n t en h = cut_found (64 - zeros + e) n 0 (omega arith) (sym en) (omega arith) h

-- of zero
abbrev none_cut : Ways
none_cut = record { down = pos 0; up = pos 0; near = pos 0; shift = 0 }

zero_is : IsCut (pos 0) none_cut
unfolding packed encode down up near lo hi nr ceil expo size MAX
zero_is = record {
  downs = refl;
  ups = refl;
  nears = refl;
  down_few = omega arith;
  up_few = omega arith;
  near_few = omega arith;
  low = omega arith;
}

pub cut_zero : (s : ℤ) (e : ℕ) → s ≡ pos 0 → IsCut (s *ℤ pos (2 ^ e)) none_cut
cut_zero s e z = subst (λ x. IsCut x none_cut) (sym (ap (λ x. x *ℤ pos (2 ^ e)) z ∙ ap pos (zero-mul (2 ^ e)))) zero_is
