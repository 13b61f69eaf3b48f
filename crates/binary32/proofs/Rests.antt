-- A signed shift and what it loses, in the machine's range; up and nearest from the two, one more where a test says so. Assumes nothing.
use mathlib.Core.Path.{◌≡◌, refl, ap, ap₂, ◌∙◌}
use mathlib.Core.Bool.{Bool, true, false}
use mathlib.Core.List.{[], ◌∷◌}
use Prim.Native.Nat.{ℕ, zero, suc, ◌+◌, ◌*◌, ◌/◌, ◌%◌, ◌^◌, ◌≤◌, ◌<◌}
use native.Mathlib.Omega.{arith}
use native.Mathlib.Nat.{div-le_self, div-add-mod', mod-eq_of_lt, one-mul, suc-mul}
use lib.Pow.{pow-lt, pow_pos, pow_mono}
use lib.Dec.{ltb}
use lib.IntN.{ℤ, pos, negsuc, nat_abs, ◌+ℤ◌, ◌-ℤ◌, ◌*ℤ◌}
use lib.Signed.{shr_z}
use lib.Ieee.Nearest.{closest}
use mir.Syntax.{w64}
use mir.Val.{SFits, of_z, to_z, bool_byte}
use mir.ValLaws.{to_z-of_z}
use borrow.Author.Tests.{lt-ltb}
use Rattle.algebra.proofs.Absolute.{nat_abs_add}
use Rattle.algebra.proofs.Linear.{reading, eq, lin_eq}
use Rattle.rounding.specs.Rounding.{sticky, signed}
use Rattle.rounding.specs.Quotient.{rem, bit, ceil_s}
use Rattle.rounding.proofs.Floor.{rem_is, up_floor, near_floor}
use Rattle.rounding.proofs.Sign.{nat_abs_neg}
use Rattle.binary32.proofs.Ints.{read_small, shl_read}

pub shr_less : (w : ℤ) (m : ℕ) → nat_abs (shr_z w m) ≤ nat_abs w
shr_less (pos n) m = div-le_self n m
shr_less (negsuc k) m = omega (arith, div-le_self k m)

shr_back : (w : ℤ) (m : ℕ) → 0 < m → nat_abs (shr_z w m *ℤ pos m) ≤ nat_abs w + m
shr_back (pos n) m h = omega (arith, div-add-mod' n m)
shr_back (negsuc k) m h = omega (arith, nat_abs_neg (pos (suc (k / m) * m)), suc-mul (k / m) m, div-add-mod' k m)

pub rest_is : (w : ℤ) (m : ℕ) → 0 < m → w -ℤ shr_z w m *ℤ pos m ≡ pos (rem w m)
rest_is w m h = lin_eq (w ∷ shr_z w m ∷ pos m ∷ pos (rem w m) ∷ []) (eq (rem_is w m h) ∷ []) (search reading depth 20) (omega arith)

-- what the machine subtracts
pub machine_rest : (w c : ℤ) (n : ℕ) → nat_abs w < 2 ^ 61 → n ≤ 62 → c ≡ shr_z w (2 ^ n)
    → to_z w64 (of_z w64 w) -ℤ to_z w64 (of_z w64 c * 2 ^ n % 2 ^ 64) ≡ pos (rem w (2 ^ n))
machine_rest w c n h l e =
    let few : nat_abs (shr_z w (2 ^ n)) < 2 ^ 63 = omega (arith, shr_less w (2 ^ n)) in
    let back : nat_abs (shr_z w (2 ^ n) *ℤ pos (2 ^ n)) < 2 ^ 63 = omega (arith, shr_back w (2 ^ n) (pow_pos n), pow_mono {i = n} {j = 62} l) in
    rw (e, read_small w (omega arith), shl_read (shr_z w (2 ^ n)) n l few back) (rest_is w (2 ^ n) (pow_pos n))

-- ---- one more, where the test says so
sticky_bit : (r : ℕ) → bit (ltb 0 r) ≡ sticky r
sticky_bit zero = refl
sticky_bit (suc r) = ap bit (lt-ltb 0 (suc r) (omega arith))

same_bit : (t : Bool) → bool_byte t ≡ bit t
same_bit true = refl
same_bit false = refl

-- what the machine's shift gives, and one more
module _ (w : ℤ) (m : ℕ) (h : nat_abs w < 2 ^ 61) (f : SFits w64 w) where
  pub floor_read : to_z w64 (of_z w64 (shr_z (to_z w64 (of_z w64 w)) m)) ≡ shr_z w m
  floor_read = rw (to_z-of_z w64 w f) (read_small (shr_z w m) (omega (arith, shr_less w m)))

  pub more_read : (b : ℤ) (t : Bool) → b ≡ pos (bool_byte t)
      → to_z w64 (of_z w64 (to_z w64 (of_z w64 (shr_z (to_z w64 (of_z w64 w)) m)) +ℤ to_z w64 (of_z w64 b))) ≡ shr_z w m +ℤ pos (bit t)
  more_read b t e =
      rw (floor_read, e, same_bit t, read_small (pos (bit t)) (omega (arith, small t)))
      (read_small (shr_z w m +ℤ pos (bit t)) (omega (arith, small t, shr_less w m, nat_abs_add (shr_z w m) (pos (bit t)))))
    where
      small : (t : Bool) → bit t < 2
      small true = omega arith
      small false = omega arith

pub ups_is : (w c u : ℤ) (m r : ℕ) → 0 < m → c ≡ shr_z w m → r ≡ rem w m → u ≡ c +ℤ pos (bit (ltb 0 r)) → u ≡ ceil_s w m
ups_is w c u m r h ec er eu = eu ∙ ap₂ (λ x y. x +ℤ pos y) ec (ap (λ x. bit (ltb 0 x)) er ∙ sticky_bit (rem w m)) ∙ up_floor w m h

pub nears_is : (w c u : ℤ) (m m' r a : ℕ) → 0 < m → m' ≡ m → c ≡ shr_z w m → r ≡ rem w m → a ≡ nat_abs c
    → u ≡ c +ℤ pos (bit (ltb m' (2 * r + a % 2))) → u ≡ signed w (closest (nat_abs w) m)
nears_is w c u m m' r a h em ec er ea eu =
    eu ∙ ap₂ (λ x y. x +ℤ pos y) ec (ap₂ (λ x y. bit (ltb x y)) em (ap₂ (λ x y. 2 * x + y % 2) er (ea ∙ ap nat_abs ec)))
    ∙ near_floor w m h

-- the machine's 2 ^ n
pub shifted : (n : ℕ) → n ≤ 62 → 1 * 2 ^ n % 2 ^ 64 ≡ 2 ^ n
shifted n h = ap (λ (t : ℕ). t % 2 ^ 64) (one-mul (2 ^ n)) ∙ mod-eq_of_lt (pow-lt {i = n} {j = 64} (omega arith))
