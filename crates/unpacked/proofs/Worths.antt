-- What a number taken apart is worth: found from an equation; its least exponent; whether it is beyond the largest number.
use mathlib.Core.Path.{◌≡◌, sym, ap, ◌∙◌, subst}
use mathlib.Core.Bool.{true, false}
use mathlib.Core.List.{[], ◌∷◌}
use mathlib.Core.Logic.{⊎_elim}
use Prim.Native.Nat.{ℕ, zero, suc, ◌+◌, ◌-◌, ◌*◌, ◌^◌, ◌≤◌, ◌<◌}
use native.Mathlib.Omega.{arith}
use native.Mathlib.Nat.{mul-le-mul_right, mul-le-mul, le_of_mul-le-mul_left, eq-zero-or-pos, eq-or-lt_of_le, le_of_eq, pow-succ'}
use lib.Pow.{pow_pos, pow-add, pow_mono}
use lib.Dec.{leb, ltb, lit≤}
use lib.IntN.{ℤ, pos, nat_abs, ◌*ℤ◌}
use lib.Signed.{shr_z}
use borrow.Author.Tests.{lt-ltb, le-ltb, le-leb, lt-leb}
use Rattle.algebra.proofs.Absolute.{nat_abs_mul}
use Rattle.algebra.proofs.Floor.{floor_unique}
use Rattle.algebra.proofs.Linear.{reading, lin_le, lin_lt}
use Rattle.rounding.specs.Format.{binary32, MAX}
use Rattle.rounding.proofs.Grid.{pow_back}
use Rattle.unpacked.specs.declared.Number.{Number}
use Rattle.unpacked.specs.Number.{worth, Normal}

pub shr_multiple : (v : ℤ) (K : ℕ) → 0 < K → shr_z (v *ℤ pos K) K ≡ v
shr_multiple v K h = sym (floor_unique (v *ℤ pos K) v K h
    (lin_le (v ∷ pos K ∷ []) [] (search reading depth 20) (omega arith))
    (lin_lt (v ∷ pos K ∷ []) [] (search reading depth 20) (omega arith)))

pub worth_is : (x : Number) (v : ℤ) → x.sig *ℤ pos (2 ^ x.exp) ≡ v *ℤ pos (2 ^ 400) → worth x ≡ v
unfolding worth
worth_is x v e = ap (λ t. shr_z t (2 ^ 400)) e ∙ shr_multiple v (2 ^ 400) (pow_pos 400)

-- the same of the magnitudes
pub worth_abs : (x : Number) → Normal x → nat_abs (worth x) * 2 ^ 400 ≡ nat_abs x.sig * 2 ^ x.exp
worth_abs x n = sym (nat_abs_mul (worth x) (pos (2 ^ 400))) ∙ sym (ap nat_abs n.whole) ∙ nat_abs_mul x.sig (pos (2 ^ x.exp))

-- ---- the least exponent
some_worth : (a s m K : ℕ) → a * K ≡ s * m → 0 < s → 0 < m → s ≤ 2 ^ 24 → K ≤ 2 ^ 24 * m
some_worth zero s m K e p q h = absurd (no (mul-le-mul p q))
  where
    no : 1 * 1 ≤ s * m → ⊥
    no l = omega arith
some_worth (suc a) s m K e p q h = omega (arith, mul-le-mul_right m h)

below_twice : (K P Q : ℕ) → P ≡ Q → K ≤ Q → 0 < P → K < 2 * P
below_twice K P Q e l p = omega arith

least : (e : ℕ) → 400 ≤ 24 + e → 376 ≤ e
least e h = omega arith

pub exp_some : (x : Number) → Normal x → 0 < nat_abs x.sig → 376 ≤ x.exp
exp_some x n p =
    least x.exp (pow_back {i = 400} {j = 24 + x.exp} (below_twice (2 ^ 400) (2 ^ (24 + x.exp)) (2 ^ 24 * 2 ^ x.exp) (pow-add 2 24 x.exp)
    (some_worth (nat_abs (worth x)) (nat_abs x.sig) (2 ^ x.exp) (2 ^ 400) (worth_abs x n) p (pow_pos x.exp) n.few) (pow_pos (24 + x.exp))))

at_least : (e : ℕ) → 376 ≤ e → 64 ≤ e
at_least e h = omega arith

pub exp_low : (x : Number) → Normal x → 64 ≤ x.exp
exp_low x n = ⊎_elim (λ e. le_of_eq (sym (n.low e))) (λ p. at_least x.exp (exp_some x n p)) (eq-zero-or-pos (nat_abs x.sig))

-- ---- 24 digits are below the largest number
pub few_max : 2 ^ 24 ≤ MAX binary32
unfolding MAX
few_max = lit≤ tt

-- ---- the limit, over plain numbers: K units of the scale, T of the largest exponent
module _ (a K s m T : ℕ) (p : 0 < K) (e : a * K ≡ s * m) where
  fits_small : s ≤ 2 ^ 24 → 2 * m ≤ T * K → a ≤ (2 ^ 24 - 1) * T
  fits_small h l =
      let k : K * (2 * a) ≤ K * (2 ^ 24 * T) = omega (arith, mul-le-mul h l) in
      let j : 2 * a ≤ 2 ^ 24 * T = le_of_mul-le-mul_left k p in
      omega arith

  fits_not : 0 < T → 2 ^ 23 ≤ s → 2 * (T * K) ≤ m → (2 ^ 24 - 1) * T < a
  fits_not q h l =
      let k : K * (2 ^ 24 * T) ≤ K * a = omega (arith, mul-le-mul h l) in
      let j : 2 ^ 24 * T ≤ a = le_of_mul-le-mul_left k p in
      omega arith

  fits_yes : m ≡ T * K → s < 2 ^ 24 → a ≤ (2 ^ 24 - 1) * T
  fits_yes em h =
      let k : K * a ≤ K * ((2 ^ 24 - 1) * T) = omega (arith, mul-le-mul_right (T * K) h, ap (λ x. s * x) em) in
      le_of_mul-le-mul_left k p

  fits_over : 0 < T → m ≡ T * K → 2 ^ 24 ≤ s → (2 ^ 24 - 1) * T < a
  fits_over q em h =
      let k : K * (2 ^ 24 * T) ≤ K * a = omega (arith, mul-le-mul_right (T * K) h, ap (λ x. s * x) em) in
      let j : 2 ^ 24 * T ≤ a = le_of_mul-le-mul_left k p in
      omega arith

-- ---- the three ways of `fits`
module _ (x : Number) (n : Normal x) where
  abbrev a : ℕ
  a = nat_abs (worth x)

  pub fits_below : x.exp < 653 → true ≡ leb a (MAX binary32)
  unfolding MAX
  fits_below h = sym (le-leb a (MAX binary32) (fits_small a (2 ^ 400) (nat_abs x.sig) (2 ^ x.exp) (2 ^ 253) (pow_pos 400) (worth_abs x n) n.few
      (subst (λ t. t ≤ 2 ^ 253 * 2 ^ 400) (pow-succ' 2 x.exp) (pow_mono {i = suc x.exp} {j = 653} h))))

  filled : 653 < x.exp → 2 ^ 23 ≤ nat_abs x.sig
  filled h = n.full (⊎_elim (λ e. absurd (no (n.low e))) (λ l. l) (eq-zero-or-pos (nat_abs x.sig)))
    where
      no : x.exp ≡ 64 → ⊥
      no e = omega arith

  pub fits_beyond : 653 < x.exp → false ≡ leb a (MAX binary32)
  unfolding MAX
  fits_beyond h = sym (lt-leb a (MAX binary32) (fits_not a (2 ^ 400) (nat_abs x.sig) (2 ^ x.exp) (2 ^ 253) (pow_pos 400) (worth_abs x n) (pow_pos 253) (filled h)
      (pow_mono {i = 654} {j = x.exp} h)))

  pub fits_last : x.exp ≡ 653 → ltb (nat_abs x.sig) (2 ^ 24) ≡ leb a (MAX binary32)
  unfolding MAX
  fits_last h = ⊎_elim (λ e. no (le_of_eq (sym e))) yes (eq-or-lt_of_le n.few)
    where
      power : 2 ^ x.exp ≡ 2 ^ 253 * 2 ^ 400
      power = ap (λ t. 2 ^ t) h

      yes : nat_abs x.sig < 2 ^ 24 → ltb (nat_abs x.sig) (2 ^ 24) ≡ leb a (MAX binary32)
      yes l = lt-ltb (nat_abs x.sig) (2 ^ 24) l ∙ sym (le-leb a (MAX binary32) (fits_yes a (2 ^ 400) (nat_abs x.sig) (2 ^ x.exp) (2 ^ 253) (pow_pos 400) (worth_abs x n) power l))

      no : 2 ^ 24 ≤ nat_abs x.sig → ltb (nat_abs x.sig) (2 ^ 24) ≡ leb a (MAX binary32)
      no l = le-ltb (nat_abs x.sig) (2 ^ 24) l ∙ sym (lt-leb a (MAX binary32) (fits_over a (2 ^ 400) (nat_abs x.sig) (2 ^ x.exp) (2 ^ 253) (pow_pos 400) (worth_abs x n) (pow_pos 253) power l))
