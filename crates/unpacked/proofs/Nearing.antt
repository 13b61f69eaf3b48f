-- Rounding to nearest: the quotient by 2 ^ k of a number of 24 + k digits is the significand of the nearest number.
use mathlib.Core.Path.{◌≡◌, refl, sym, ap, ap₂, ◌∙◌, subst}
use mathlib.Core.Bool.{Bool, true, false, not, cond}
use mathlib.Core.List.{[], ◌∷◌}
use mathlib.Core.Logic.{◌⊎◌, inl, inr, ⊎_elim}
use mathlib.Core.Option.{Option, none, some}
use Prim.Native.Nat.{ℕ, suc, ◌+◌, ◌-◌, ◌*◌, ◌^◌, ◌≤◌, ◌<◌}
use native.Mathlib.Omega.{arith}
use native.Mathlib.Nat.{mul-one, zero-mul, eq-zero-or-pos, eq-or-lt_of_le, lt_of_not-le, le_of_eq, not-le_of_lt}
use lib.Pow.{pow_pos, pow-add}
use lib.Dec.{T, leb, ltb, ltb→lt, nltb→le}
use lib.IntN.{ℤ, pos, negsuc, neg_ℤ, nat_abs, ◌*ℤ◌}
use lib.Ieee.{size}
use lib.Ieee.Digits.{size-le}
use lib.Ieee.Nearest.{closest}
use borrow.Author.Tests.{le-leb, lt-leb}
use Rattle.algebra.proofs.Linear.{reading}
use Rattle.algebra.proofs.Reading.{by_ring}
use Rattle.rounding.specs.Format.{binary32, MAX}
use Rattle.rounding.specs.Rounding.{negate, signed, near}
use Rattle.rounding.specs.Pattern.{val, limit}
use Rattle.rounding.proofs.Nearest.{near_odd}
use Rattle.rounding.proofs.NearestLaws.{near_scale, near_exact}
use Rattle.rounding.proofs.Pattern.{val_pattern, val_max}
use Rattle.rounding.proofs.Shift.{size_only}
use Rattle.rounding.proofs.Sign.{nat_abs_neg, num_zero}
use Rattle.binary32.proofs.Shifted.{near_above}
use Rattle.unpacked.specs.Cuts.{limited_near, nearest_of}
use Rattle.unpacked.proofs.Quotients.{closest_multiple, nearest_few, nearest_long}

-- a pattern's number, or none
abbrev at : ℕ → Option ℤ
at q = cond (ltb q (limit binary32)) (some (pos (val binary32 q))) none

at_is : (j c : ℕ) → c ≤ 2 ^ 24 → (j ≡ 0) ⊎ (2 ^ 23 ≤ c) → at (j * 2 ^ 23 + c) ≡ limited_near (pos (c * 2 ^ j))
at_is j c h l = ap₂ (λ t v. cond t (some (pos v)) none) test is ∙ refl
  where
    q : ℕ
    q = j * 2 ^ 23 + c

    is : val binary32 q ≡ c * 2 ^ j
    is = val_pattern binary32 j c h l

    test : ltb q (limit binary32) ≡ leb (c * 2 ^ j) (MAX binary32)
    test = go (ltb q (limit binary32)) (ltb→lt q (limit binary32)) (nltb→le q (limit binary32))
      where
        go : (t : Bool) → (T t → q < limit binary32) → (T (not t) → limit binary32 ≤ q) → t ≡ leb (c * 2 ^ j) (MAX binary32)
        go true y n = sym (le-leb (c * 2 ^ j) (MAX binary32) (subst (λ v. v ≤ MAX binary32) is ((val_max binary32 q).1 (y tt))))
        go false y n = sym (lt-leb (c * 2 ^ j) (MAX binary32) (lt_of_not-le (λ (g : c * 2 ^ j ≤ MAX binary32). no ((val_max binary32 q).0 (subst (λ v. v ≤ MAX binary32) (sym is) g)))))
          where
            no : q < limit binary32 → ⊥
            no l = not-le_of_lt l (n tt)

-- a magnitude of 24 + k digits, or 2 ^ (24 + k), over 2 ^ K
module _ (k K n be j : ℕ) (l : 2 ^ 23 * 2 ^ k ≤ n) (u : n ≤ 2 ^ 24 * 2 ^ k) (e : k + be ≡ j + K) where
  abbrev c : ℕ
  c = closest n (2 ^ k)

  few : c ≤ 2 ^ 24
  few = nearest_few n (2 ^ k) (pow_pos k) u

  long : 2 ^ 23 ≤ c
  long = nearest_long n (2 ^ k) (pow_pos k) l

  near_below : n < 2 ^ 24 * 2 ^ k → near binary32 (2 ^ K) (pos (n * 2 ^ be)) ≡ limited_near (pos (c * 2 ^ j))
  near_below h =
      let s : size n ≡ 24 + k = size_only n (24 + k) (subst (λ t. n < t) (sym (pow-add 2 24 k)) h) (inr (subst (λ t. t ≤ n) (sym (ap (λ t. 2 ^ t) one_less ∙ pow-add 2 23 k)) l)) in
      near_above binary32 K be k j n (omega arith) (omega arith) e ∙ at_is j c few (inr long)
    where
      one_less : 24 + k - 1 ≡ 23 + k
      one_less = omega arith

  near_top : n ≡ 2 ^ 24 * 2 ^ k → near binary32 (2 ^ K) (pos (n * 2 ^ be)) ≡ limited_near (pos (c * 2 ^ j))
  near_top h =
      let s : size n ≡ 25 + k = size_only n (25 + k) (omega (arith, pow-add 2 25 k, pow_pos k)) (inr (subst (λ t. t ≤ n) (sym (ap (λ t. 2 ^ t) one_less ∙ pow-add 2 24 k)) (le_of_eq (sym h)))) in
      near_above binary32 K be (k + 1) (j + 1) n (omega (arith, pow_pos k)) (omega arith) (omega arith)
      ∙ ap at (ap (λ t. (j + 1) * 2 ^ 23 + t) (ap (λ t. closest t (2 ^ (k + 1))) half_of ∙ closest_multiple (2 ^ 23) (2 ^ (k + 1)) (pow_pos (k + 1))) ∙ carry ∙ sym (ap (λ t. j * 2 ^ 23 + t) (ap (λ t. closest t (2 ^ k)) h ∙ closest_multiple (2 ^ 24) (2 ^ k) (pow_pos k))))
      ∙ at_is j c few (inr long)
    where
      one_less : 25 + k - 1 ≡ 24 + k
      one_less = omega arith

      half_of : n ≡ 2 ^ 23 * 2 ^ (k + 1)
      half_of = omega (arith, pow-add 2 k 1)

      carry : (j + 1) * 2 ^ 23 + 2 ^ 23 ≡ j * 2 ^ 23 + 2 ^ 24
      carry = omega arith

  near_at : near binary32 (2 ^ K) (pos (n * 2 ^ be)) ≡ limited_near (pos (c * 2 ^ j))
  near_at = ⊎_elim near_top near_below (eq-or-lt_of_le u)

-- a magnitude below 2 ^ 24 units of 2 ^ k, over 2 ^ K: whole units
module _ (k K be : ℕ) (e : k + be ≡ K) where
  near_zero : near binary32 (2 ^ K) (pos (0 * 2 ^ be)) ≡ limited_near (pos (closest 0 (2 ^ k)))
  near_zero =
      ap (λ t. near binary32 (2 ^ K) (pos t)) (zero-mul (2 ^ be) ∙ sym (zero-mul (2 ^ K))) ∙ near_exact binary32 (2 ^ K) (pow_pos K) (num_zero binary32)
      ∙ sym (ap (λ t. cond t (some (pos 0)) none) (le-leb 0 (MAX binary32) (omega arith)))
      ∙ ap (λ t. limited_near (pos t)) (sym (ap (λ t. closest t (2 ^ k)) (sym (zero-mul (2 ^ k))) ∙ closest_multiple 0 (2 ^ k) (pow_pos k)))

  near_low : (n : ℕ) → n < 2 ^ 24 * 2 ^ k → near binary32 (2 ^ K) (pos (n * 2 ^ be)) ≡ limited_near (pos (closest n (2 ^ k)))
  near_low n h = ⊎_elim (λ z. subst (λ t. near binary32 (2 ^ K) (pos (t * 2 ^ be)) ≡ limited_near (pos (closest t (2 ^ k)))) (sym z) near_zero) some_low (eq-zero-or-pos n)
    where
      some_low : 0 < n → near binary32 (2 ^ K) (pos (n * 2 ^ be)) ≡ limited_near (pos (closest n (2 ^ k)))
      some_low p =
          let s : size n ≤ 24 + k = size-le n (24 + k) (subst (λ t. n < t) (sym (pow-add 2 24 k)) h) in
          near_above binary32 K be k 0 n p (omega arith) (omega arith) ∙ at_is 0 (closest n (2 ^ k)) (nearest_few n (2 ^ k) (pow_pos k) (omega arith)) (inl refl)
          ∙ ap (λ t. limited_near (pos t)) (mul-one (closest n (2 ^ k)))

pub negate_limited : (v : ℕ) → negate (limited_near (pos v)) ≡ limited_near (neg_ℤ (pos v))
negate_limited v = go (leb v (MAX binary32)) ∙ ap (λ n. cond (leb n (MAX binary32)) (some (neg_ℤ (pos v))) none) (sym (nat_abs_neg (pos v)))
  where
    go : (t : Bool) → negate (cond t (some (pos v)) none) ≡ cond t (some (neg_ℤ (pos v))) none
    go true = refl
    go false = refl

-- with its sign
near_signed : (K : ℕ) (t : ℤ) (be v : ℕ) → near binary32 (2 ^ K) (pos (nat_abs t * 2 ^ be)) ≡ limited_near (pos v) → near binary32 (2 ^ K) (t *ℤ pos (2 ^ be)) ≡ limited_near (signed t v)
near_signed K (pos n) be v h = h
near_signed K (negsuc n) be v h = near_odd binary32 (2 ^ K) (pow_pos K) (pos (suc n * 2 ^ be)) ∙ ap negate h ∙ negate_limited v

pub near_wide : (k K : ℕ) (t : ℤ) (be j : ℕ) → 2 ^ 23 * 2 ^ k ≤ nat_abs t → nat_abs t ≤ 2 ^ 24 * 2 ^ k → k + be ≡ j + K
    → near binary32 (2 ^ K) (t *ℤ pos (2 ^ be)) ≡ limited_near (signed t (closest (nat_abs t) (2 ^ k) * 2 ^ j))
near_wide k K t be j l u e = near_signed K t be (closest (nat_abs t) (2 ^ k) * 2 ^ j) (near_at k K (nat_abs t) be j l u e)

pub near_narrow : (k K : ℕ) (t : ℤ) (be : ℕ) → nat_abs t < 2 ^ 24 * 2 ^ k → k + be ≡ K → near binary32 (2 ^ K) (t *ℤ pos (2 ^ be)) ≡ limited_near (nearest_of t (2 ^ k))
near_narrow k K t be u e = near_signed K t be (closest (nat_abs t) (2 ^ k)) (near_low k K be e (nat_abs t) u)

-- a common power of two
pub near_moved : (w : ℤ) (be z K : ℕ) → near binary32 (2 ^ (z + K)) (w *ℤ pos (2 ^ z) *ℤ pos (2 ^ be)) ≡ near binary32 (2 ^ K) (w *ℤ pos (2 ^ be))
near_moved w be z K = ap₂ (near binary32) (pow-add 2 z K) moved ∙ near_scale binary32 (2 ^ z) (2 ^ K) (pow_pos z) (pow_pos K) (w *ℤ pos (2 ^ be))
  where
    moved : w *ℤ pos (2 ^ z) *ℤ pos (2 ^ be) ≡ pos (2 ^ z) *ℤ (w *ℤ pos (2 ^ be))
    moved = by_ring (w ∷ pos (2 ^ z) ∷ pos (2 ^ be) ∷ []) (search reading depth 20) tt

pub near_units : (X : ℤ) → near binary32 (2 ^ 436) (X *ℤ pos (2 ^ 400) *ℤ pos (2 ^ 36)) ≡ near binary32 1 X
near_units X = ap₂ (near binary32) (sym (mul-one (2 ^ 436))) (turn (2 ^ 400) (2 ^ 36)) ∙ near_scale binary32 (2 ^ 400 * 2 ^ 36) 1 (pow_pos 436) (omega arith) X
  where
    turn : (a b : ℕ) → X *ℤ pos a *ℤ pos b ≡ pos (a * b) *ℤ X
    turn a b = by_ring (X ∷ pos a ∷ pos b ∷ []) (search reading depth 20) tt
