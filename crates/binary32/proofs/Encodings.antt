-- A significand of either sign with its exponent field, packed, is the pattern of a number, or of what stands for one that is too large.
use mathlib.Core.Path.{◌≡◌, refl, sym, ap, ◌∙◌, subst}
use mathlib.Core.Bool.{Bool, true, false, cond, not}
use mathlib.Core.Logic.{◌⊎◌, inl, inr}
use mathlib.Core.Option.{Option, none, some}
use Prim.Native.Nat.{ℕ, zero, suc, ◌+◌, ◌-◌, ◌*◌, ◌^◌, ◌≤◌, ◌<◌, min}
use native.Mathlib.Omega.{arith}
use lib.Dec.{T, ltb, ltb→lt, nltb→le}
use lib.IntN.{ℤ, pos, neg_ℤ}
use lib.Ieee.{size}
use Rattle.rounding.specs.Format.{binary32, expo}
use Rattle.rounding.specs.Rounding.{negate}
use Rattle.rounding.specs.Pattern.{val, encode}
use Rattle.rounding.proofs.Pattern.{val_lt}
use Rattle.rounding.proofs.Encoding.{encode_val}
use Rattle.binary32.specs.Number.{pattern_of, hold}
use Rattle.binary32.specs.Steps.{packed}

-- the pattern of minus a number
pub neg_encode : (n : ℕ) → 0 < n → pattern_of (neg_ℤ (pos (val binary32 n))) ≡ 2 ^ 31 + n
neg_encode n h = go (val binary32 n) (val_lt binary32 h) refl
  where
    go : (v : ℕ) → val binary32 0 < v → v ≡ val binary32 n → pattern_of (neg_ℤ (pos v)) ≡ 2 ^ 31 + n
    go zero l e = absurd (no l)
      where
        no : val binary32 0 < 0 → ⊥
        no l = omega arith
    go (suc k) l e = ap (λ x. 2 ^ 31 + encode binary32 x) e ∙ ap (λ x. 2 ^ 31 + x) (encode_val binary32 n)

-- ---- c * 2 ^ j units, by the encode of its pattern
abbrev pub at : ℕ → ℕ → ℕ
at j c = j * 2 ^ 23 + c

abbrev pub past : ℕ
past = 255 * 2 ^ 23

-- the number at q, if there is one
abbrev pub whole : ℕ → Option ℤ
whole q = cond (ltb q past) (some (pos (val binary32 q))) none

-- by the test of a pattern
view : (G : Bool → Type 0) (q : ℕ) → (q < past → G true) → (past ≤ q → G false) → G (ltb q past)
view G q F H = go (ltb q past) (ltb→lt q past) (nltb→le q past)
  where
    go : (t : Bool) → (T t → q < past) → (T (not t) → past ≤ q) → G t
    go true y n = F (y tt)
    go false y n = H (n tt)

pub plus : (j c below z : ℕ) → packed (pos c) j below z ≡ hold z (whole (at j c))
unfolding packed
plus j c below z =
    view (λ t. cond t (at j c) z ≡ hold z (cond t (some (pos (val binary32 (at j c)))) none)) (at j c)
    (λ l. sym (encode_val binary32 (at j c))) (λ l. refl)

pub minus : (j c above z : ℕ) → (j ≡ 0) ⊎ (2 ^ 23 ≤ c) → packed (neg_ℤ (pos c)) j z above ≡ hold z (negate (whole (at j c)))
unfolding packed val encode expo size
minus j zero above z (inl e) = subst (λ x. packed (pos 0) x z above ≡ hold z (negate (whole (at x 0)))) (sym e) refl
minus j zero above z (inr l) = absurd (no l)
  where
    no : 2 ^ 23 ≤ 0 → ⊥
    no l = omega arith
minus j (suc k) above z s =
    view (λ t. cond t (2 ^ 31 + at j (suc k)) z ≡ hold z (negate (cond t (some (pos (val binary32 (at j (suc k))))) none))) (at j (suc k))
    (λ l. sym (neg_encode (at j (suc k)) (omega arith))) (λ l. refl)

-- ---- the largest number in the encode of one that is too large
low_cap : (q : ℕ) → q < past → q ≡ min q (past - 1)
low_cap q l = omega arith

high_cap : (q : ℕ) → past ≤ q → past - 1 ≡ min q (past - 1)
high_cap q l = omega arith

pub cap_plus : (j c below : ℕ) → packed (pos c) j below (past - 1) ≡ pattern_of (pos (val binary32 (min (at j c) (past - 1))))
unfolding packed
cap_plus j c below =
    view (λ t. cond t (at j c) (past - 1) ≡ min (at j c) (past - 1)) (at j c) (low_cap (at j c)) (high_cap (at j c))
    ∙ sym (encode_val binary32 (min (at j c) (past - 1)))

pub cap_minus : (j c above : ℕ) → (j ≡ 0) ⊎ (2 ^ 23 ≤ c)
    → packed (neg_ℤ (pos c)) j (2 ^ 31 + (past - 1)) above ≡ pattern_of (neg_ℤ (pos (val binary32 (min (at j c) (past - 1)))))
unfolding packed val encode expo size
cap_minus j zero above (inl e) =
    subst (λ x. packed (pos 0) x (2 ^ 31 + (past - 1)) above ≡ pattern_of (neg_ℤ (pos (val binary32 (min (at x 0) (past - 1)))))) (sym e) refl
cap_minus j zero above (inr l) = absurd (no l)
  where
    no : 2 ^ 23 ≤ 0 → ⊥
    no l = omega arith
cap_minus j (suc k) above s =
    view (λ t. cond t (2 ^ 31 + at j (suc k)) (2 ^ 31 + (past - 1)) ≡ 2 ^ 31 + min (at j (suc k)) (past - 1)) (at j (suc k))
    (λ l. ap (λ x. 2 ^ 31 + x) (low_cap (at j (suc k)) l)) (λ l. ap (λ x. 2 ^ 31 + x) (high_cap (at j (suc k)) l))
    ∙ sym (neg_encode (min (at j (suc k)) (past - 1)) (omega arith))
