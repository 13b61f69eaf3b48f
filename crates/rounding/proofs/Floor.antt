-- Signed significands: with c = `shr_z s m`, the quotient s / m rounded down (an arithmetic shift for m = 2 ^ t), and its remainder r,
-- s / m rounded up is c or c + 1, and so is the nearest. Assumes nothing.
use mathlib.Core.Path.{◌≡◌, refl, sym, ap, ◌∙◌}
use mathlib.Core.Bool.{Bool, true, false, not}
use mathlib.Core.List.{[], ◌∷◌}
use mathlib.Core.Logic.{⊎_elim}
use Prim.Native.Nat.{ℕ, zero, suc, ◌+◌, ◌-◌, ◌*◌, ◌/◌, ◌%◌, ◌≤◌, ◌<◌}
use native.Mathlib.Omega.{arith}
use native.Mathlib.Nat.{eq-or-lt_of_le, div-add-mod, div-add-mod', mod-lt, zero-div, zero-mod}
use lib.Arith.{digits_div, digits_mod}
use lib.Dec.{T, ltb, ltb→lt, nltb→le}
use lib.IntN.{ℤ, pos, negsuc, neg_ℤ, nat_abs, ◌+ℤ◌, ◌*ℤ◌, neg_ℤ-neg_ℤ, +ℤ_idr}
use lib.Signed.{shr_z}
use lib.Ieee.Nearest.{closest}
use Rattle.algebra.proofs.Linear.{reading, lin_eq}
use Rattle.rounding.specs.Rounding.{sticky, ceil, signed}
use Rattle.rounding.specs.Quotient.{rem, ceil_s, bit}
use Rattle.rounding.proofs.Bracket.{sticky_pos, ceil_split}
use Rattle.rounding.proofs.Closest.{closest_split}

-- the quotient and the remainder of the next number
suc_split : {G : Type 0} (n m : ℕ) → 0 < m → (suc (n % m) < m → suc n / m ≡ n / m → suc n % m ≡ suc (n % m) → G)
    → (suc (n % m) ≡ m → suc n / m ≡ suc (n / m) → suc n % m ≡ 0 → G) → G
suc_split {G} n m h F H = ⊎_elim carry inside (eq-or-lt_of_le (mod-lt n h))
  where
    inside : suc (n % m) < m → G
    inside l =
        let e : suc n ≡ n / m * m + suc (n % m) = omega (arith, div-add-mod n m) in
        F l (ap (λ x. x / m) e ∙ digits_div (n / m) l) (ap (λ x. x % m) e ∙ digits_mod (n / m) l)

    carry : suc (n % m) ≡ m → G
    carry k =
        let e : suc n ≡ suc (n / m) * m + 0 = omega (arith, div-add-mod n m) in
        H k (ap (λ x. x / m) e ∙ digits_div (suc (n / m)) h) (ap (λ x. x % m) e ∙ digits_mod (suc (n / m)) h)

pub rem_lt : (s : ℤ) (m : ℕ) → 0 < m → rem s m < m
rem_lt (pos n) m h = mod-lt n h
rem_lt (negsuc n) m h = omega (arith, mod-lt n h)

pub rem_is : (s : ℤ) (m : ℕ) → 0 < m → shr_z s m *ℤ pos m +ℤ pos (rem s m) ≡ s
rem_is (pos n) m h = ap pos (div-add-mod' n m)
rem_is (negsuc n) m h =
    lin_eq (pos n ∷ pos m ∷ pos (n / m) ∷ pos (m - suc (n % m)) ∷ []) [] (search reading depth 20) (omega (arith, div-add-mod n m, mod-lt n h))

-- ---- up: one more where there is a remainder
one_more : (n : ℕ) → negsuc n +ℤ pos 1 ≡ neg_ℤ (pos n)
one_more n = lin_eq (pos n ∷ []) [] (search reading depth 20) (omega arith)

pub up_floor : (s : ℤ) (m : ℕ) → 0 < m → shr_z s m +ℤ pos (sticky (rem s m)) ≡ ceil_s s m
unfolding ceil
up_floor (pos n) m h = refl
up_floor (negsuc n) m h = suc_split n m h
    (λ l e r. ap (λ x. negsuc (n / m) +ℤ pos x) (sticky_pos (m - suc (n % m)) (omega arith)) ∙ one_more (n / m) ∙ ap (λ x. neg_ℤ (pos x)) (sym e))
    (λ l e r. ap (λ x. negsuc (n / m) +ℤ pos (sticky x)) (no_rest l) ∙ +ℤ_idr (negsuc (n / m)) ∙ ap (λ x. neg_ℤ (pos x)) (sym e))
  where
    no_rest : suc (n % m) ≡ m → m - suc (n % m) ≡ 0
    no_rest l = omega arith

-- ---- down, as the mirror of up
pub down_floor : (s : ℤ) (m : ℕ) → 0 < m → shr_z s m ≡ neg_ℤ (ceil_s (neg_ℤ s) m)
down_floor (pos zero) m h = ap pos (zero-div m) ∙ sym (ap (λ x. neg_ℤ (pos x)) ceil_zero)
  where
    ceil_zero : ceil 0 m ≡ 0
    ceil_zero = ceil_split 0 m (λ r e. e ∙ zero-div m) (λ r e. absurd (no r (zero-mod m)))
      where
        no : 0 < 0 % m → 0 % m ≡ 0 → ⊥
        no r e = omega arith
down_floor (pos (suc n)) m h = sym (neg_ℤ-neg_ℤ (pos (suc n / m)))
down_floor (negsuc n) m h = ap (λ x. neg_ℤ (pos x)) (sym next)
  where
    next : ceil (suc n) m ≡ suc (n / m)
    next = suc_split n m h
        (λ l e r. ceil_split (suc n) m (λ z c. omega arith) (λ z c. omega arith))
        (λ l e r. ceil_split (suc n) m (λ z c. omega arith) (λ z c. omega arith))

-- ---- the nearest: one more where the remainder is above half of m, or is half of m and c is odd
abbrev pub bump : ℤ → ℕ → ℕ
bump s m = bit (ltb m (2 * rem s m + nat_abs (shr_z s m) % 2))

test_split : {G : Type 0} (a b : ℕ) → (a < b → bit (ltb a b) ≡ 1 → G) → (b ≤ a → bit (ltb a b) ≡ 0 → G) → G
test_split {G} a b = go (ltb a b) (ltb→lt a b) (nltb→le a b)
  where
    go : (t : Bool) → (T t → a < b) → (T (not t) → b ≤ a) → (a < b → bit t ≡ 1 → G) → (b ≤ a → bit t ≡ 0 → G) → G
    go true p q F H = F (p tt) refl
    go false p q F H = H (q tt) refl

pub near_floor : (s : ℤ) (m : ℕ) → 0 < m → shr_z s m +ℤ pos (bump s m) ≡ signed s (closest (nat_abs s) m)
near_floor (pos n) m h = ap pos (test_split m (2 * (n % m) + n / m % 2)
    (λ l e. closest_split n m (λ k c. omega arith) (λ k c. omega arith))
    (λ l e. closest_split n m (λ k c. omega arith) (λ k c. omega arith)))
near_floor (negsuc n) m h = test_split m (2 * (m - suc (n % m)) + suc (n / m) % 2)
    (λ l e. ap (λ x. negsuc (n / m) +ℤ pos x) e ∙ one_more (n / m) ∙ ap (λ x. neg_ℤ (pos x)) (less l))
    (λ l e. ap (λ x. negsuc (n / m) +ℤ pos x) e ∙ +ℤ_idr (negsuc (n / m)) ∙ ap (λ x. neg_ℤ (pos x)) (same l))
  where
    less : m < 2 * (m - suc (n % m)) + suc (n / m) % 2 → n / m ≡ closest (suc n) m
    less l = suc_split n m h
        (λ k e r. closest_split (suc n) m (λ z c. omega arith) (λ z c. omega (arith, ap (λ x. x % 2) e)))
        (λ k e r. closest_split (suc n) m (λ z c. omega arith) (λ z c. omega arith))

    same : 2 * (m - suc (n % m)) + suc (n / m) % 2 ≤ m → suc (n / m) ≡ closest (suc n) m
    same l = suc_split n m h
        (λ k e r. closest_split (suc n) m (λ z c. omega (arith, ap (λ x. x % 2) e)) (λ z c. omega arith))
        (λ k e r. closest_split (suc n) m (λ z c. omega arith) (λ z c. omega (arith, ap (λ x. x % 2) e)))
