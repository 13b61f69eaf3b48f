-- Exact products: 48 digits hold the product of two numbers of 24, and its exponent tells whether it is zero.
use mathlib.Core.Path.{◌≡◌, sym, ap, ap₂, ◌∙◌}
use mathlib.Core.List.{[], ◌∷◌}
use mathlib.Core.Logic.{◌⊎◌, inl, inr, ⊎_elim}
use Prim.Native.Nat.{ℕ, ◌+◌, ◌*◌, ◌^◌, ◌≤◌, ◌<◌}
use native.Mathlib.Omega.{arith}
use native.Mathlib.Nat.{le_refl, mul-le-mul, eq-zero-or-pos, zero-mul, mul_comm, mul-pos}
use lib.Pow.{pow_pos, pow-add}
use lib.IntN.{ℤ, pos, negsuc, nat_abs, ◌*ℤ◌}
use lib.Signed.{mag}
use Rattle.algebra.proofs.Absolute.{nat_abs_mul}
use Rattle.algebra.proofs.Linear.{reading, eq, lin_eq}
use Rattle.binary32.proofs.Ints.{nat_abs_mag}
use Rattle.unpacked.specs.declared.Number.{Number}
use Rattle.unpacked.specs.declared.Product.{Product}
use Rattle.unpacked.specs.Number.{worth, Normal, IsNumber}
use Rattle.unpacked.specs.Exact.{Factors, ProductIs, Exact}
use Rattle.unpacked.proofs.Worths.{worth_abs, exp_some}
use Rattle.unpacked.proofs.Packing.{exp_high}

product_value : (s t u v : ℤ) (A B K : ℕ) → s *ℤ pos A ≡ u *ℤ pos K → t *ℤ pos B ≡ v *ℤ pos K → s *ℤ t *ℤ pos 2 *ℤ pos (A * B) ≡ u *ℤ v *ℤ pos (K * K * 2)
product_value s t u v A B K e f =
    lin_eq (s ∷ t ∷ u ∷ v ∷ pos A ∷ pos B ∷ pos K ∷ []) (eq (ap₂ ◌*ℤ◌ e f) ∷ []) (search reading depth 40 fits 9999) (omega arith)

mag_less : (p : ℤ) → mag p ≤ nat_abs p
mag_less (pos n) = omega arith
mag_less (negsuc n) = omega arith

module _ (x y : Number) (f : Factors x y) (p : ℤ) (ep : p ≡ x.sig *ℤ y.sig) where
  p_abs : nat_abs p ≡ nat_abs x.sig * nat_abs y.sig
  p_abs = ap nat_abs ep ∙ nat_abs_mul x.sig y.sig

  pub p_few : nat_abs p ≤ 2 ^ 48
  p_few = omega (arith, p_abs, mul-le-mul f.first.normal.few f.second.normal.few)

  p_full : 0 < nat_abs p → 2 ^ 46 ≤ nat_abs p
  p_full h = go (eq-zero-or-pos (nat_abs x.sig)) (eq-zero-or-pos (nat_abs y.sig))
    where
      no : nat_abs p ≡ 0 → ⊥
      no e = omega arith

      go : (nat_abs x.sig ≡ 0) ⊎ (0 < nat_abs x.sig) → (nat_abs y.sig ≡ 0) ⊎ (0 < nat_abs y.sig) → 2 ^ 46 ≤ nat_abs p
      go (inl e) b = absurd (no (p_abs ∙ ap (λ t. t * nat_abs y.sig) e ∙ zero-mul (nat_abs y.sig)))
      go (inr a) (inl e) = absurd (no (p_abs ∙ ap (λ t. nat_abs x.sig * t) e ∙ mul_comm (nat_abs x.sig) 0 ∙ zero-mul (nat_abs x.sig)))
      go (inr a) (inr b) = omega (arith, p_abs, mul-le-mul (f.first.normal.full a) (f.second.normal.full b))

  p_value : p *ℤ pos 2 *ℤ pos (2 ^ x.exp * 2 ^ y.exp) ≡ worth x *ℤ worth y *ℤ pos (2 ^ 801)
  p_value =
      ap (λ t. t *ℤ pos 2 *ℤ pos (2 ^ x.exp * 2 ^ y.exp)) ep
      ∙ product_value x.sig y.sig (worth x) (worth y) (2 ^ x.exp) (2 ^ y.exp) (2 ^ 400) f.first.normal.whole f.second.normal.whole

  pub times_small : (q : ℤ) → q ≡ p *ℤ pos 2 → mag p < 2 ^ 47 → ProductIs x y (record { sig = q; exp = x.exp + y.exp })
  times_small q e h = record {
    value = ap₂ (λ t n. t *ℤ pos n) e (pow-add 2 x.exp y.exp) ∙ p_value;
    few = omega (arith, q_abs, nat_abs_mag p);
    full = λ l. omega (arith, q_abs, p_full (omega (arith, q_abs)));
    low = le_refl (x.exp + y.exp);
    high = omega arith;
  }
    where
      q_abs : nat_abs q ≡ nat_abs p * 2
      q_abs = ap nat_abs e ∙ nat_abs_mul p (pos 2)

  pub times_large : 2 ^ 47 ≤ mag p → ProductIs x y (record { sig = p; exp = x.exp + y.exp + 1 })
  times_large h = record {
    value = ap (λ n. p *ℤ pos n) (pow-add 2 (x.exp + y.exp) 1 ∙ ap (λ n. n * 2) (pow-add 2 x.exp y.exp)) ∙ turn (2 ^ x.exp * 2 ^ y.exp) ∙ p_value;
    few = p_few;
    full = λ l. omega (arith, mag_less p);
    low = omega arith;
    high = le_refl (x.exp + y.exp + 1);
  }
    where
      turn : (n : ℕ) → p *ℤ pos (n * 2) ≡ p *ℤ pos 2 *ℤ pos n
      turn n = lin_eq (p ∷ pos n ∷ []) [] (search reading depth 20) (omega arith)

-- ---- the product of two numbers: zero where and only where one is zero
none_times : (a b c d : ℕ) → 0 < b → 0 < d → a * b ≡ c * d → a ≡ 0 → c ≡ 0
none_times a b c d p q e h = ⊎_elim (λ n. n) (λ l. absurd (no (mul-pos {m = c} {n = d} l q) (ap (λ t. t * b) h ∙ zero-mul b))) (eq-zero-or-pos c)
  where
    no : 0 < c * d → a * b ≡ 0 → ⊥
    no l z = omega arith

some_times : (a b c d : ℕ) → 0 < b → 0 < d → a * b ≡ c * d → 0 < a → 0 < c
some_times a b c d p q e h = ⊎_elim (λ n. absurd (no (none_times c d a b q p (sym e) n))) (λ l. l) (eq-zero-or-pos c)
  where
    no : a ≡ 0 → ⊥
    no z = omega arith

either_none : (a b : ℕ) → a * b ≡ 0 → (a ≡ 0) ⊎ (b ≡ 0)
either_none a b e = go (eq-zero-or-pos a) (eq-zero-or-pos b)
  where
    go : (a ≡ 0) ⊎ (0 < a) → (b ≡ 0) ⊎ (0 < b) → (a ≡ 0) ⊎ (b ≡ 0)
    go (inl n) s = inl n
    go (inr l) (inl n) = inr n
    go (inr l) (inr k) = absurd (no (mul-pos {m = a} {n = b} l k))
      where
        no : 0 < a * b → ⊥
        no h = omega arith

-- a factor's exponent
module _ (x : Number) (n : Normal x) where
  exp_none : nat_abs (worth x) ≡ 0 → x.exp ≡ 64
  exp_none h = n.low (none_times (nat_abs (worth x)) (2 ^ 400) (nat_abs x.sig) (2 ^ x.exp) (pow_pos 400) (pow_pos x.exp) (worth_abs x n) h)

  exp_full : 0 < nat_abs (worth x) → 376 ≤ x.exp
  exp_full h = exp_some x n (some_times (nat_abs (worth x)) (2 ^ 400) (nat_abs x.sig) (2 ^ x.exp) (pow_pos 400) (pow_pos x.exp) (worth_abs x n) h)

-- over plain numbers
low_sum : (a b p : ℕ) → 376 ≤ a → 376 ≤ b → a + b ≤ p → 752 ≤ p
low_sum a b p h k l = omega arith

small_sum : (a b p : ℕ) → a ≡ 64 → b ≤ 653 → p ≤ a + b + 1 → p < 752
small_sum a b p h k l = omega arith

top_sum : (a b p : ℕ) → a ≤ 653 → b ≤ 653 → p ≤ a + b + 1 → p ≤ 1307
top_sum a b p h k l = omega arith

small_sum_2 : (a b p : ℕ) → a ≤ 653 → b ≡ 64 → p ≤ a + b + 1 → p < 752
small_sum_2 a b p h k l = omega arith

module _ (x y : Number) (p : Product) (nx : IsNumber x) (ny : IsNumber y) (i : ProductIs x y p) where
  abs_is : nat_abs p.sig * 2 ^ p.exp ≡ nat_abs (worth x) * nat_abs (worth y) * 2 ^ 801
  abs_is =
      sym (nat_abs_mul p.sig (pos (2 ^ p.exp))) ∙ ap nat_abs i.value ∙ nat_abs_mul (worth x *ℤ worth y) (pos (2 ^ 801))
      ∙ ap (λ t. t * 2 ^ 801) (nat_abs_mul (worth x) (worth y))

  abbrev a : ℕ
  a = nat_abs (worth x)

  abbrev b : ℕ
  b = nat_abs (worth y)

  some_exp : 0 < nat_abs p.sig → 752 ≤ p.exp
  some_exp h = go (eq-zero-or-pos a) (eq-zero-or-pos b)
    where
      both : 0 < a * b
      both = some_times (nat_abs p.sig) (2 ^ p.exp) (a * b) (2 ^ 801) (pow_pos p.exp) (pow_pos 801) abs_is h

      no_first : a ≡ 0 → ⊥
      no_first n = omega (arith, both, ap (λ t. t * b) n, zero-mul b)

      no_second : b ≡ 0 → ⊥
      no_second n = omega (arith, both, ap (λ t. a * t) n)

      go : (a ≡ 0) ⊎ (0 < a) → (b ≡ 0) ⊎ (0 < b) → 752 ≤ p.exp
      go (inl n) s = absurd (no_first n)
      go (inr l) (inl n) = absurd (no_second n)
      go (inr l) (inr k) = low_sum x.exp y.exp p.exp (exp_full x nx.normal l) (exp_full y ny.normal k) i.low

  none_exp : nat_abs p.sig ≡ 0 → p.exp < 752
  none_exp h =
      ⊎_elim (λ n. small_sum x.exp y.exp p.exp (exp_none x nx.normal n) (exp_high y ny) i.high)
      (λ n. small_sum_2 x.exp y.exp p.exp (exp_high x nx) (exp_none y ny.normal n) i.high)
      (either_none a b (none_times (nat_abs p.sig) (2 ^ p.exp) (a * b) (2 ^ 801) (pow_pos p.exp) (pow_pos 801) abs_is h))

  pub exact_worths : Exact (worth x *ℤ worth y) p
  exact_worths = record {
    value = i.value;
    few = i.few;
    full = i.full;
    some = some_exp;
    none = none_exp;
    high = top_sum x.exp y.exp p.exp (exp_high x nx) (exp_high y ny) i.high;
  }
