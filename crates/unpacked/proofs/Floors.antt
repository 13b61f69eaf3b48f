-- Rounding down to 24 digits with no upper limit: from the two multiples of a power of two about a value, and what it says of `down`.
use mathlib.Core.Path.{◌≡◌, sym, ap, ◌∙◌, subst}
use mathlib.Core.Bool.{Bool, true, false, not}
use mathlib.Core.List.{[], ◌∷◌}
use mathlib.Core.Logic.{⊎_elim}
use mathlib.Core.Option.{some}
use Prim.Native.Nat.{ℕ, suc, ◌+◌, ◌-◌, ◌*◌, ◌^◌, ◌≤◌, ◌<◌}
use native.Mathlib.Omega.{arith}
use native.Mathlib.Nat.{le_trans, mul_comm, mul-le-mul_left, mul-le-mul_right, lt_of_mul-lt-mul_right, one-mul}
use lib.Pow.{pow_pos}
use lib.Dec.{T, leb, leb→le, nleb→lt}
use lib.IntN.{ℤ, pos, negsuc, neg_ℤ, nat_abs, ◌+ℤ◌, ◌*ℤ◌}
use lib.Signed.{mag}
use Rattle.algebra.specs.Order.{◌≼◌, ◌≺◌}
use Rattle.algebra.proofs.Absolute.{nat_abs_mul}
use Rattle.algebra.proofs.Linear.{reading, le, lt, lin_le, lin_lt, lin_eq, lin_absurd}
use Rattle.algebra.proofs.Natural.{≤_total, of_le, of_lt, to_lt}
use Rattle.algebra.proofs.Order.{≼_refl, ≼_or_≺, cancel_le, cancel_lt}
use Rattle.algebra.proofs.Power.{pow_split}
use Rattle.rounding.specs.Format.{binary32, MAX, Form}
use Rattle.rounding.specs.Rounding.{down}
use Rattle.rounding.proofs.Directed.{down_only, down_below}
use Rattle.rounding.proofs.Grid.{multiple, form_of}
use Rattle.rounding.proofs.Sign.{neg_le, of_neg_le, neg_le_pos, num_neg, num_max, num_le}
use Rattle.binary32.proofs.Ints.{nat_abs_mag}
use Rattle.unpacked.specs.Cuts.{IsFloor, limit_by, limited}

-- ---- the numbers of binary32: the largest above it, none below the least
within : {X v : ℤ} → IsFloor X v → nat_abs v ≤ MAX binary32 → down binary32 1 X ≡ some v
within {X} {v} h k = down_only binary32 1 (omega arith) (record {
  num = record { form = h.form; within = k };
  below = lin_le (v ∷ X ∷ []) (le h.below ∷ []) (search reading depth 20) (omega arith);
  greatest = λ w n l. h.greatest w n.form (lin_le (w ∷ X ∷ []) (le l ∷ []) (search reading depth 20) (omega arith));
})

past : {X : ℤ} (v : ℤ) → IsFloor X v → MAX binary32 < nat_abs v → down binary32 1 X ≡ limit_by false v
past {X} (pos n) h k = down_only binary32 1 (omega arith) (record {
  num = num_max binary32;
  below = lin_le (pos n ∷ X ∷ pos (MAX binary32) ∷ []) (le h.below ∷ []) (search reading depth 20) (omega arith);
  greatest = λ w n l. num_le n;
})
past {X} (negsuc n) h k = down_below binary32 1 (omega arith) (⊎_elim no (λ l. lin_lt (X ∷ pos (MAX binary32) ∷ []) (lt l ∷ []) (search reading depth 20) (omega arith)) (≼_or_≺ (neg_ℤ (pos (MAX binary32))) X))
  where
    no : neg_ℤ (pos (MAX binary32)) ≼ X → X ≺ neg_ℤ (pos (MAX binary32 * 1))
    no l = absurd (clash (of_neg_le {a = suc n} (h.greatest (neg_ℤ (pos (MAX binary32))) (num_neg {v = pos (MAX binary32)} (num_max binary32)).form l)))
      where
        clash : suc n ≤ MAX binary32 → ⊥
        clash g = omega arith

pub limits : {X v : ℤ} → IsFloor X v → down binary32 1 X ≡ limited v
limits {X} {v} h = go (leb (nat_abs v) (MAX binary32)) (leb→le (nat_abs v) (MAX binary32)) (nleb→lt (nat_abs v) (MAX binary32))
  where
    go : (t : Bool) → (T t → nat_abs v ≤ MAX binary32) → (T (not t) → MAX binary32 < nat_abs v) → down binary32 1 X ≡ limit_by t v
    go true p q = within h (p tt)
    go false p q = past v h (q tt)

-- ---- values of 24 digits are on the grid
module _ (n j : ℕ) (f : 2 ^ 23 ≤ n) (a : ℕ) (F : Form binary32 a) where
  none_above : a < (n + 1) * 2 ^ j → a ≤ n * 2 ^ j
  none_above h = ⊎_elim (λ l. l) grid (≤_total a (n * 2 ^ j))
    where
      grid : n * 2 ^ j ≤ a → a ≤ n * 2 ^ j
      grid l = go (multiple j F (le_trans (mul-le-mul_right (2 ^ j) f) l))
        where
          go : (k : ℕ) × (a ≡ k * 2 ^ j) → a ≤ n * 2 ^ j
          go (k, e) =
              let s : k < n + 1 = lt_of_mul-lt-mul_right (2 ^ j) (subst (λ x. x < (n + 1) * 2 ^ j) e h) in
              omega (arith, mul-le-mul_right (2 ^ j) s)

  none_below : n * 2 ^ j < a → suc n * 2 ^ j ≤ a
  none_below h = go (multiple j F (le_trans (mul-le-mul_right (2 ^ j) f) (omega arith)))
    where
      go : (k : ℕ) × (a ≡ k * 2 ^ j) → suc n * 2 ^ j ≤ a
      go (k, e) =
          let s : n < k = lt_of_mul-lt-mul_right (2 ^ j) (subst (λ x. n * 2 ^ j < x) e h) in
          omega (arith, mul-le-mul_right (2 ^ j) s)

-- 24 digits: of c, or of -1 - c
pub record Full (c : ℤ) : Type 0 where
  pub least : 2 ^ 23 ≤ mag c
  pub most : mag c < 2 ^ 24

pub full_few : (c : ℤ) → Full c → nat_abs c ≤ 2 ^ 24
full_few c f = omega (arith, nat_abs_mag c, f.most)

pub full_long : (c : ℤ) → Full c → 2 ^ 23 ≤ nat_abs c
full_long (pos n) f = f.least
full_long (negsuc n) f = omega (arith, f.least)

pub shifted_form : (c : ℤ) (j : ℕ) → nat_abs c ≤ 2 ^ 24 → Form binary32 (nat_abs (c *ℤ pos (2 ^ j)))
shifted_form c j h = subst (Form binary32) (mul_comm (2 ^ j) (nat_abs c) ∙ sym (nat_abs_mul c (pos (2 ^ j)))) (form_of binary32 j (nat_abs c) h)

pub greatest_at : (X c : ℤ) (j : ℕ) → X ≺ (c +ℤ pos 1) *ℤ pos (2 ^ j) → Full c → (w : ℤ) → Form binary32 (nat_abs w) → w ≼ X → w ≼ c *ℤ pos (2 ^ j)
greatest_at X (pos n) j u f (pos a) F l =
    of_le (none_above n j f.least a F
    (to_lt (lin_lt (X ∷ pos a ∷ pos n ∷ pos (2 ^ j) ∷ []) (le l ∷ lt u ∷ []) (search reading depth 20) (omega arith))))
greatest_at X (pos n) j u f (negsuc a) F l = neg_le_pos (suc a) (n * 2 ^ j)
greatest_at X (negsuc n) j u f (pos a) F l =
    absurd (lin_absurd (X ∷ pos a ∷ pos n ∷ pos (2 ^ j) ∷ []) (le l ∷ lt u ∷ []) (search reading depth 20) (omega arith))
greatest_at X (negsuc n) j u f (negsuc a) F l =
    neg_le {a = suc n * 2 ^ j} {b = suc a} (none_below n j f.least (suc a) F
    (to_lt (lin_lt (X ∷ pos a ∷ pos n ∷ pos (2 ^ j) ∷ []) (le l ∷ lt u ∷ []) (search reading depth 20) (omega arith))))

floor_at : (X c : ℤ) (j : ℕ) → c *ℤ pos (2 ^ j) ≼ X → X ≺ (c +ℤ pos 1) *ℤ pos (2 ^ j) → Full c → IsFloor X (c *ℤ pos (2 ^ j))
floor_at X c j l u f = record { form = shifted_form c j (full_few c f); below = l; greatest = greatest_at X c j u f }

-- a value of 24 digits is its own rounding
pub floor_self : (X : ℤ) → nat_abs X ≤ 2 ^ 24 → IsFloor X X
floor_self X h = record {
  form = subst (Form binary32) (one-mul (nat_abs X)) (form_of binary32 0 (nat_abs X) h);
  below = ≼_refl X;
  greatest = λ w F l. l;
}

-- ---- over a common denominator K: c * m is the multiple of m below X * K
module _ (X c : ℤ) (K m k : ℕ) (p : 0 < K) (e : m ≡ K * k) where
  over_low : c *ℤ pos m ≼ X *ℤ pos K → c *ℤ pos k ≼ X
  over_low l =
      let l' : c *ℤ pos (K * k) ≼ X *ℤ pos K = subst (λ x. c *ℤ pos x ≼ X *ℤ pos K) e l in
      cancel_le (of_lt p) (lin_le (X ∷ c ∷ pos K ∷ pos k ∷ []) (le l' ∷ []) (search reading depth 20) (omega arith))

  over_high : X *ℤ pos K ≺ (c +ℤ pos 1) *ℤ pos m → X ≺ (c +ℤ pos 1) *ℤ pos k
  over_high u =
      let u' : X *ℤ pos K ≺ (c +ℤ pos 1) *ℤ pos (K * k) = subst (λ x. X *ℤ pos K ≺ (c +ℤ pos 1) *ℤ pos x) e u in
      cancel_lt (of_lt p) (lin_lt (X ∷ c ∷ pos K ∷ pos k ∷ []) (lt u' ∷ []) (search reading depth 20) (omega arith))

  over_is : c *ℤ pos m ≡ c *ℤ pos k *ℤ pos K
  over_is = ap (λ x. c *ℤ pos x) e ∙ turn
    where
      turn : c *ℤ pos (K * k) ≡ c *ℤ pos k *ℤ pos K
      turn = lin_eq (c ∷ pos K ∷ pos k ∷ []) [] (search reading depth 20) (omega arith)

-- where m divides K, nothing is lost
module _ (X c : ℤ) (K m k : ℕ) (p : 0 < m) (e : K ≡ m * k) where
  under_is : c *ℤ pos m ≼ X *ℤ pos K → X *ℤ pos K ≺ (c +ℤ pos 1) *ℤ pos m → c ≡ X *ℤ pos k
  under_is l u =
      let l' : c *ℤ pos m ≼ X *ℤ pos (m * k) = subst (λ x. c *ℤ pos m ≼ X *ℤ pos x) e l in
      let u' : X *ℤ pos (m * k) ≺ (c +ℤ pos 1) *ℤ pos m = subst (λ x. X *ℤ pos x ≺ (c +ℤ pos 1) *ℤ pos m) e u in
      let a : c ≼ X *ℤ pos k = cancel_le (of_lt p) (lin_le (X ∷ c ∷ pos m ∷ pos k ∷ []) (le l' ∷ []) (search reading depth 20) (omega arith)) in
      let b : X *ℤ pos k ≺ c +ℤ pos 1 = cancel_lt (of_lt p) (lin_lt (X ∷ c ∷ pos m ∷ pos k ∷ []) (lt u' ∷ []) (search reading depth 20) (omega arith)) in
      lin_eq (X ∷ c ∷ pos k ∷ []) (le a ∷ lt b ∷ []) (search reading depth 20) (omega arith)

  under_value : c ≡ X *ℤ pos k → c *ℤ pos m ≡ X *ℤ pos K
  under_value h = ap (λ x. x *ℤ pos m) h ∙ turn ∙ ap (λ x. X *ℤ pos x) (sym e)
    where
      turn : X *ℤ pos k *ℤ pos m ≡ X *ℤ pos (m * k)
      turn = lin_eq (X ∷ pos m ∷ pos k ∷ []) [] (search reading depth 20) (omega arith)

pub less : (X : ℤ) (k : ℕ) → 0 < k → nat_abs (X *ℤ pos k) ≤ 2 ^ 24 → nat_abs X ≤ 2 ^ 24
less X k p h = omega (arith, nat_abs_mul X (pos k), mul-le-mul_left (nat_abs X) p)

-- c * 2 ^ e, the multiple of 2 ^ e below X * 2 ^ K, is the rounding of X
pub floored : (X c : ℤ) (K e : ℕ) → c *ℤ pos (2 ^ e) ≼ X *ℤ pos (2 ^ K) → X *ℤ pos (2 ^ K) ≺ (c +ℤ pos 1) *ℤ pos (2 ^ e) → Full c
    → (v : ℤ) × (c *ℤ pos (2 ^ e) ≡ v *ℤ pos (2 ^ K)) × IsFloor X v
floored X c K e l u f = ⊎_elim over under (≤_total K e)
  where
    over : K ≤ e → (v : ℤ) × (c *ℤ pos (2 ^ e) ≡ v *ℤ pos (2 ^ K)) × IsFloor X v
    over h =
        let s = pow_split e K h in (
          c *ℤ pos (2 ^ (e - K)),
          over_is X c (2 ^ K) (2 ^ e) (2 ^ (e - K)) (pow_pos K) s,
          floor_at X c (e - K)
              (over_low X c (2 ^ K) (2 ^ e) (2 ^ (e - K)) (pow_pos K) s l) (over_high X c (2 ^ K) (2 ^ e) (2 ^ (e - K)) (pow_pos K) s u) f,
        )

    under : e ≤ K → (v : ℤ) × (c *ℤ pos (2 ^ e) ≡ v *ℤ pos (2 ^ K)) × IsFloor X v
    under h =
        let s = pow_split K e h in
        let z = under_is X c (2 ^ K) (2 ^ e) (2 ^ (K - e)) (pow_pos e) s l u in
        (X, under_value X c (2 ^ K) (2 ^ e) (2 ^ (K - e)) (pow_pos e) s z, floor_self X (less X (2 ^ (K - e)) (pow_pos (K - e)) (subst (λ x. nat_abs x ≤ 2 ^ 24) z (full_few c f))))
