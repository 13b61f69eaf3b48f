-- The order of ranks is the order of exact products: so the corner of the lesser rank has the lesser product, and the one of the greater rank the greater.
use mathlib.Core.Path.{◌≡◌, sym, ap, ◌∙◌, subst}
use mathlib.Core.Bool.{Bool, true, false, cond, not}
use mathlib.Core.List.{[], ◌∷◌}
use mathlib.Core.Logic.{⊎_elim}
use Prim.Native.Nat.{ℕ, zero, suc, ◌+◌, ◌-◌, ◌*◌, ◌^◌, ◌≤◌, ◌<◌, zero-le}
use native.Mathlib.Omega.{arith}
use native.Mathlib.Nat.{le_trans, le_of_eq, mul-le-mul_left, mul-le-mul_right, eq-zero-or-pos, zero-mul, pow-succ'}
use lib.Dec.{T, T_not}
use lib.Pow.{pow_pos, pow-add}
use lib.IntN.{ℤ, pos, negsuc, neg_ℤ, nat_abs, ◌*ℤ◌}
use lib.Signed.{le_z, le_z_yes}
use Rattle.algebra.specs.Order.{◌≼◌}
use Rattle.algebra.specs.Extremes.{minℤ, maxℤ}
use Rattle.algebra.proofs.Reading.{by_ring}
use Rattle.algebra.proofs.Linear.{reading, le, lin_le, lin_eq}
use Rattle.algebra.proofs.Order.{≼_refl, ≼_of_≺, ≼_or_≺, ≼_antisym, cancel_le}
use Rattle.algebra.proofs.Extremes.{min_≼_l, min_≼_r, ≼_max_l, ≼_max_r, ≼_min, max_≼}
use Rattle.algebra.proofs.Natural.{≤_total, of_le, to_le, to_eq, of_lt}
use Rattle.rounding.proofs.Sign.{neg_le, of_neg_le, pos_le_neg, neg_le_pos}
use Rattle.unpacked.specs.declared.Product.{Product}
use Rattle.unpacked.specs.declared.Corner.{Corner}
use Rattle.unpacked.specs.Exact.{Exact}
use Rattle.unpacked.specs.Corners.{CornerAt, rank_of, lesser_of, greater_of}

-- ---- magnitudes

-- m * 2 ^ e in 48 digits; zero is below all others
record Digits (m e : ℕ) : Type 0 where
  few : m ≤ 2 ^ 48
  full : 0 < m → 2 ^ 47 ≤ m
  some : 0 < m → 752 ≤ e
  none : m ≡ 0 → e < 752

-- a larger exponent makes up for digits
raise : (m n e d : ℕ) → m ≤ n * 2 ^ d → m * 2 ^ e ≤ n * 2 ^ (e + d)
raise m n e d h =
    le_trans (mul-le-mul_right (2 ^ e) h) (le_of_eq (regroup (2 ^ e) (2 ^ d) ∙ ap (λ k. n * k) (sym (pow-add 2 e d))))
  where
    regroup : (P Q : ℕ) → n * Q * P ≡ n * (P * Q)
    regroup P Q = to_eq (by_ring (pos n ∷ pos P ∷ pos Q ∷ []) (search reading depth 20) tt)

lower : (m n e d : ℕ) → m * 2 ^ d ≤ n → m * 2 ^ (e + d) ≤ n * 2 ^ e
lower m n e d h =
    le_trans (le_of_eq (ap (λ k. m * k) (pow-add 2 e d) ∙ regroup (2 ^ e) (2 ^ d))) (mul-le-mul_right (2 ^ e) h)
  where
    regroup : (P Q : ℕ) → m * (P * Q) ≡ m * Q * P
    regroup P Q = to_eq (by_ring (pos m ∷ pos P ∷ pos Q ∷ []) (search reading depth 20) tt)

module _ (m n e f : ℕ) (p : Digits m e) (q : Digits n f) (h : m + e * 2 ^ 47 ≤ n + f * 2 ^ 47) where
  -- of two that are not zero
  up_by : (d : ℕ) → 0 < n → e + d ≡ f → m ≤ n * 2 ^ d
  up_by zero b k = let s : n * 2 ^ 0 ≡ n = omega arith in omega arith
  up_by (suc d) b k =
      let t : 2 * 1 ≤ 2 * 2 ^ d = mul-le-mul_left 2 (pow_pos d) in
      let u : n * 2 ≤ n * 2 ^ suc d = mul-le-mul_left n (omega (arith, pow-succ' 2 d)) in
      let v : 2 ^ 47 ≤ n = q.full b in
      let w : m ≤ 2 ^ 48 = p.few in
      omega arith

  down_by : (d : ℕ) → 0 < m → f + d ≡ e → m * 2 ^ d ≤ n
  down_by zero a k = let s : m * 2 ^ 0 ≡ m = omega arith in omega arith
  down_by (suc zero) a k = omega (arith, q.few, p.full a)
  down_by (suc (suc d)) a k = absurd (far q.few (p.full a))
    where
      far : n ≤ 2 ^ 48 → 2 ^ 47 ≤ m → ⊥
      far u v = omega arith

  digits_order : m * 2 ^ e ≤ n * 2 ^ f
  digits_order = ⊎_elim nothing (λ a. ⊎_elim (below a) (both a) (eq-zero-or-pos n)) (eq-zero-or-pos m)
    where
      nothing : m ≡ 0 → m * 2 ^ e ≤ n * 2 ^ f
      nothing z = le_trans (le_of_eq (ap (λ k. k * 2 ^ e) z ∙ zero-mul (2 ^ e))) zero-le

      below : 0 < m → n ≡ 0 → m * 2 ^ e ≤ n * 2 ^ f
      below a z = absurd (no (p.full a) (p.some a) (q.none z))
        where
          no : 2 ^ 47 ≤ m → 752 ≤ e → f < 752 → ⊥
          no u v w = omega arith

      both : 0 < m → 0 < n → m * 2 ^ e ≤ n * 2 ^ f
      both a b =
          ⊎_elim
          (λ l. let k : e + (f - e) ≡ f = omega arith in subst (λ t. m * 2 ^ e ≤ n * 2 ^ t) k (raise m n e (f - e) (up_by (f - e) b k)))
          (λ l. let k : f + (e - f) ≡ e = omega arith in subst (λ t. m * 2 ^ t ≤ n * 2 ^ f) k (lower m n f (e - f) (down_by (e - f) a k)))
          (≤_total e f)

-- ---- values

pub rank_neg : (n e : ℕ) → rank_of (negsuc n) e ≡ neg_ℤ (pos (suc n + e * 2 ^ 47))
unfolding rank_of
rank_neg n e = lin_eq (pos n ∷ pos e ∷ []) [] (search reading depth 20) (omega arith)

signed_order : (s t : ℤ) (e f : ℕ) → Digits (nat_abs s) e → Digits (nat_abs t) f → rank_of s e ≼ rank_of t f
    → s *ℤ pos (2 ^ e) ≼ t *ℤ pos (2 ^ f)
unfolding rank_of
signed_order (pos m) (pos n) e f p q h = of_le (digits_order m n e f p q (to_le h))
signed_order (pos m) (negsuc n) e f p q h = absurd (no (pos_le_neg (subst (λ z. rank_of (pos m) e ≼ z) (rank_neg n f) h)))
  where
    no : suc n + f * 2 ^ 47 ≡ 0 → ⊥
    no k = omega arith
signed_order (negsuc m) (pos n) e f p q h = neg_le_pos (suc m * 2 ^ e) (n * 2 ^ f)
signed_order (negsuc m) (negsuc n) e f p q h =
    neg_le (digits_order (suc n) (suc m) f e q p (of_neg_le (subst (λ z. z ≼ neg_ℤ (pos (suc n + f * 2 ^ 47))) (rank_neg m e) (subst (λ z. rank_of (negsuc m) e ≼ z) (rank_neg n f) h))))

digits_of : {X : ℤ} {p : Product} → Exact X p → Digits (nat_abs p.sig) p.exp
digits_of x = record { few = x.few; full = x.full; some = x.some; none = x.none }

cancel : (K : ℕ) {X Y : ℤ} → 0 < K → X *ℤ pos K ≼ Y *ℤ pos K → X ≼ Y
cancel K {X} {Y} k h = cancel_le {c = pos K} (of_lt k) (lin_le (X ∷ Y ∷ pos K ∷ []) (le h ∷ []) (search reading depth 20) (omega arith))

pub rank_order : {X Y : ℤ} {p q : Product} → Exact X p → Exact Y q → rank_of p.sig p.exp ≼ rank_of q.sig q.exp → X ≼ Y
rank_order {Y = Y} {p = p} {q = q} x y h =
    cancel (2 ^ 801) (pow_pos 801)
    (subst (λ z. z ≼ Y *ℤ pos (2 ^ 801)) x.value (subst (λ z. p.sig *ℤ pos (2 ^ p.exp) ≼ z) y.value (signed_order p.sig q.sig p.exp q.exp (digits_of x) (digits_of y) h)))

-- ---- corners

abbrev corner_rank : Corner → ℤ
corner_rank r = rank_of r.product.sig r.product.exp

pub min_left : {a b : ℤ} → a ≼ b → a ≡ minℤ a b
min_left {a} {b} h = ≼_antisym (≼_min (≼_refl a) h) (min_≼_l a b)

pub min_right : {a b : ℤ} → b ≼ a → b ≡ minℤ a b
min_right {a} {b} h = ≼_antisym (≼_min h (≼_refl b)) (min_≼_r a b)

pub max_left : {a b : ℤ} → b ≼ a → a ≡ maxℤ a b
max_left {a} {b} h = ≼_antisym (≼_max_l a b) (max_≼ (≼_refl a) h)

pub max_right : {a b : ℤ} → a ≼ b → b ≡ maxℤ a b
max_right {a} {b} h = ≼_antisym (≼_max_r a b) (max_≼ h (≼_refl b))

module _ {X Y : ℤ} {x y : Corner} (p : CornerAt X x) (q : CornerAt Y y) where
  first : T (le_z x.rank y.rank) → X ≼ Y
  first t = rank_order p.exact q.exact (subst (λ z. z ≼ corner_rank y) p.rank (subst (λ z. x.rank ≼ z) q.rank (le_z_yes t)))

  second : T (not (le_z x.rank y.rank)) → Y ≼ X
  second t =
      rank_order q.exact p.exact
      (subst (λ z. z ≼ corner_rank x) q.rank (subst (λ z. y.rank ≼ z) p.rank
      (⊎_elim (λ h. absurd (T_not (le_z x.rank y.rank) t h.le)) ≼_of_≺ (≼_or_≺ x.rank y.rank))))

  pub lesser_at : CornerAt (minℤ X Y) (lesser_of x y)
  unfolding lesser_of
  lesser_at = go (le_z x.rank y.rank) first second
    where
      go : (t : Bool) → (T t → X ≼ Y) → (T (not t) → Y ≼ X) → CornerAt (minℤ X Y) (cond t x y)
      go true f g = subst (λ z. CornerAt z x) (min_left (f tt)) p
      go false f g = subst (λ z. CornerAt z y) (min_right (g tt)) q

  pub greater_at : CornerAt (maxℤ X Y) (greater_of x y)
  unfolding greater_of
  greater_at = go (le_z x.rank y.rank) first second
    where
      go : (t : Bool) → (T t → X ≼ Y) → (T (not t) → Y ≼ X) → CornerAt (maxℤ X Y) (cond t y x)
      go true f g = subst (λ z. CornerAt z y) (max_right (f tt)) q
      go false f g = subst (λ z. CornerAt z x) (max_left (g tt)) p
