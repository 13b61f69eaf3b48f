-- The error of a running sum to nearest, by the spacing g of the sum of the terms' magnitudes: 2 × the error of K terms is at most (K + 2) × g + K units.
-- Both sums are followed side by side. An addition errs by at most g / 2, the first one not at all; the terms together by 3 / 2 × g and K / 2 units.
use mathlib.Core.Path.{◌≡◌, refl, sym, ◌∙◌, ap, subst₂}
use mathlib.Core.List.{[], ◌∷◌}
use mathlib.Core.Logic.{◌⊎◌, inl, inr, ⊎_elim}
use mathlib.Core.Option.{some, some-injective}
use Prim.Native.Nat.{ℕ, zero, suc, ◌+◌, ◌*◌, ◌≤◌, ◌<◌}
use native.Mathlib.Omega.{arith}
use native.Mathlib.Nat.{mul-le-mul_left, mul-le-mul_right, le_of_mul-le-mul_left, lt_of_mul-lt-mul_right}
use lib.IntN.{ℤ, pos, nat_abs, ◌+ℤ◌, ◌-ℤ◌}
use Rattle.algebra.specs.Order.{◌≼◌}
use Rattle.algebra.specs.Absolute.{abs}
use Rattle.algebra.specs.Sum.{Σ<}
use Rattle.algebra.proofs.Reading.{by_ring}
use Rattle.algebra.proofs.Linear.{reading, le, eq, lin_le, lin_eq}
use Rattle.algebra.proofs.Order.{≼_refl, ≼_trans, ≼_of_≡, nonneg, add_mono}
use Rattle.algebra.proofs.Natural.{to_le}
use Rattle.algebra.proofs.Absolute.{≼_abs, neg_≼_abs, abs_add}
use Rattle.rounding.specs.Property.{off}
use Rattle.enclosure.specs.Arithmetic.{Arithmetic}
use Rattle.enclosure.specs.Sums.{sum}
use Rattle.enclosure.proofs.Sums.{sum_start, sum_step}
use Rattle.enclosure.proofs.Within.{abs_nonneg}
use Rattle.enclosure.proofs.Laws.{Laws, one}
use Rattle.enclosure.proofs.Magnitude.{sum_off, error_splits}

-- ---- over naturals

-- how many of i additions may err
abbrev pub inexact : ℕ → ℕ
inexact zero = 0
inexact (suc i) = i

-- of the next addition, where the spacing grows from g to h: it errs by d, or not at all
next_errs : (i g h d : ℕ) → 1 ≤ i → g ≤ h → 2 * d ≤ h → inexact i * g + 2 * d ≤ i * h
next_errs zero g h d p l e = omega arith
next_errs (suc i) g h d p l e = omega (arith, mul-le-mul_left i l)

next_exact : (i g h : ℕ) → g ≤ h → inexact i * g ≤ i * h
next_exact zero g h l = omega arith
next_exact (suc i) g h l = omega (arith, mul-le-mul_left i l)

-- F is the error of a term of magnitude m and spacing σ
term_errs : (P Q F σ m τ : ℕ) → 2 * F ≤ σ * Q → P * σ ≤ m + P → m ≤ τ → 2 * P * F ≤ (τ + P) * Q
term_errs P Q F σ m τ h k l = omega (arith, mul-le-mul_left P h, mul-le-mul_right Q k, mul-le-mul_right Q l)

-- one turn: the error of the sum goes from E to E', that of the term is F, of the addition d; J and J' are what the additions may err by
turn_errs : (P Q i J J' S S' τ E E' F d : ℕ) → 4 * (P * E) ≤ Q * ((2 * P + 1) * J + 2 * S + 2 * i * P) → 2 * P * F ≤ (τ + P) * Q
    → E' ≤ E + F + d * Q → J + 2 * d ≤ J' → 2 * (S + τ) + J ≤ 2 * S' + J' → 4 * (P * E') ≤ Q * ((2 * P + 1) * J' + 2 * S' + 2 * suc i * P)
turn_errs P Q i J J' S S' τ E E' F d h₁ h₂ h₃ h₄ h₅ = omega (arith, mul-le-mul_left (4 * P) h₃, mul-le-mul_left (2 * P * Q) h₄, mul-le-mul_left Q h₅)

-- all turns
all_err : (P Q K g S E : ℕ) → K ≤ 2 * P → 4 * (P * E) ≤ Q * ((2 * P + 1) * (inexact K * g) + 2 * S + 2 * K * P) → S < 2 * P * g
    → 2 * E ≤ Q * ((K + 2) * g + K)
all_err P Q K g S E few h l =
    le_of_mul-le-mul_left {k = 2 * P} (omega (arith, mul-le-mul_left Q (paid K few))) (lt_of_mul-lt-mul_right g {m = 0} {n = 2 * P} (omega arith))
  where
    paid : (K : ℕ) → K ≤ 2 * P → (2 * P + 1) * (inexact K * g) + 2 * S + 2 * K * P ≤ 2 * P * ((K + 2) * g + K)
    paid zero few = omega arith
    paid (suc K) few = omega (arith, mul-le-mul_right g few)

-- ---- over integers

-- the sum is still 0
unmoved : (s S t : ℤ) → abs s ≼ S → S ≡ pos 0 → s +ℤ t ≡ t
unmoved s S t h e = lin_eq (s ∷ S ∷ t ∷ abs s ∷ []) (le h ∷ eq e ∷ le (≼_abs s) ∷ le (neg_≼_abs s) ∷ []) (search reading depth 30) (omega arith)

no_distance : (s t v : ℤ) → v ≡ t → s +ℤ t ≡ t → nat_abs (v -ℤ (s +ℤ t)) ≡ 0
no_distance s t v e f =
    let g : v -ℤ (s +ℤ t) ≡ pos 0 = lin_eq (s ∷ t ∷ v ∷ []) (eq e ∷ eq f ∷ []) (search reading depth 20) (omega arith) in
    ap nat_abs g

not_negative : (S T W : ℤ) → pos 0 ≼ S → pos 0 ≼ T → nat_abs S + nat_abs T ≤ nat_abs W + nat_abs (W -ℤ (S +ℤ T))
not_negative S T W p q =
    to_le (lin_le (S ∷ T ∷ W ∷ abs S ∷ abs T ∷ abs W ∷ abs (W -ℤ (S +ℤ T)) ∷ [])
    (eq (abs_nonneg S p) ∷ eq (abs_nonneg T q) ∷ le (≼_abs W) ∷ le (neg_≼_abs (W -ℤ (S +ℤ T))) ∷ []) (search reading depth 30) (omega arith))

abs_≼_sum : (S T : ℤ) → pos 0 ≼ S → pos 0 ≼ T → abs S ≼ S +ℤ T
abs_≼_sum S T p q = lin_le (S ∷ T ∷ abs S ∷ []) (eq (abs_nonneg S p) ∷ le q ∷ []) (search reading depth 20) (omega arith)

-- ---- the two sums: s is that of the terms, which are about X / Q, and S that of their magnitudes
module _ {A : Arithmetic} (L : Laws A) where
  open A use {near, units, spacing}
  open L use {P, units_above, near_spacing, near_again, near_mono, spacing_mono, spacing_high, spacing_low}

  -- the next addition is exact as S is still 0, or it is not the first and S is a number
  abbrev pub Begun : ℕ → ℤ → Type 0
  Begun i S = (S ≡ pos 0) ⊎ ((1 ≤ i) × (near 1 S ≡ some S))

  -- After i terms. The error is at most half a spacing for each addition but the first, half a unit for each term, and 1 / (2 * P) of the sum of
  -- the terms' magnitudes, which is S but for half a spacing for each addition but the first; here it is multiplied by 4 * P
  pub record Followed (i : ℕ) (s S X : ℤ) : Type 0 where
    pub begun : Begun i S
    pub within : abs s ≼ S
    pub error : 4 * (P * off units X s) ≤ units * ((2 * P + 1) * (inexact i * spacing S) + 2 * nat_abs S + 2 * i * P)

  pub none_yet : Followed 0 (pos 0) (pos 0) (pos 0)
  none_yet = record { begun = inl refl; within = ≼_refl (pos 0); error = omega arith }

  -- one addition: S and T give W, and s and t, which are no larger, give v
  module _ {i : ℕ} {S : ℤ} (b : Begun i S) (S₀ : pos 0 ≼ S) {T W : ℤ} (T₀ : pos 0 ≼ T) (added : near 1 (S +ℤ T) ≡ some W) where
    grows : spacing S ≤ spacing W
    grows = spacing_mono S W (⊎_elim (λ e. omega (arith, ap nat_abs e)) (λ k. to_le (≼_trans (near_mono S one (abs_≼_sum S T S₀ T₀) k.1 added) (≼_abs W))) b)

    addition : (x s t : ℤ) {v : ℤ} → abs s ≼ S → abs v ≼ W → near units x ≡ some t → near 1 (s +ℤ t) ≡ some v
        → inexact i * spacing S + 2 * nat_abs (v -ℤ (s +ℤ t)) ≤ i * spacing W
    addition x s t {v} h k e e' = ⊎_elim exact errs b
      where
        exact : S ≡ pos 0 → inexact i * spacing S + 2 * nat_abs (v -ℤ (s +ℤ t)) ≤ i * spacing W
        exact z =
            let f : s +ℤ t ≡ t = unmoved s S t h z in
            let same : v ≡ t = some-injective _ _ (sym e' ∙ ap (near 1) f ∙ near_again x units_above e) in
            omega (arith, next_exact i (spacing S) (spacing W) grows, no_distance s t v same f)

        errs : (1 ≤ i) × (near 1 S ≡ some S) → inexact i * spacing S + 2 * nat_abs (v -ℤ (s +ℤ t)) ≤ i * spacing W
        errs (p, _) =
            let l : spacing v ≤ spacing W = spacing_mono v W (to_le (≼_trans k (≼_abs W))) in
            next_errs i (spacing S) (spacing W) (nat_abs (v -ℤ (s +ℤ t))) p grows (omega (arith, l, near_spacing (s +ℤ t) one e', sum_off (s +ℤ t) v))

  -- one term x more
  turn : {i : ℕ} {s S X : ℤ} → Followed i s S X → (x : ℤ) {t T v W : ℤ} → near units x ≡ some t → near units (abs x) ≡ some T
      → near 1 (s +ℤ t) ≡ some v → near 1 (S +ℤ T) ≡ some W → Followed (suc i) v W (X +ℤ x)
  turn {i} {s} {S} {X} f x {t} {T} {v} {W} e E e' E' =
      let t_T : abs t ≼ T = near_mono x units_above (≼_refl (abs x)) e E in
      let S₀ : pos 0 ≼ S = ≼_trans (nonneg (nat_abs s)) f.within in
      let T₀ : pos 0 ≼ T = ≼_trans (nonneg (nat_abs t)) t_T in
      let v_W : abs v ≼ W = near_mono (s +ℤ t) one (≼_trans (abs_add s t) (add_mono f.within t_T)) e' E' in
      let W₀ : pos 0 ≼ W = ≼_trans (nonneg (nat_abs v)) v_W in
      let d = addition f.begun S₀ T₀ E' x s t f.within v_W e e' in
      let D = addition f.begun S₀ T₀ E' (abs x) S T (≼_of_≡ (abs_nonneg S S₀)) (≼_of_≡ (abs_nonneg W W₀)) E E' in
      record {
        begun = inr (omega arith, near_again (S +ℤ T) one E');
        within = v_W;
        error = turn_errs P units i (inexact i * spacing S) (i * spacing W) (nat_abs S) (nat_abs W) (nat_abs T) (off units X s) (off units (X +ℤ x) v) (off units x t)
            (nat_abs (v -ℤ (s +ℤ t))) f.error
            (term_errs P units (off units x t) (spacing t) (nat_abs t) (nat_abs T) (near_spacing x units_above e) (spacing_low t) (to_le (≼_trans t_T (≼_abs T))))
            (error_splits units s t v X x) d (omega (arith, D, not_negative S T W S₀ T₀));
      }

  -- n terms more
  pub follow : (X : ℕ → ℤ) (n : ℕ) {i : ℕ} {s S X₀ v W : ℤ} → Followed i s S X₀ → sum (near 1) (λ l. near units (X l)) s n ≡ some v
      → sum (near 1) (λ l. near units (abs (X l))) S n ≡ some W → Followed (i + n) v W (X₀ +ℤ Σ< n X)
  unfolding Σ<
  follow X zero {i} {s} {S} {X₀} f h k =
      let e : X₀ ≡ X₀ +ℤ pos 0 = by_ring (X₀ ∷ []) (search reading depth 20) tt in
      let j : i ≡ i + 0 = omega arith in
      subst₂ (λ v W. Followed (i + 0) v W (X₀ +ℤ pos 0)) (sum_start (near 1) _ s h) (sum_start (near 1) _ S k) (subst₂ (λ j z. Followed j s S z) j e f)
  follow X (suc n) {i} {s} {S} {X₀} {v} {W} f h k =
      let c = sum_step (near 1) _ s n h in
      let d = sum_step (near 1) _ S n k in
      let e : X₀ +ℤ Σ< n X +ℤ X n ≡ X₀ +ℤ (Σ< n X +ℤ X n) = by_ring (X₀ ∷ Σ< n X ∷ X n ∷ []) (search reading depth 20) tt in
      let j : suc (i + n) ≡ i + suc n = omega arith in
      subst₂ (λ j z. Followed j v W z) j e (turn (follow X n f c.ran d.ran) (X n) c.got d.got c.added d.added)

  pub spacing_error : {K : ℕ} {s S X : ℤ} → K ≤ 2 * P → Followed K s S X → 2 * off units X s ≤ units * ((K + 2) * spacing S + K)
  spacing_error {K} {s} {S} {X} few f = all_err P units K (spacing S) (nat_abs S) (off units X s) few f.error (spacing_high S)
