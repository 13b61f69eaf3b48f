-- Sums continued over the pairs of a row and a column: a step makes a sum of one pair more of them, a pair with a zero factor is passed over,
-- and a sum that was refused stays refused. Before that, what a step takes from the radius of method 7: the magnitude of a product, rounded down.
use mathlib.Core.Path.{◌≡◌, refl, sym, ap, ap₂, ◌∙◌, subst}
use mathlib.Core.Bool.{Bool, true, false, cond}
use mathlib.Core.List.{[], ◌∷◌}
use mathlib.Core.Option.{none, some, bind}
use Rattle.std.specs.Prelude.{Some, None}
use Prim.Native.Nat.{ℕ, ◌+◌, ◌^◌, ◌<◌}
use native.Mathlib.Omega.{arith}
use lib.Dec.{T, ltb}
use lib.IntN.{ℤ, pos, negsuc, neg_ℤ, ◌*ℤ◌}
use lib.Pow.{pow_pos}
use lib.Signed.{lt_z, lt_z_yes}
use Rattle.algebra.specs.Absolute.{abs}
use Rattle.algebra.specs.Order.{◌≼◌}
use Rattle.algebra.proofs.Absolute.{abs_neg, abs_mul}
use Rattle.algebra.proofs.Linear.{reading, eq, le, lin_le}
use Rattle.algebra.proofs.Natural.{of_lt}
use Rattle.algebra.proofs.Order.{≼_of_≺, nonneg, neg_mono, ◌⊠◌, cancel_le}
use Rattle.rounding.specs.Format.{binary32}
use Rattle.rounding.specs.Rounding.{up, down, negate}
use Rattle.binary32.specs.Number.{value_of, Finite, finite, held}
use Rattle.binary32.specs.Operations.{Way, mul, with₂}
use Rattle.binary32.specs.Order.{magnitude_of}
use Rattle.unpacked.specs.declared.Number.{Number}
use Rattle.unpacked.specs.declared.Product.{Product}
use Rattle.products.specs.declared.centred.Centred.{Centred}
use Rattle.unpacked.specs.Number.{worth, IsNumber, Below, Holds, Runs}
use Rattle.unpacked.specs.Exact.{Exact, Exactly, RoundedDown, RoundedUp}
use Rattle.products.specs.Centred.{shrinkage, Grown, Added}
use Rattle.products.specs.Terms.{adds_of, SizeDown}
use Rattle.products.specs.Continued.{Line, first, second, grown_by, Continued, centre_by, shrunk_by, PartsSum, PartsNone, PartsAdded}
use Rattle.unpacked.proofs.CornerRounding.{mirror}
use Rattle.unpacked.proofs.CornerTerms.{zero_value, zero_left}
use Rattle.unpacked.proofs.Patterns.{held_is, held_magnitude, magnitude_value, magnitude_test}
use Rattle.products.proofs.Carrying.{holds_runs, runs_holds, holds_none, negate², negate_none, up_more, sum_stays}
use Rattle.products.proofs.Radii.{abs_same, grown_below}
use Rattle.products.proofs.CentredSteps.{centred_none, centred_more, centred_from, one_stays, radius_from}
use Rattle.products.proofs.MidRadSteps.{with_held}
use Rattle.products.proofs.Zeros.{up_same, centred_same, adds_not, magnitude_zero, down_zero, up_zero}

-- ---- the magnitude of a product, rounded down

-- a product is not above zero where its digits are not
not_above : (s v : ℤ) (m K : ℕ) → 0 < K → s *ℤ pos m ≡ v *ℤ pos K → s ≼ pos 0 → v ≼ pos 0
not_above s v m K q e h = cancel_le {c = pos K} (of_lt q) (lin_le (s ∷ v ∷ pos m ∷ pos K ∷ []) (eq e ∷ le (h ⊠ nonneg m) ∷ []) (search reading depth 20) (omega arith))

not_below : (s v : ℤ) (m K : ℕ) → 0 < K → s *ℤ pos m ≡ v *ℤ pos K → pos 0 ≼ s → pos 0 ≼ v
not_below s v m K q e h = cancel_le {c = pos K} (of_lt q) (lin_le (s ∷ v ∷ pos m ∷ pos K ∷ []) (eq e ∷ le (h ⊠ nonneg m) ∷ []) (search reading depth 20) (omega arith))

pub size_below : (p : Product) (r : Number) → lt_z p.sig (pos 0) ≡ true → RoundedUp p r → SizeDown p r
size_below p r t u = record { number = λ X i. subst (λ m. Holds m r) (mirror binary32 (2 ^ 149) X ∙ ap (down binary32 (2 ^ 149)) (size X i)) (u.number X i); none = u.none }
  where
    size : (X : ℤ) → Exact X p → neg_ℤ X ≡ abs X
    size X i =
        let h : X ≼ pos 0 = not_above p.sig X (2 ^ p.exp) (2 ^ 801) (pow_pos 801) i.value (≼_of_≺ (lt_z_yes (subst T (sym t) tt))) in
        sym (abs_same (neg_ℤ X) (neg_mono h)) ∙ abs_neg X

pub size_above : (p : Product) (r : Number) → lt_z p.sig (pos 0) ≡ false → RoundedDown p r → SizeDown p r
size_above p r t d = record { number = λ X i. subst (λ m. Holds m r) (ap (down binary32 (2 ^ 149)) (size X i)) (d.number X i); none = d.none }
  where
    go : (s : ℤ) → lt_z s (pos 0) ≡ false → pos 0 ≼ s
    go (pos n) e = nonneg n
    go (negsuc n) e = absurd (subst T e tt)

    size : (X : ℤ) → Exact X p → X ≡ abs X
    size X i = sym (abs_same X (not_below p.sig X (2 ^ p.exp) (2 ^ 801) (pow_pos 801) i.value (go p.sig t)))

-- of what two patterns hold
pub size_exactly : (a b : ℕ) (p : Product) (r : Number) → Exactly a b p → SizeDown p r → Holds (with₂ (mul down) (magnitude_of a) (magnitude_of b)) r
unfolding with₂ held bind
size_exactly a b p r i s =
    subst (λ m. Holds m r)
    (sym (ap₂ (λ m n. bind m λ x. bind n λ y. mul down x y) (ap₂ (λ t v. cond t (some v) none) (magnitude_test a) (magnitude_value a)) (ap₂ (λ t v. cond t (some v) none) (magnitude_test b) (magnitude_value b))))
    (go (finite a) (finite b) i.numbers i.none)
  where
    go : (t u : Bool) → (cond t u false ≡ true → Exact (value_of a *ℤ value_of b) p) → (cond t u false ≡ false → 1307 < p.exp)
        → Holds (bind (cond t (some (abs (value_of a))) none) λ x. bind (cond u (some (abs (value_of b))) none) λ y. mul down x y) r
    go true true f g = subst (λ v. Holds (down binary32 (2 ^ 149) v) r) (abs_mul (value_of a) (value_of b)) (s.number _ (f refl))
    go true false f g = s.none (g refl)
    go false u f g = s.none (g refl)

-- ---- products with zero
module _ (u w : ℕ) (z : magnitude_of u ≡ 0) (f : Finite w) where
  zero_finite : Finite u
  zero_finite = omega arith

  -- of the magnitudes
  zero_sizes : (way : Way) → way binary32 (2 ^ 149) (pos 0) ≡ some (pos 0) → with₂ (mul way) (magnitude_of u) (magnitude_of w) ≡ some (pos 0)
  unfolding bind
  zero_sizes way e =
      with_held (mul way) (magnitude_of u) (magnitude_of w) (some (abs (value_of u))) (some (abs (value_of w))) (held_magnitude u (held_is u zero_finite)) (held_magnitude w (held_is w f))
      ∙ ap (way binary32 (2 ^ 149)) (zero_left (abs (value_of w)) (ap abs (zero_value u z))) ∙ e

  zero_product : (way : Way) → way binary32 (2 ^ 149) (pos 0) ≡ some (pos 0) → with₂ (mul way) u w ≡ some (pos 0)
  unfolding bind
  zero_product way e = with_held (mul way) u w (some (value_of u)) (some (value_of w)) (held_is u zero_finite) (held_is w f) ∙ ap (way binary32 (2 ^ 149)) (zero_left (value_of w) (zero_value u z)) ∙ e

-- what is so of two patterns read is so of the pair that they are
pub of_pair : (P : ℕ → ℕ → Type 0) {u w x y : ℕ} → u ≡ x → w ≡ y → P u w → P x y
of_pair P {u} {w} {x} {y} e f h = subst (λ b. P x b) f (subst (λ a. P a w) e h)

module _ (p : Line) where
  -- ---- a radius that grows
  unfoldable pub GrowthRuns : ℤ → ℕ → Number → Type 0
  GrowthRuns v l x = Runs (negate (grown_by p v l)) x × Below x

  pub growth_start : (x : Number) → IsNumber x → Below x → GrowthRuns (neg_ℤ (worth x)) 0 x
  unfolding GrowthRuns grown_by
  growth_start x n b = (radius_from _ x n, b)

  pub growth_number : (v : ℤ) (l : ℕ) (x : Number) → GrowthRuns v l x → IsNumber x × Below x
  unfolding GrowthRuns
  growth_number v l x S = (S.0.number, S.1)

  growth_next : (v : ℤ) (l : ℕ) (s r : Number) → GrowthRuns v l s → Grown s (first p l) (second p l) r → Holds (negate (grown_by p v (l + 1))) r
  unfolding GrowthRuns grown_by
  growth_next v l s r S G = up_more _ v l s r _ S.0 refl G

  pub growth_more : (v : ℤ) (l : ℕ) (s r : Number) → GrowthRuns v l s → Grown s (first p l) (second p l) r → ltb 653 r.exp ≡ false → GrowthRuns v (l + 1) r
  unfolding GrowthRuns
  growth_more v l s r S G t = (holds_runs _ r (growth_next v l s r S G) t, grown_below s (first p l) (second p l) r S.1 G)

  -- where there is nothing to add
  pub growth_skip : (v : ℤ) (l : ℕ) (s : Number) → GrowthRuns v l s → adds_of (first p l) (second p l) ≡ false → GrowthRuns v (l + 1) s
  unfolding GrowthRuns grown_by
  growth_skip v l s S t =
      let z = adds_not (first p l) (second p l) t in
      (up_same _ v l (zero_sizes (first p l) (second p l) z.0 z.1 up up_zero) s S.0, S.1)

  -- at the first overflow
  pub growth_none : (x : Number) (l : ℕ) (s r : Number) → l < p.k → GrowthRuns (neg_ℤ (worth x)) l s → Grown s (first p l) (second p l) r → ltb 653 r.exp ≡ true → Continued p x r
  unfolding grown_by
  growth_none x l s r m S G t =
      let h = growth_next (neg_ℤ (worth x)) l s r S G in
      let e = holds_none _ r h t in
      subst (λ w. Holds w r) (e ∙ sym (ap negate (sum_stays (up binary32 1) _ (neg_ℤ (worth x)) l p.k m (negate_none _ e)))) h

  -- after all pairs
  pub growth_whole : (x : Number) (l : ℕ) (r : Number) → l ≡ p.k → GrowthRuns (neg_ℤ (worth x)) l r → Continued p x r
  unfolding GrowthRuns
  growth_whole x l r e S = subst (λ n. Holds (negate (grown_by p (neg_ℤ (worth x)) n)) r) e (runs_holds S.0)

  -- ---- the sums with method 7's parts
  pub parts_start : (s : Centred) → PartsSum p s 0 s
  unfolding centre_by shrunk_by
  parts_start s = centred_from _ _ _ s

  module _ (s : Centred) (l : ℕ) (r : Centred) (S : PartsSum p s l r) where
    pub parts_more : (t : Centred) → Added r (first p l) (second p l) (shrinkage (first p l) (second p l)) (Some t) → PartsSum p s (l + 1) t
    unfolding centre_by shrunk_by
    parts_more t A = centred_more _ _ _ _ _ _ l r (first p l) (second p l) _ S refl refl (sym (negate² _)) t A

    pub parts_none : l < p.k → Added r (first p l) (second p l) (shrinkage (first p l) (second p l)) None → PartsNone p s p.k
    unfolding centre_by shrunk_by
    parts_none m A = one_stays _ _ _ _ _ _ l p.k m (centred_none _ _ _ _ _ _ l r (first p l) (second p l) _ S refl refl (sym (negate² _)) A)

  -- where the first part is zero
  pub parts_skip : (s : Centred) (l : ℕ) (r : Centred) → PartsSum p s l r → Finite (second p l) → ltb 0 (magnitude_of (first p l)) ≡ false → PartsSum p s (l + 1) r
  unfolding centre_by shrunk_by
  parts_skip s l r S f t =
      let z = magnitude_zero (first p l) t in
      let u = first p l in
      let w = second p l in
      centred_same _ _ _ _ _ _ l r (zero_product u w z f down down_zero) (zero_product u w z f up up_zero) (ap negate (zero_sizes u w z f down down_zero)) S

  -- after all pairs
  pub parts_whole : (s : Centred) (l : ℕ) (r : Centred) → l ≡ p.k → PartsSum p s l r → PartsAdded p s (Some r)
  parts_whole s l r e S = subst (λ n. PartsSum p s n r) e S
