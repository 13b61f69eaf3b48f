-- The radius of method 3, in 1 / (2 × P × Q) of a unit so that (k + 2) × 2 ^ -prec needs no division: it is not below
-- (k + 2) × |mA| × |mB| + 2 × P × (|mA| × rB + rA × (|mB| + rB)), summed over the pairs, and (2 × P)² × Q for what is added.
use mathlib.Core.Path.{◌≡◌, sym, ◌∙◌, ap, ap₂, subst}
use mathlib.Core.List.{[], ◌∷◌}
use mathlib.Core.Option.{some}
use Prim.Native.Nat.{ℕ, ◌+◌, ◌*◌, ◌<◌}
use native.Mathlib.Omega.{arith}
use lib.IntN.{ℤ, pos, nat_abs, ◌+ℤ◌, ◌*ℤ◌}
use Rattle.algebra.specs.Order.{◌≼◌}
use Rattle.algebra.specs.Absolute.{abs}
use Rattle.algebra.specs.Sum.{Σ<}
use Rattle.algebra.proofs.Reading.{by_ring}
use Rattle.algebra.proofs.Linear.{reading, le, eq, lin_le}
use Rattle.algebra.proofs.Order.{◌⊠◌, nonneg, cancel_le}
use Rattle.algebra.proofs.Natural.{of_lt}
use Rattle.algebra.proofs.Absolute.{abs_mul}
use Rattle.algebra.proofs.Sum.{Σ_add, Σ_scale, Σ_ext}
use Rattle.enclosure.specs.Arithmetic.{Arithmetic}
use Rattle.enclosure.specs.Cell.{Cell}
use Rattle.enclosure.specs.Methods.{radius₃, total, raised_radius, raised_term, outer_term}
use Rattle.enclosure.proofs.Accepted.{bound}
use Rattle.enclosure.proofs.NaturalSum.{Σ_pos}
use Rattle.enclosure.proofs.Converted.{EachConverted}
use Rattle.enclosure.proofs.Laws.{Laws, up_sum}
use Rattle.enclosure.proofs.Terms.{inner, outer, mids, outer_above}
use Rattle.enclosure.proofs.RoundedSum.{sum_above, continued_above}
use Rattle.enclosure.proofs.Accumulate.{magnitudes}

-- ---- over whole numbers

-- t is not below K * n * eps / Q, r not below t + s, and v not below m * r / Q; eps / Q is 1 / (2 * P)
raised : (P Q eps K : ℕ) (m n s t r v : ℤ) → 2 * P * eps ≡ Q → 0 < Q → pos 0 ≼ m → pos (K * eps) *ℤ n ≼ t *ℤ pos Q → t +ℤ s ≼ r → m *ℤ r ≼ v *ℤ pos Q
    → m *ℤ (pos K *ℤ n +ℤ pos (2 * P) *ℤ s) ≼ v *ℤ pos (2 * P * Q)
raised P Q eps K m n s t r v e q m₀ h₁ h₂ h₃ =
    let p : pos 0 ≼ pos (2 * P) = nonneg (2 * P) in
    let e' : pos (2 * P) *ℤ pos eps ≡ pos Q = ap pos e in
    let g : pos K *ℤ n ≼ pos (2 * P) *ℤ t =
    cancel_le (of_lt q)
    (lin_le (pos P ∷ pos Q ∷ pos eps ∷ pos K ∷ n ∷ t ∷ []) (eq (ap (λ z. z *ℤ (pos K *ℤ n)) e') ∷ le (p ⊠ h₁) ∷ [])
    (search reading depth 40 fits 9999) (omega arith)) in
    let u : pos K *ℤ n +ℤ pos (2 * P) *ℤ s ≼ pos (2 * P) *ℤ r =
    lin_le (pos P ∷ pos K ∷ n ∷ s ∷ t ∷ r ∷ []) (le g ∷ le (p ⊠ h₂) ∷ []) (search reading depth 40 fits 9999) (omega arith) in
    lin_le (pos P ∷ pos Q ∷ pos K ∷ m ∷ n ∷ s ∷ r ∷ v ∷ []) (le (m₀ ⊠ u) ∷ le (p ⊠ h₃) ∷ []) (search reading depth 40 fits 9999) (omega arith)

finer : (P Q : ℕ) (x t : ℤ) → x ≼ t *ℤ pos Q → pos (2 * P) *ℤ x ≼ t *ℤ pos (2 * P * Q)
finer P Q x t h = lin_le (pos P ∷ pos Q ∷ x ∷ t ∷ []) (le (nonneg (2 * P) ⊠ h) ∷ []) (search reading depth 30) (omega arith)

-- c units more
constant_above : (N c : ℕ) (s t X : ℤ) → X ≼ s *ℤ pos N → s +ℤ pos c ≼ t → X +ℤ pos (c * N) ≼ t *ℤ pos N
constant_above N c s t X h k = lin_le (pos N ∷ pos c ∷ s ∷ t ∷ X ∷ []) (le h ∷ le (k ⊠ nonneg N) ∷ []) (search reading depth 30) (omega arith)

split_raised : (m n s K p : ℤ) → m *ℤ (K *ℤ n +ℤ p *ℤ s) ≡ K *ℤ (m *ℤ n) +ℤ p *ℤ (m *ℤ s)
split_raised m n s K p = by_ring (m ∷ n ∷ s ∷ K ∷ p ∷ []) (search reading depth 30) tt

collect : (r y p x₁ x₂ i o io c : ℤ) → x₁ ≡ y +ℤ p *ℤ i → x₂ ≡ p *ℤ o → io ≡ i +ℤ o → x₁ +ℤ c +ℤ x₂ ≼ r → y +ℤ p *ℤ io +ℤ c ≼ r
collect r y p x₁ x₂ i o io c e f g h =
    lin_le (r ∷ y ∷ p ∷ x₁ ∷ x₂ ∷ i ∷ o ∷ io ∷ c ∷ []) (eq e ∷ eq f ∷ eq (ap (λ z. p *ℤ z) g) ∷ le h ∷ []) (search reading depth 40 fits 9999) (omega arith)

-- ---- of the cells
module _ {A : Arithmetic} (L : Laws A) (k : ℕ) (a b : ℕ → Cell) (oka : EachConverted L.P k a) where
  open A use {up, units, eps, tiny}
  open L use {P, units_above, eps_is, tiny_is, up_above}

  abbrev N : ℕ
  N = 2 * P * units

  abbrev raised_exact : ℕ → ℤ
  raised_exact l = abs (a l).mid *ℤ (pos (k + 2) *ℤ abs (b l).mid +ℤ pos (2 * P) *ℤ (b l).rad)

  abbrev outer_exact : ℕ → ℤ
  outer_exact l = pos (2 * P) *ℤ outer a b l

  raised_above : (l : ℕ) (t : ℤ) → raised_term A k (a l) (b l) ≡ some t → raised_exact l ≼ t *ℤ pos N
  unfolding raised_term raised_radius
  raised_above l t h =
      let d = bound (raised_radius A (pos ((k + 2) * eps)) (b l).mid (b l).rad) _ h in
      let c = bound (up units (pos ((k + 2) * eps) *ℤ abs (b l).mid)) _ d.first in
      raised P units eps (k + 2) (abs (a l).mid) (abs (b l).mid) (b l).rad c.value d.value t eps_is units_above (nonneg (nat_abs (a l).mid))
      (up_above units_above c.first) (up_sum L c.then) (up_above units_above d.then)

  stages_above : {r : ℤ} → radius₃ A k a b ≡ some r → Σ< k raised_exact +ℤ pos (tiny * N) +ℤ Σ< k outer_exact ≼ r *ℤ pos N
  unfolding radius₃ total
  stages_above h =
      let c = bound (total A k a b up (raised_term A k) (pos 0)) _ h in
      let d = bound (up 1 (c.value +ℤ pos tiny)) _ c.then in
      continued_above L N (λ l. outer_term A (a l) (b l)) outer_exact d.value
      (constant_above N tiny c.value d.value (Σ< k raised_exact)
      (sum_above L N (λ l. raised_term A k (a l) (b l)) raised_exact 0 k (λ l i t f. raised_above l t f) c.first) (up_sum L d.first))
      k (λ l i t f. finer P units (outer a b l) t (outer_above L a b l t (oka l i).rad_nonneg f)) d.then

  raised_sum : Σ< k raised_exact ≡ pos ((k + 2) * magnitudes k (mids a b)) +ℤ pos (2 * P) *ℤ Σ< k (inner a b)
  raised_sum =
      let y : ℕ → ℤ = λ l. abs (mids a b l) in
      Σ_ext k raised_exact (λ l. pos (k + 2) *ℤ y l +ℤ pos (2 * P) *ℤ inner a b l)
      (λ l i. split_raised (abs (a l).mid) (abs (b l).mid) (b l).rad (pos (k + 2)) (pos (2 * P))
      ∙ ap (λ z. pos (k + 2) *ℤ z +ℤ pos (2 * P) *ℤ inner a b l) (sym (abs_mul (a l).mid (b l).mid)))
      ∙ Σ_add k (λ l. pos (k + 2) *ℤ y l) (λ l. pos (2 * P) *ℤ inner a b l)
      ∙ ap₂ ◌+ℤ◌ (Σ_scale k (pos (k + 2)) y ∙ ap (λ z. pos (k + 2) *ℤ z) (Σ_pos k (λ l. nat_abs (mids a b l)))) (Σ_scale k (pos (2 * P)) (inner a b))

  pub radius₃_above : {r : ℤ} → radius₃ A k a b ≡ some r
      → pos ((k + 2) * magnitudes k (mids a b)) +ℤ pos (2 * P) *ℤ Σ< k (λ l. inner a b l +ℤ outer a b l) +ℤ pos (2 * P * (2 * P * units))
      ≼ r *ℤ pos (2 * P * units)
  radius₃_above {r} h =
      subst (λ t. pos ((k + 2) * magnitudes k (mids a b)) +ℤ pos (2 * P) *ℤ Σ< k (λ l. inner a b l +ℤ outer a b l) +ℤ pos (t * N) ≼ r *ℤ pos N) tiny_is
      (collect (r *ℤ pos N) (pos ((k + 2) * magnitudes k (mids a b))) (pos (2 * P)) (Σ< k raised_exact) (Σ< k outer_exact)
      (Σ< k (inner a b)) (Σ< k (outer a b)) (Σ< k (λ l. inner a b l +ℤ outer a b l)) (pos (tiny * N))
      raised_sum (Σ_scale k (pos (2 * P)) (outer a b)) (Σ_add k (inner a b) (outer a b)) (stages_above h))
