-- Which running sums obey the error law at every step: a sum to nearest; a sum up of terms that are not negative; and a sum down with a sum
-- up of the same terms, since each shows that the other does not meet the end of the range.
use mathlib.Core.Path.{◌≡◌, subst}
use mathlib.Core.List.{[], ◌∷◌}
use mathlib.Core.Option.{Option, some}
use Prim.Native.Nat.{ℕ, zero, suc, ◌*◌, ◌<◌}
use native.Mathlib.Omega.{arith}
use lib.IntN.{ℤ, pos, neg_ℤ, ◌+ℤ◌, ◌*ℤ◌}
use Rattle.algebra.specs.Order.{◌≼◌}
use Rattle.algebra.proofs.Linear.{reading, le, lin_le}
use Rattle.algebra.proofs.Order.{cancel_le}
use Rattle.algebra.proofs.Natural.{of_lt}
use Rattle.rounding.specs.Property.{Err}
use Rattle.enclosure.specs.Arithmetic.{Arithmetic}
use Rattle.enclosure.specs.Sums.{sum}
use Rattle.enclosure.proofs.Sums.{sum_start, sum_step}
use Rattle.enclosure.proofs.Laws.{Laws, one, up_sum, down_sum}
use Rattle.enclosure.proofs.Accumulate.{Trace, start, next}

-- ---- over whole numbers
nonneg_not_low : (n : ℕ) (x : ℤ) → pos 0 ≼ x → neg_ℤ (pos n) ≼ x
nonneg_not_low n x h = lin_le (pos n ∷ x ∷ []) (le h ∷ []) (search reading depth 20) (omega arith)

nonneg_sum : {u t : ℤ} → pos 0 ≼ u → pos 0 ≼ t → pos 0 ≼ u +ℤ t
nonneg_sum {u} {t} h k = lin_le (u ∷ t ∷ []) (le h ∷ le k ∷ []) (search reading depth 20) (omega arith)

down_≼_up : (Q : ℕ) (x s t : ℤ) → 0 < Q → s *ℤ pos Q ≼ x → x ≼ t *ℤ pos Q → s ≼ t
down_≼_up Q x s t q h k = cancel_le (of_lt q) (lin_le (pos Q ∷ x ∷ s ∷ t ∷ []) (le h ∷ le k ∷ []) (search reading depth 20) (omega arith))

-- sd and td are on the low side, su and tu on the high one
module _ (n : ℕ) (sd td su tu : ℤ) (k : sd ≼ su) (l : td ≼ tu) where
  high_not_low : neg_ℤ (pos (n * 1)) ≼ sd +ℤ td → neg_ℤ (pos (n * 1)) ≼ su +ℤ tu
  high_not_low h = lin_le (pos n ∷ sd ∷ td ∷ su ∷ tu ∷ []) (le h ∷ le k ∷ le l ∷ []) (search reading depth 30) (omega arith)

  low_not_high : su +ℤ tu ≼ pos (n * 1) → sd +ℤ td ≼ pos (n * 1)
  low_not_high h = lin_le (pos n ∷ sd ∷ td ∷ su ∷ tu ∷ []) (le h ∷ le k ∷ le l ∷ []) (search reading depth 30) (omega arith)

  stays_ordered : (v w : ℤ) → v ≼ sd +ℤ td → su +ℤ tu ≼ w → v ≼ w
  stays_ordered v w h i = lin_le (sd ∷ td ∷ su ∷ tu ∷ v ∷ w ∷ []) (le h ∷ le i ∷ le k ∷ le l ∷ []) (search reading depth 30) (omega arith)

module _ {A : Arithmetic} (L : Laws A) where
  open A use {up, down, near, units}
  open L use {P, MAX, units_above, up_above, up_room, up_err, down_below, down_room, down_err, near_err}

  -- ---- to nearest
  pub near_trace : (X : ℕ → ℤ) (s : ℤ) (n : ℕ) {v : ℤ} → sum (near 1) (λ l. near units (X l)) s n ≡ some v → Trace (2 * P) units X s n v
  near_trace X s zero h = subst (λ z. Trace (2 * P) units X s 0 z) (sum_start (near 1) (λ l. near units (X l)) s h) start
  near_trace X s (suc n) h =
      let c = sum_step (near 1) (λ l. near units (X l)) s n h in
      next c.term (near_trace X s n c.ran) (near_err units_above c.got) (near_err one c.added)

  -- ---- up, of what is not negative
  pub record Rounded (D : ℕ) (x t : ℤ) : Type 0 where
    pub nonnegative : pos 0 ≼ t
    pub close : Err P D x t

  pub up_nonneg : {D : ℕ} {x t : ℤ} → 0 < D → pos 0 ≼ x → up D x ≡ some t → Rounded D x t
  up_nonneg {D} {x} {t} d h e =
      record {
        nonnegative = cancel_le (of_lt d) (lin_le (pos D ∷ x ∷ t ∷ []) (le h ∷ le (up_above d e) ∷ []) (search reading depth 20) (omega arith));
        close = up_err d e (nonneg_not_low (MAX * D) x h);
      }

  pub record Rising (X : ℕ → ℤ) (s : ℤ) (n : ℕ) (v : ℤ) : Type 0 where
    pub trace : Trace P units X s n v
    pub nonnegative : pos 0 ≼ v

  pub rising : (f : ℕ → Option ℤ) (X : ℕ → ℤ) (s : ℤ) → pos 0 ≼ s → (n : ℕ) → ((l : ℕ) → l < n → (t : ℤ) → f l ≡ some t → Rounded units (X l) t)
      → {v : ℤ} → sum (up 1) f s n ≡ some v → Rising X s n v
  rising f X s p zero k h = subst (λ z. Rising X s 0 z) (sum_start (up 1) f s h) (record { trace = start; nonnegative = p })
  rising f X s p (suc n) k h =
      let c = sum_step (up 1) f s n h in
      let i = rising f X s p n (λ l m. k l (omega arith)) c.ran in
      let t = k n (omega arith) c.term c.got in
      let w = up_nonneg one (nonneg_sum i.nonnegative t.nonnegative) c.added in
      record { trace = next c.term i.trace t.close w.close; nonnegative = w.nonnegative }

  -- ---- down and up, side by side
  pub record Joint (X : ℕ → ℤ) (sd su : ℤ) (n : ℕ) (vd vu : ℤ) : Type 0 where
    pub down_trace : Trace P units X sd n vd
    pub up_trace : Trace P units X su n vu
    pub ordered : vd ≼ vu

  pub joint : (X : ℕ → ℤ) (sd su : ℤ) → sd ≼ su → (n : ℕ) {vd vu : ℤ}
      → sum (down 1) (λ l. down units (X l)) sd n ≡ some vd → sum (up 1) (λ l. up units (X l)) su n ≡ some vu → Joint X sd su n vd vu
  joint X sd su o zero {vu = vu} h k =
      subst (λ z. Joint X sd su 0 z vu) (sum_start (down 1) (λ l. down units (X l)) sd h)
      (subst (λ z. Joint X sd su 0 sd z) (sum_start (up 1) (λ l. up units (X l)) su k) (record { down_trace = start; up_trace = start; ordered = o }))
  joint X sd su o (suc n) {vd} {vu} h k =
      let c = sum_step (down 1) (λ l. down units (X l)) sd n h in
      let d = sum_step (up 1) (λ l. up units (X l)) su n k in
      let j = joint X sd su o n c.ran d.ran in
      let t : c.term ≼ d.term = down_≼_up units (X n) c.term d.term units_above (down_below units_above c.got) (up_above units_above d.got) in
      record {
        down_trace = next c.term j.down_trace (down_err units_above c.got (up_room units_above d.got))
            (down_err one c.added (low_not_high MAX c.before c.term d.before d.term j.ordered t (up_room one d.added)));
        up_trace = next d.term j.up_trace (up_err units_above d.got (down_room units_above c.got))
            (up_err one d.added (high_not_low MAX c.before c.term d.before d.term j.ordered t (down_room one c.added)));
        ordered = stays_ordered MAX c.before c.term d.before d.term j.ordered t vd vu (down_sum L c.added) (up_sum L d.added);
      }
