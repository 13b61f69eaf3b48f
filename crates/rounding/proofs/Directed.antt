-- `up` is the least number not below X / D, and only that, refused exactly above the largest number; `down` is its mirror image. Assumes nothing.
use mathlib.Core.Path.{◌≡◌, refl, sym, ap, ◌∙◌, subst}
use mathlib.Core.Bool.{Bool, true, false, cond, not}
use mathlib.Core.List.{[], ◌∷◌}
use mathlib.Core.Logic.{◌↔◌}
use mathlib.Core.Option.{Option, none, some}
use Prim.Native.Nat.{ℕ, suc, ◌*◌, ◌≤◌, ◌<◌, min}
use native.Mathlib.Omega.{arith, min_cases}
use native.Mathlib.Nat.{le_trans, lt_of_not-le, not-le_of_lt, mul-le-mul_left, mul-le-mul_right}
use lib.Dec.{leb, T, leb→le, nleb→lt}
use lib.IntN.{ℤ, pos, negsuc, neg_ℤ, ◌*ℤ◌, neg_ℤ-neg_ℤ}
use Rattle.algebra.specs.Order.{◌≼◌, ◌≺◌}
use Rattle.algebra.proofs.Linear.{reading, le, lt, lin_le, lin_lt}
use Rattle.algebra.proofs.Order.{≼_antisym, ≼_trans, not_≺}
use Rattle.algebra.proofs.Natural.{of_le, to_le, of_lt}
use Rattle.rounding.specs.Format.{Format, MAX, Form, Num}
use Rattle.rounding.specs.Rounding.{lo, hi, negate, up, down}
use Rattle.rounding.specs.Property.{IsUp, IsDown, UpTo, DownTo}
use Rattle.rounding.proofs.Bracket.{lo_low, hi_high, lo_form, hi_form, lo_greatest, hi_least}
use Rattle.rounding.proofs.Sign.{max_form, neg_le, of_neg_le, neg_mul, num_neg, pos_le_neg, neg_le_pos}

-- at most one number is
pub up_unique : {f : Format} {D : ℕ} {X v w : ℤ} → IsUp f D X v → IsUp f D X w → v ≡ w
up_unique {v = v} {w} a b = ≼_antisym (a.least w b.num b.above) (b.least v a.num a.above)

module _ (f : Format) (D : ℕ) (d : 0 < D) where
  -- ---- up: hi of a value from 0 on
  pub up_pos : (N : ℕ) → hi f D N ≤ MAX f → IsUp f D (pos N) (pos (hi f D N))
  up_pos N h = record { num = record { form = hi_form f D N d; within = h }; above = of_le (hi_high f D N d); least = least }
    where
      least : (w : ℤ) → Num f w → pos N ≼ w *ℤ pos D → pos (hi f D N) ≼ w
      least (pos w) n l = of_le (hi_least f D N d n.form (to_le l))
      least (negsuc w) n l = absurd (no (pos_le_neg l))
        where
          no : suc w * D ≡ 0 → ⊥
          no e = omega (arith, mul-le-mul_left (suc w) d)

  -- of a negative one minus the lesser of lo and the largest number
  pub up_neg : (n : ℕ) → IsUp f D (negsuc n) (neg_ℤ (pos (min (lo f D (suc n)) (MAX f))))
  up_neg n = record { num = num_neg {v = pos cut} (record { form = form; within = omega arith }); above = above; least = least }
    where
      cut : ℕ
      cut = min (lo f D (suc n)) (MAX f)

      form : Form f cut
      form = min_cases (lo f D (suc n)) (MAX f) (Form f cut)
          (λ h e. subst (Form f) (sym e) (lo_form f D (suc n) d)) (λ h e. subst (Form f) (sym e) (max_form f))

      low : cut * D ≤ suc n
      low = le_trans (mul-le-mul_right D (omega arith)) (lo_low f D (suc n) d)

      above : negsuc n ≼ neg_ℤ (pos cut) *ℤ pos D
      above = subst (λ z. negsuc n ≼ z) (sym (neg_mul cut D)) (neg_le low)

      least : (w : ℤ) → Num f w → negsuc n ≼ w *ℤ pos D → neg_ℤ (pos cut) ≼ w
      least (pos w) k l = neg_le_pos cut w
      least (negsuc w) k l =
          neg_le {a = suc w} {b = cut} (omega (arith, k.within, lo_greatest f D (suc n) d k.form (of_neg_le {a = suc w * D} {b = suc n} l)))

  -- ---- the answers are what they should be
  pub up_to : (X : ℤ) → UpTo f D X (up f D X)
  unfolding up
  up_to (negsuc n) = up_neg n
  up_to (pos N) =
      go (leb (hi f D N) (MAX f)) (λ t. up_pos N (leb→le (hi f D N) (MAX f) t)) (λ t. of_lt (large (nleb→lt (hi f D N) (MAX f) t)))
    where
      go : (t : Bool) → (T t → IsUp f D (pos N) (pos (hi f D N))) → (T (not t) → pos (MAX f * D) ≺ pos N)
          → UpTo f D (pos N) (cond t (some (pos (hi f D N))) none)
      go true g h = g tt
      go false g h = h tt

      large : MAX f < hi f D N → MAX f * D < N
      large h = lt_of_not-le (λ (l : N ≤ MAX f * D). not-le_of_lt h (hi_least f D N d (max_form f) l))

  pub down_to : (X : ℤ) → DownTo f D X (down f D X)
  unfolding down
  down_to X = mirror (up f D (neg_ℤ X)) (up_to (neg_ℤ X))
    where
      mirror : (a : Option ℤ) → UpTo f D (neg_ℤ X) a → DownTo f D X (negate a)
      mirror (some v) u = record { num = num_neg u.num; below = below; greatest = greatest }
        where
          below : neg_ℤ v *ℤ pos D ≼ X
          below = lin_le (X ∷ v ∷ pos D ∷ []) (le u.above ∷ []) (search reading depth 20) (omega arith)

          greatest : (w : ℤ) → Num f w → w *ℤ pos D ≼ X → w ≼ neg_ℤ v
          greatest w n l =
              let k : v ≼ neg_ℤ w = u.least (neg_ℤ w) (num_neg n) (lin_le (X ∷ w ∷ pos D ∷ []) (le l ∷ []) (search reading depth 20) (omega arith)) in
              lin_le (v ∷ w ∷ []) (le k ∷ []) (search reading depth 20) (omega arith)
      mirror none u = lin_lt (X ∷ pos (MAX f * D) ∷ []) (lt u ∷ []) (search reading depth 20) (omega arith)

  -- ---- the function and the property determine each other
  pub up_is : {X v : ℤ} → up f D X ≡ some v → IsUp f D X v
  up_is {X} e = subst (UpTo f D X) e (up_to X)

  pub up_refused : {X : ℤ} → up f D X ≡ none → pos (MAX f * D) ≺ X
  up_refused {X} e = subst (UpTo f D X) e (up_to X)

  pub num_high : {v : ℤ} → Num f v → v *ℤ pos D ≼ pos (MAX f * D)
  num_high {v = pos v} n = of_le (mul-le-mul_right D n.within)
  num_high {v = negsuc v} n = neg_le_pos (suc v * D) (MAX f * D)

  pub up_number : {X : ℤ} → X ≼ pos (MAX f * D) → (v : ℤ) × (up f D X ≡ some v)
  up_number {X} h = go (up f D X) refl
    where
      go : (a : Option ℤ) → up f D X ≡ a → (v : ℤ) × (up f D X ≡ some v)
      go (some v) e = (v, e)
      go none e = absurd (not_≺ h (up_refused e))

  pub up_above : {X : ℤ} → pos (MAX f * D) ≺ X → up f D X ≡ none
  up_above {X} h = go (up f D X) refl
    where
      go : (a : Option ℤ) → up f D X ≡ a → up f D X ≡ none
      go (some v) e = absurd (not_≺ (≼_trans (up_is e).above (num_high (up_is e).num)) h)
      go none e = e

  pub up_only : {X v : ℤ} → IsUp f D X v → up f D X ≡ some v
  up_only {X} {v} u = go (up_number (≼_trans u.above (num_high u.num)))
    where
      go : (w : ℤ) × (up f D X ≡ some w) → up f D X ≡ some v
      go (w, e) = e ∙ ap some (up_unique (up_is e) u)

  pub up_refused_iff : (X : ℤ) → (up f D X ≡ none) ↔ (pos (MAX f * D) ≺ X)
  up_refused_iff X = (up_refused, up_above)

  pub up_iff : (X v : ℤ) → (up f D X ≡ some v) ↔ IsUp f D X v
  up_iff X v = (up_is, up_only)

  -- ---- the same of down, by the mirror
  pub down_is : {X v : ℤ} → down f D X ≡ some v → IsDown f D X v
  down_is {X} e = subst (DownTo f D X) e (down_to X)

  pub down_refused : {X : ℤ} → down f D X ≡ none → X ≺ neg_ℤ (pos (MAX f * D))
  down_refused {X} e = subst (DownTo f D X) e (down_to X)

  pub mirrored : {X v : ℤ} → IsDown f D X v → IsUp f D (neg_ℤ X) (neg_ℤ v)
  mirrored {X} {v} u = record { num = num_neg u.num; above = above; least = least }
    where
      above : neg_ℤ X ≼ neg_ℤ v *ℤ pos D
      above = lin_le (X ∷ v ∷ pos D ∷ []) (le u.below ∷ []) (search reading depth 20) (omega arith)

      least : (w : ℤ) → Num f w → neg_ℤ X ≼ w *ℤ pos D → neg_ℤ v ≼ w
      least w n l =
          let k : neg_ℤ w ≼ v = u.greatest (neg_ℤ w) (num_neg n) (lin_le (X ∷ w ∷ pos D ∷ []) (le l ∷ []) (search reading depth 20) (omega arith)) in
          lin_le (v ∷ w ∷ []) (le k ∷ []) (search reading depth 20) (omega arith)

  pub down_only : {X v : ℤ} → IsDown f D X v → down f D X ≡ some v
  unfolding down
  down_only {X} {v} u = ap negate (up_only (mirrored u)) ∙ ap some (neg_ℤ-neg_ℤ v)

  pub down_below : {X : ℤ} → X ≺ neg_ℤ (pos (MAX f * D)) → down f D X ≡ none
  unfolding down
  down_below {X} h = ap negate (up_above (lin_lt (X ∷ pos (MAX f * D) ∷ []) (lt h ∷ []) (search reading depth 20) (omega arith)))

  pub down_refused_iff : (X : ℤ) → (down f D X ≡ none) ↔ (X ≺ neg_ℤ (pos (MAX f * D)))
  down_refused_iff X = (down_refused, down_below)

  pub down_iff : (X v : ℤ) → (down f D X ≡ some v) ↔ IsDown f D X v
  down_iff X v = (down_is, down_only)
