-- Laws of the nearest: it does not jump over a number, keeps numbers, grows with X / D, depends on the fraction only, and on the sign only by
-- its own sign. Assumes nothing.
use mathlib.Core.Path.{◌≡◌, refl, sym, ap, ◌∙◌, subst}
use mathlib.Core.Bool.{Bool, true, false, cond}
use mathlib.Core.List.{[], ◌∷◌}
use mathlib.Core.Logic.{⊎_elim}
use mathlib.Core.Option.{none, some, map}
use Prim.Native.Nat.{ℕ, suc, ◌*◌, ◌≤◌, ◌<◌}
use native.Mathlib.Omega.{arith}
use native.Mathlib.Nat.{mul_comm, mul-le-mul_right, mul-pos}
use lib.Pow.{pow_pos}
use lib.Dec.{leb}
use lib.IntN.{ℤ, pos, negsuc, neg_ℤ, nat_abs, ◌+ℤ◌, ◌*ℤ◌}
use Rattle.algebra.specs.Order.{◌≼◌, ◌≺◌}
use Rattle.algebra.specs.Absolute.{abs}
use Rattle.algebra.proofs.Reading.{by_ring}
use Rattle.algebra.proofs.Linear.{reading, le, lt, lin_le, lin_lt, lin_eq, lin_absurd}
use Rattle.algebra.proofs.Order.{◌⊠◌, ≼_refl, ≼_antisym, ≼_of_≡, ≺_step, ≼_or_≺}
use Rattle.algebra.proofs.Natural.{of_le, to_eq}
use Rattle.algebra.proofs.Absolute.{abs_mul}
use Rattle.rounding.specs.Format.{Format, MAX, Form, Num}
use Rattle.rounding.specs.Rounding.{nr, negate, signed, near}
use Rattle.rounding.specs.Property.{IsNear}
use Rattle.rounding.proofs.Sign.{some_injective, nat_abs_neg, closer_above, closer_below}
use Rattle.rounding.proofs.Closest.{nr_scale}
use Rattle.rounding.proofs.Nearest.{near_neg, near_is, near_number, near_odd}

module _ (f : Format) (D : ℕ) (d : 0 < D) where
  -- ---- it does not jump over a number
  times : {v w : ℤ} → v ≺ w → v *ℤ pos D ≺ w *ℤ pos D
  times {v} {w} h = lin_lt (v ∷ w ∷ pos D ∷ []) (le (≺_step h ⊠ of_le d) ∷ lt h ∷ []) (search reading depth 20) (omega arith)

  pub near_le : {X v : ℤ} → IsNear f D X v → (w : ℤ) → Form f (nat_abs w) → X ≼ w *ℤ pos D → v ≼ w
  near_le {X} {v} n w F h = ⊎_elim (λ k. k) (λ (k : w ≺ v). absurd (no k)) (≼_or_≺ v w)
    where
      no : w ≺ v → ⊥
      no k =
          let p : v *ℤ pos D +ℤ w *ℤ pos D ≼ pos 2 *ℤ X = closer_above (v *ℤ pos D) (w *ℤ pos D) X (n.closer w F) (times k) in
          lin_absurd (X ∷ v ∷ w ∷ pos D ∷ []) (le p ∷ lt (times k) ∷ le h ∷ []) (search reading depth 20) (omega arith)

  pub near_ge : {X v : ℤ} → IsNear f D X v → (w : ℤ) → Form f (nat_abs w) → w *ℤ pos D ≼ X → w ≼ v
  near_ge {X} {v} n w F h =
      let l : neg_ℤ X ≼ neg_ℤ w *ℤ pos D = lin_le (X ∷ w ∷ pos D ∷ []) (le h ∷ []) (search reading depth 20) (omega arith) in
      let k : neg_ℤ v ≼ neg_ℤ w = near_le (near_neg n) (neg_ℤ w) (subst (Form f) (sym (nat_abs_neg w)) F) l in
      lin_le (v ∷ w ∷ []) (le k ∷ []) (search reading depth 20) (omega arith)

  -- ---- defined up to the largest number, exact on numbers
  pub near_within : (X : ℤ) → nat_abs X ≤ MAX f * D → (v : ℤ) × (near f D X ≡ some v)
  near_within X h = near_number f D d X (omega (arith, mul-pos (pow_pos f.top) d))

  pub near_exact : {w : ℤ} → Num f w → near f D (w *ℤ pos D) ≡ some w
  near_exact {w} n = go (near_within (w *ℤ pos D) (within w n.within))
    where
      within : (w : ℤ) → nat_abs w ≤ MAX f → nat_abs (w *ℤ pos D) ≤ MAX f * D
      within w h = omega (arith, mul-le-mul_right D h, to_eq (abs_mul w (pos D)))

      go : (v : ℤ) × (near f D (w *ℤ pos D) ≡ some v) → near f D (w *ℤ pos D) ≡ some w
      go (v, e) =
          let u : IsNear f D (w *ℤ pos D) v = near_is f D d e in
          let same : w *ℤ pos D ≼ w *ℤ pos D = ≼_refl (w *ℤ pos D) in
          e ∙ ap some (≼_antisym (near_le u w n.form same) (near_ge u w n.form same))

  -- ---- monotone
  pub near_mono : {X Y v w : ℤ} → X ≼ Y → near f D X ≡ some v → near f D Y ≡ some w → v ≼ w
  near_mono {X} {Y} {v} {w} h a b = ⊎_elim (λ k. k) (λ (k : w ≺ v). same k) (≼_or_≺ v w)
    where
      x : IsNear f D X v
      x = near_is f D d a

      y : IsNear f D Y w
      y = near_is f D d b

      same : w ≺ v → v ≼ w
      same k =
          let p : v *ℤ pos D +ℤ w *ℤ pos D ≼ pos 2 *ℤ X = closer_above (v *ℤ pos D) (w *ℤ pos D) X (x.closer w y.num.form) (times k) in
          let q : pos 2 *ℤ Y ≼ w *ℤ pos D +ℤ v *ℤ pos D = closer_below (w *ℤ pos D) (v *ℤ pos D) Y (y.closer v x.num.form) (times k) in
          let e : X ≡ Y = lin_eq (X ∷ Y ∷ v ∷ w ∷ pos D ∷ []) (le p ∷ le q ∷ le h ∷ []) (search reading depth 20) (omega arith) in
          ≼_of_≡ (some_injective (sym a ∙ ap (near f D) e ∙ b))

-- a number as it stands is kept
pub near_kept : {f : Format} {v : ℤ} → Num f v → near f 1 v ≡ some v
near_kept {f} {v} n =
    let g : v ≡ v *ℤ pos 1 = by_ring (v ∷ []) (search reading depth 20) tt in
    ap (near f 1) g ∙ near_exact f 1 (omega arith) n

-- ---- scaling: a common factor of X and D does not matter
near_scale_pos : (f : Format) (c D N : ℕ) → 0 < c → 0 < D → near f (c * D) (pos (c * N)) ≡ near f D (pos N)
unfolding near
near_scale_pos f c D N c₀ d = ap (λ v. cond (leb v (MAX f)) (some (pos v)) none) (nr_scale f c D N c₀ d)

pub near_scale : (f : Format) (c D : ℕ) → 0 < c → 0 < D → (X : ℤ) → near f (c * D) (pos c *ℤ X) ≡ near f D X
near_scale f c D c₀ d (pos N) = near_scale_pos f c D N c₀ d
near_scale f c D c₀ d (negsuc n) =
    near_odd f (c * D) (mul-pos c₀ d) (pos (c * suc n)) ∙ ap negate (near_scale_pos f c D (suc n) c₀ d) ∙ sym (near_odd f D d (pos (suc n)))

-- ---- monotone between any two denominators
pub near_mono₂ : (f : Format) (D E : ℕ) → 0 < D → 0 < E → (X Y : ℤ) {v w : ℤ} → X *ℤ pos E ≼ Y *ℤ pos D
    → near f D X ≡ some v → near f E Y ≡ some w → v ≼ w
near_mono₂ f D E d e X Y {v} {w} h a b =
    near_mono f (E * D) (mul-pos e d) {X = pos E *ℤ X} {Y = pos D *ℤ Y}
    (lin_le (X ∷ Y ∷ pos D ∷ pos E ∷ []) (le h ∷ []) (search reading depth 20) (omega arith))
    (near_scale f E D e d X ∙ a) (ap (λ n. near f n (pos D *ℤ Y)) (mul_comm E D) ∙ near_scale f D E d e Y ∙ b)

-- ---- magnitudes: the nearest of |X| is |the nearest of X|
signed_abs : (X : ℤ) (v : ℕ) → abs (signed X v) ≡ pos v
signed_abs (pos n) v = refl
signed_abs (negsuc n) v = ap pos (nat_abs_neg (pos v))

pub near_abs : (f : Format) (D : ℕ) (X : ℤ) → near f D (abs X) ≡ map abs (near f D X)
unfolding near
near_abs f D X = go (leb v (MAX f))
  where
    v : ℕ
    v = nr f D (nat_abs X)

    go : (t : Bool) → cond t (some (pos v)) none ≡ map abs (cond t (some (signed X v)) none)
    go true = ap some (sym (signed_abs X v))
    go false = refl

pub near_mono_abs : (f : Format) (D : ℕ) → 0 < D → (X : ℤ) {Y v w : ℤ} → abs X ≼ Y → near f D X ≡ some v → near f D Y ≡ some w → abs v ≼ w
near_mono_abs f D d X h a b = near_mono f D d h (near_abs f D X ∙ ap (map abs) a) b
