-- `near` is the nearest number, of two that are equally near the one with the even fraction, and only that; it is refused exactly from half a step
-- above the largest number on. Assumes nothing.
use mathlib.Core.Path.{◌≡◌, refl, sym, ap, ◌∙◌, subst}
use mathlib.Core.Bool.{Bool, true, false, cond, not}
use mathlib.Core.Logic.{◌↔◌}
use mathlib.Core.Option.{Option, none, some}
use Prim.Native.Nat.{ℕ, zero, suc, ◌+◌, ◌*◌, ◌^◌, ◌≤◌, ◌<◌}
use native.Mathlib.Omega.{arith}
use native.Mathlib.Nat.{not-le_of_lt, mul-le-mul_left}
use lib.Dec.{leb, T, leb→le, nleb→lt}
use lib.IntN.{ℤ, pos, negsuc, neg_ℤ, nat_abs, neg_ℤ-neg_ℤ}
use Rattle.algebra.proofs.Natural.{to_eq}
use Rattle.rounding.specs.Format.{Format, MAX, Form}
use Rattle.rounding.specs.Rounding.{nr, negate, signed, near}
use Rattle.rounding.specs.Property.{off, EvenFraction, IsNear, NearTo}
use Rattle.rounding.proofs.Bracket.{hi_least}
use Rattle.rounding.proofs.Sign.{num_zero, nat_abs_neg, num_neg, off_neg, dist₂, apart}
use Rattle.rounding.proofs.Closest.{gap, nr_hi, nr_form, nr_closest}
use Rattle.rounding.proofs.Ties.{nr_even, nr_even_only}
use Rattle.rounding.proofs.Refusal.{nr_over}

-- ---- the mirror image
even_neg : (f : Format) (v : ℤ) → EvenFraction f v → EvenFraction f (neg_ℤ v)
even_neg f (pos zero) h = h
even_neg f (pos (suc n)) h = h
even_neg f (negsuc n) h = h

pub near_neg : {f : Format} {D : ℕ} {X v : ℤ} → IsNear f D X v → IsNear f D (neg_ℤ X) (neg_ℤ v)
near_neg {f} {D} {X} {v} n = record {
  num = num_neg n.num;
  closer = λ w F. omega (arith, off_neg D X v, flip w, n.closer (neg_ℤ w) (form_neg w F));
  even = even;
}
  where
    flip : (w : ℤ) → off D (neg_ℤ X) w ≡ off D X (neg_ℤ w)
    flip w = ap (off D (neg_ℤ X)) (sym (neg_ℤ-neg_ℤ w)) ∙ off_neg D X (neg_ℤ w)

    form_neg : (w : ℤ) → Form f (nat_abs w) → Form f (nat_abs (neg_ℤ w))
    form_neg w = subst (Form f) (sym (nat_abs_neg w))

    even : (w : ℤ) → Form f (nat_abs w) → (w ≡ neg_ℤ v → ⊥) → off D (neg_ℤ X) w ≡ off D (neg_ℤ X) (neg_ℤ v) → EvenFraction f (neg_ℤ v)
    even w F other e =
        even_neg f v (n.even (neg_ℤ w) (form_neg w F) (λ q. other (sym (neg_ℤ-neg_ℤ w) ∙ ap neg_ℤ q)) (sym (flip w) ∙ e ∙ off_neg D X v))

module _ (f : Format) (D : ℕ) (d : 0 < D) where
  -- ---- the answer of `near` is what it should be

  near_pos : (N : ℕ) → nr f D N ≤ MAX f → IsNear f D (pos N) (pos (nr f D N))
  near_pos N h = record { num = record { form = nr_form f D N d; within = h }; closer = closer; even = even }
    where
      closer : (w : ℤ) → Form f (nat_abs w) → off D (pos N) (pos (nr f D N)) ≤ off D (pos N) w
      closer (pos w) F = omega (arith, dist₂ (nr f D N * D) N, dist₂ (w * D) N, nr_closest f D N d F)
      closer (negsuc w) F = omega (arith, dist₂ (nr f D N * D) N, apart (suc w * D) N, nr_closest f D N d (num_zero f).form)

      even : (w : ℤ) → Form f (nat_abs w) → (w ≡ pos (nr f D N) → ⊥) → off D (pos N) w ≡ off D (pos N) (pos (nr f D N)) → EvenFraction f (pos (nr f D N))
      even (pos w) F other e = nr_even f D N d w F (λ q. other (ap pos q)) (sym (dist₂ (w * D) N) ∙ e ∙ dist₂ (nr f D N * D) N)
      even (negsuc w) F other e = absurd (farther (closer (pos 0) (num_zero f).form))
        where
          farther : off D (pos N) (pos (nr f D N)) ≤ off D (pos N) (pos 0) → ⊥
          farther h = omega (arith, h, e, apart (suc w * D) N, dist₂ (0 * D) N, mul-le-mul_left (suc w) d)

  near_signed : (X : ℤ) → nr f D (nat_abs X) ≤ MAX f → IsNear f D X (signed X (nr f D (nat_abs X)))
  near_signed (pos N) h = near_pos N h
  near_signed (negsuc n) h = near_neg (near_pos (suc n) h)

  pub near_to : (X : ℤ) → NearTo f D X (near f D X)
  unfolding near
  near_to X =
      go (leb v (MAX f)) (λ t. near_signed X (leb→le v (MAX f) t)) (λ t. (nr_over f D (nat_abs X) d).0 (nleb→lt v (MAX f) t))
    where
      v : ℕ
      v = nr f D (nat_abs X)

      go : (t : Bool) → (T t → IsNear f D X (signed X v)) → (T (not t) → 2 * (MAX f * D) + 2 ^ f.top * D ≤ 2 * nat_abs X)
          → NearTo f D X (cond t (some (signed X v)) none)
      go true g h = g tt
      go false g h = h tt

  pub near_is : {X v : ℤ} → near f D X ≡ some v → IsNear f D X v
  near_is {X} e = subst (NearTo f D X) e (near_to X)

  -- ---- and nothing else is

  near_shape : {N : ℕ} {v : ℤ} → IsNear f D (pos N) v → v ≡ pos (nr f D N)
  near_shape {N} {v = pos v} n = ap pos (nr_even_only f D N d v n.num.form as_near even)
    where
      as_near : gap (v * D) N ≤ gap (nr f D N * D) N
      as_near = omega (arith, dist₂ (v * D) N, dist₂ (nr f D N * D) N, n.closer (pos (nr f D N)) (nr_form f D N d))

      even : (w : ℕ) → Form f w → (w ≡ v → ⊥) → gap (w * D) N ≡ gap (v * D) N → EvenFraction f (pos v)
      even w F other e = n.even (pos w) F (λ q. other (to_eq q)) (dist₂ (w * D) N ∙ e ∙ sym (dist₂ (v * D) N))
  near_shape {N} {v = negsuc v} n = absurd (no (n.closer (pos 0) (num_zero f).form))
    where
      no : off D (pos N) (negsuc v) ≤ off D (pos N) (pos 0) → ⊥
      no h = omega (arith, h, apart (suc v * D) N, dist₂ (0 * D) N, mul-le-mul_left (suc v) d)

  near_only_pos : {N : ℕ} {v : ℤ} → IsNear f D (pos N) v → near f D (pos N) ≡ some v
  unfolding near
  near_only_pos {N} {v} n = go (leb (nr f D N) (MAX f)) (nleb→lt (nr f D N) (MAX f)) ∙ ap some (sym (near_shape n))
    where
      fits : nr f D N ≤ MAX f
      fits = subst (λ z. nat_abs z ≤ MAX f) (near_shape n) n.num.within

      go : (t : Bool) → (T (not t) → MAX f < nr f D N) → cond t (some (pos (nr f D N))) none ≡ some (pos (nr f D N))
      go true g = refl
      go false g = absurd (not-le_of_lt (g tt) fits)

  -- ---- refused exactly from half a step above the largest number on
  pub near_refused : (X : ℤ) → near f D X ≡ none → 2 * (MAX f * D) + 2 ^ f.top * D ≤ 2 * nat_abs X
  near_refused X e = subst (NearTo f D X) e (near_to X)

  pub near_above : (X : ℤ) → 2 * (MAX f * D) + 2 ^ f.top * D ≤ 2 * nat_abs X → near f D X ≡ none
  unfolding near
  near_above X h = go (leb (nr f D (nat_abs X)) (MAX f)) (leb→le (nr f D (nat_abs X)) (MAX f))
    where
      go : (t : Bool) → (T t → nr f D (nat_abs X) ≤ MAX f) → cond t (some (signed X (nr f D (nat_abs X)))) none ≡ none
      go true g = absurd (not-le_of_lt ((nr_over f D (nat_abs X) d).1 h) (g tt))
      go false g = refl

  pub near_refused_iff : (X : ℤ) → (near f D X ≡ none) ↔ (2 * (MAX f * D) + 2 ^ f.top * D ≤ 2 * nat_abs X)
  near_refused_iff X = (near_refused X, near_above X)

  pub near_number : (X : ℤ) → 2 * nat_abs X < 2 * (MAX f * D) + 2 ^ f.top * D → (v : ℤ) × (near f D X ≡ some v)
  near_number X h = go (near f D X) refl
    where
      go : (a : Option ℤ) → near f D X ≡ a → (v : ℤ) × (near f D X ≡ some v)
      go (some v) e = (v, e)
      go none e = absurd (not-le_of_lt h (near_refused X e))

  -- ---- odd
  pub near_odd : (X : ℤ) → near f D (neg_ℤ X) ≡ negate (near f D X)
  unfolding near
  near_odd (pos zero) = go (leb (nr f D 0) (MAX f)) (nr f D 0) zero_is_zero
    where
      zero_is_zero : nr f D 0 ≡ 0
      zero_is_zero = omega (arith, nr_hi f D 0 d, hi_least f D 0 d (num_zero f).form (omega arith))

      go : (t : Bool) (v : ℕ) → v ≡ 0 → cond t (some (pos v)) none ≡ negate (cond t (some (pos v)) none)
      go true v e = ap some (ap pos e ∙ sym (ap (λ x. neg_ℤ (pos x)) e))
      go false v e = refl
  near_odd (pos (suc n)) = go (leb (nr f D (suc n)) (MAX f))
    where
      go : (t : Bool) → cond t (some (neg_ℤ (pos (nr f D (suc n))))) none ≡ negate (cond t (some (pos (nr f D (suc n)))) none)
      go true = refl
      go false = refl
  near_odd (negsuc n) = go (leb (nr f D (suc n)) (MAX f))
    where
      go : (t : Bool) → cond t (some (pos (nr f D (suc n)))) none ≡ negate (cond t (some (neg_ℤ (pos (nr f D (suc n))))) none)
      go true = ap some (sym (neg_ℤ-neg_ℤ (pos (nr f D (suc n)))))
      go false = refl

  -- ---- the function and the property determine each other
  pub near_only : {X v : ℤ} → IsNear f D X v → near f D X ≡ some v
  near_only {X = pos N} n = near_only_pos n
  near_only {X = negsuc k} {v} n = near_odd (pos (suc k)) ∙ ap negate (near_only_pos (near_neg n)) ∙ ap some (neg_ℤ-neg_ℤ v)

  pub near_iff : (X v : ℤ) → (near f D X ≡ some v) ↔ IsNear f D X v
  near_iff X v = (near_is, near_only)

  -- ---- its magnitude is nr, and so its distance that of nr
  pub near_magnitude : {X v : ℤ} → IsNear f D X v → nat_abs v ≡ nr f D (nat_abs X)
  near_magnitude {X = pos N} n = ap nat_abs (near_shape n)
  near_magnitude {X = negsuc k} {v} n = sym (nat_abs_neg v) ∙ ap nat_abs (near_shape (near_neg n))

  near_gap_pos : {N : ℕ} {v : ℤ} → IsNear f D (pos N) v → off D (pos N) v ≡ gap (nr f D N * D) N
  near_gap_pos {N} n = ap (off D (pos N)) (near_shape n) ∙ dist₂ (nr f D N * D) N

  pub near_gap : {X v : ℤ} → IsNear f D X v → off D X v ≡ gap (nr f D (nat_abs X) * D) (nat_abs X)
  near_gap {X = pos N} n = near_gap_pos n
  near_gap {X = negsuc k} {v} n = sym (off_neg D (negsuc k) v) ∙ near_gap_pos (near_neg n)
