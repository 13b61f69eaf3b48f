-- What `cut` with Near computes of a value that stands for a sum: the sum rounded to nearest.
use mathlib.Core.Path.{◌≡◌, sym, ap, ◌∙◌, subst}
use mathlib.Core.Bool.{cond}
use mathlib.Core.List.{[], ◌∷◌}
use mathlib.Core.Logic.{◌⊎◌, ⊎_elim}
use mathlib.Core.Option.{none, some}
use Prim.Native.Nat.{ℕ, suc, ◌+◌, ◌-◌, ◌*◌, ◌^◌, ◌≤◌, ◌<◌}
use native.Mathlib.Omega.{arith, by_contra}
use native.Mathlib.Nat.{le_trans, eq-zero-or-pos, zero-mul, mul-le-mul}
use lib.Pow.{pow_pos, pow-add, pow_mono}
use lib.IntN.{ℤ, pos, nat_abs, ◌*ℤ◌}
use lib.Ieee.Nearest.{closest}
use borrow.Author.Tests.{le-leb}
use Rattle.algebra.proofs.Absolute.{nat_abs_mul}
use Rattle.algebra.proofs.Linear.{reading, eq, lin_eq}
use Rattle.algebra.proofs.Natural.{of_lt}
use Rattle.algebra.proofs.Order.{cancel_eq}
use Rattle.algebra.proofs.Power.{pow_split}
use Rattle.rounding.specs.Format.{binary32, MAX}
use Rattle.rounding.specs.Rounding.{signed, near}
use Rattle.rounding.proofs.NearestLaws.{near_exact}
use Rattle.unpacked.specs.declared.Number.{Number}
use Rattle.unpacked.specs.Number.{worth}
use Rattle.unpacked.specs.Cuts.{NearOf, limited_near, nearest_of, CutNear}
use Rattle.unpacked.proofs.Floors.{floor_self, less}
use Rattle.unpacked.proofs.Worths.{worth_is, few_max}
use Rattle.unpacked.proofs.Quotients.{nearest_multiple, nearest_few, nearest_long, signed_times, signed_abs}
use Rattle.unpacked.proofs.Nearing.{near_wide, near_moved}
use Rattle.unpacked.proofs.FarShifts.{le_or_lt, nat_abs_zero, none_left}

-- ---- a value of 24 digits is its own rounding
near_small : (X : ℤ) → nat_abs X ≤ 2 ^ 24 → near binary32 1 X ≡ limited_near X
near_small X h =
    ap (near binary32 1) one ∙ near_exact binary32 1 (omega arith) (record { form = (floor_self X h).form; within = within })
    ∙ sym (ap (λ t. cond t (some X) none) (le-leb (nat_abs X) (MAX binary32) within))
  where
    one : X ≡ X *ℤ pos 1
    one = lin_eq (X ∷ []) [] (search reading depth 20) (omega arith)

    within : nat_abs X ≤ MAX binary32
    within = le_trans h few_max

-- over plain numbers, where nothing is lost
module _ (X w : ℤ) (E K Z M k : ℕ) (p : 0 < M) (e : E * 4 ≡ M * Z) (eK : K ≡ M * k) (h : w *ℤ pos E ≡ X *ℤ pos K *ℤ pos (2 ^ 36)) where
  wide_exact : w *ℤ pos Z ≡ X *ℤ pos k *ℤ pos (2 ^ 38)
  wide_exact =
      cancel_eq (of_lt p)
      (lin_eq (X ∷ w ∷ pos E ∷ pos K ∷ pos Z ∷ pos M ∷ pos k ∷ [])
      (eq h ∷ eq (ap (λ t. w *ℤ pos t) e) ∷ eq (ap (λ t. X *ℤ pos t) eK) ∷ []) (search reading depth 40 fits 9999) (omega arith))

  wide_value : X *ℤ pos k *ℤ pos M ≡ X *ℤ pos K
  wide_value = turn ∙ ap (λ t. X *ℤ pos t) (sym eK)
    where
      turn : X *ℤ pos k *ℤ pos M ≡ X *ℤ pos (M * k)
      turn = lin_eq (X ∷ pos k ∷ pos M ∷ []) [] (search reading depth 20) (omega arith)

-- ---- what the code of `cut` with Near found, of w that stands for X, 36 places above it
module _ (X w : ℤ) (be : ℕ) (r : Number) (h : CutNear w be r) (high : be ≤ 4000)
    (stands : near binary32 (2 ^ 436) (w *ℤ pos (2 ^ be)) ≡ near binary32 1 X)
    (kind : (w *ℤ pos (2 ^ be) ≡ X *ℤ pos (2 ^ 400) *ℤ pos (2 ^ 36)) ⊎ ((2 ^ 58 < nat_abs w) × (413 ≤ be))) where
  abbrev z : ℕ
  z = h.places

  abbrev wide : ℤ
  wide = w *ℤ pos (2 ^ z)

  abbrev c : ℕ
  c = closest (nat_abs wide) (2 ^ 38)

  wide_is : nat_abs wide ≡ nat_abs w * 2 ^ z
  wide_is = nat_abs_mul w (pos (2 ^ z))

  wide_few : nat_abs wide ≤ 2 ^ 62
  wide_few = subst (λ t. t ≤ 2 ^ 62) (sym wide_is) h.most

  sig_abs : nat_abs r.sig ≡ c
  sig_abs = ap nat_abs h.sigs ∙ signed_abs wide c

  few : nat_abs r.sig ≤ 2 ^ 24
  few = subst (λ t. t ≤ 2 ^ 24) (sym sig_abs) (nearest_few (nat_abs wide) (2 ^ 38) (pow_pos 38) wide_few)

  from_value : (v : ℤ) → r.sig *ℤ pos (2 ^ r.exp) ≡ v *ℤ pos (2 ^ 400) → near binary32 1 X ≡ limited_near v
      → (0 < nat_abs r.sig → 2 ^ 23 ≤ nat_abs r.sig) → (nat_abs r.sig ≡ 0 → r.exp ≡ 64) → r.exp ≤ 4002 → NearOf X r
  from_value v e n full low top =
      let ew : worth r ≡ v = worth_is r v e in
      record {
        normal = record { whole = e ∙ ap (λ t. t *ℤ pos (2 ^ 400)) (sym ew); few = few; full = full; low = low };
        nears = n ∙ ap limited_near (sym ew);
        high = top;
      }

  module _ (p : 0 < nat_abs w) where
    wide_large : 2 ^ 61 ≤ nat_abs wide
    wide_large = subst (λ t. 2 ^ 61 ≤ t) (sym wide_is) (h.least p)

    long : 2 ^ 23 ≤ nat_abs r.sig
    long = subst (λ t. 2 ^ 23 ≤ t) (sym sig_abs) (nearest_long (nat_abs wide) (2 ^ 38) (pow_pos 38) wide_large)

    no : nat_abs r.sig ≡ 0 → ⊥
    no e = omega (arith, long)

    places : 2 ^ be * 4 ≡ 2 ^ r.exp * 2 ^ z
    places = sym (pow-add 2 be 2) ∙ ap (λ n. 2 ^ n) (sym (h.some p)) ∙ pow-add 2 r.exp z

    over : 400 ≤ r.exp → NearOf X r
    over l = from_value v value (sym stands ∙ sym (near_moved w be z 436) ∙ near_wide 38 (z + 436) wide be j wide_large wide_few (omega (arith, h.some p)))
        (λ t. long) (λ e. absurd (no e)) (omega (arith, h.some p))
      where
        j : ℕ
        j = r.exp - 400

        v : ℤ
        v = signed wide (c * 2 ^ j)

        split : c * 2 ^ r.exp ≡ c * 2 ^ j * 2 ^ 400
        split = ap (λ t. c * t) (pow_split r.exp 400 l) ∙ turn c (2 ^ 400) (2 ^ j)
          where
            turn : (a b d : ℕ) → a * (b * d) ≡ a * d * b
            turn a b d = omega arith

        value : r.sig *ℤ pos (2 ^ r.exp) ≡ v *ℤ pos (2 ^ 400)
        value = ap (λ t. t *ℤ pos (2 ^ r.exp)) h.sigs ∙ signed_times wide c (2 ^ r.exp) ∙ ap (signed wide) split ∙ sym (signed_times wide (c * 2 ^ j) (2 ^ 400))

    under : r.exp < 400 → NearOf X r
    under l = ⊎_elim exact far kind
      where
        exact : w *ℤ pos (2 ^ be) ≡ X *ℤ pos (2 ^ 400) *ℤ pos (2 ^ 36) → NearOf X r
        exact e = from_value X (ap (λ t. t *ℤ pos (2 ^ r.exp)) sig ∙ wide_value X w (2 ^ be) (2 ^ 400) (2 ^ z) (2 ^ r.exp) k (pow_pos r.exp) places s e)
            (near_small X (less X k (pow_pos (400 - r.exp)) (subst (λ t. nat_abs t ≤ 2 ^ 24) sig few))) (λ t. long) (λ e. absurd (no e)) (omega (arith, h.some p))
          where
            k : ℕ
            k = 2 ^ (400 - r.exp)

            s : 2 ^ 400 ≡ 2 ^ r.exp * k
            s = pow_split 400 r.exp (omega arith)

            sig : r.sig ≡ X *ℤ pos k
            sig =
                h.sigs ∙ ap (λ t. nearest_of t (2 ^ 38)) (wide_exact X w (2 ^ be) (2 ^ 400) (2 ^ z) (2 ^ r.exp) k (pow_pos r.exp) places s e)
                ∙ nearest_multiple (X *ℤ pos k) (2 ^ 38) (pow_pos 38)

        far : (2 ^ 58 < nat_abs w) × (413 ≤ be) → NearOf X r
        far (f, g) = absurd (omega (arith, h.some p, by_contra z 13 (λ (i : 13 < z). no (mul-le-mul f (pow_mono {i = 14} {j = z} i)))))
          where
            no : suc (2 ^ 58) * 2 ^ 14 ≤ nat_abs w * 2 ^ z → ⊥
            no i = omega (arith, h.most)

    some_near : NearOf X r
    some_near = ⊎_elim over under (le_or_lt 400 r.exp)

  no_near : nat_abs w ≡ 0 → NearOf X r
  no_near e = ⊎_elim exact (λ f. absurd (clash f.0)) kind
    where
      clash : 2 ^ 58 < nat_abs w → ⊥
      clash l = omega arith

      ew : w ≡ pos 0
      ew = nat_abs_zero w e

      sig : r.sig ≡ pos 0
      sig = h.sigs ∙ ap (λ t. nearest_of (t *ℤ pos (2 ^ z)) (2 ^ 38)) ew ∙ ap (λ n. nearest_of (pos n) (2 ^ 38)) (zero-mul (2 ^ z)) ∙ nearest_multiple (pos 0) (2 ^ 38) (pow_pos 38)

      not_some : 0 < nat_abs r.sig → nat_abs r.sig ≡ 0 → ⊥
      not_some p q = omega arith

      exact : w *ℤ pos (2 ^ be) ≡ X *ℤ pos (2 ^ 400) *ℤ pos (2 ^ 36) → NearOf X r
      exact i =
          let x0 : X ≡ pos 0 = none_left X w (2 ^ be) (2 ^ 400) (pow_pos 400) ew i in
          from_value (pos 0) (ap (λ t. t *ℤ pos (2 ^ r.exp)) sig ∙ ap pos (zero-mul (2 ^ r.exp))) (ap (near binary32 1) x0 ∙ near_small (pos 0) (omega arith))
          (λ l. absurd (not_some l (ap nat_abs sig))) (λ t. h.none ew) (omega (arith, h.none ew))

  pub near_found : NearOf X r
  near_found = ⊎_elim no_near some_near (eq-zero-or-pos (nat_abs w))
