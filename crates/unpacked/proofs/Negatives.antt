-- Sums of numbers that are not above zero: nothing cancels, so that a carry is all that their digits meet.
use mathlib.Core.Path.{◌≡◌, refl, sym, ap, ap₂, ◌∙◌, subst}
use mathlib.Core.List.{[], ◌∷◌}
use mathlib.Core.Logic.{⊎_elim}
use Prim.Native.Nat.{ℕ, suc, ◌+◌, ◌-◌, ◌*◌, ◌^◌, ◌≤◌, ◌<◌, min}
use native.Mathlib.Omega.{arith, by_contra}
use native.Mathlib.Nat.{eq-zero-or-pos, mul-le-mul, mul-pos, zero-mul, pow-succ'}
use lib.Pow.{pow_pos, pow-add, pow_mono}
use lib.IntN.{ℤ, pos, negsuc, nat_abs, ◌+ℤ◌, ◌*ℤ◌}
use lib.Signed.{mag, shr_z}
use Rattle.algebra.specs.Order.{◌≼◌}
use Rattle.algebra.proofs.Floor.{floor_low, floor_high, floor_unique}
use Rattle.algebra.proofs.Linear.{reading, le, lt, eq, lin_le, lin_lt, lin_eq}
use Rattle.algebra.proofs.Natural.{of_lt, to_le}
use Rattle.algebra.proofs.Order.{≼_refl, nonneg, mul_mono_right, ≺_step, cancel_le}
use Rattle.unpacked.specs.declared.Number.{Number}
use Rattle.unpacked.specs.Number.{worth, Normal, Below}
use Rattle.unpacked.specs.Cuts.{IsFloor, DownOf, SumDown, room, CutDown, Filled, CutNegative}
use Rattle.unpacked.proofs.Floors.{limits}
use Rattle.unpacked.proofs.Worths.{shr_multiple, worth_abs, exp_some}
use Rattle.unpacked.proofs.Packing.{worth_form}
use Rattle.unpacked.proofs.FarShifts.{raised_abs, nat_abs_zero, le_or_lt}
use Rattle.unpacked.proofs.Leading.{Lead, lead_of}
use Rattle.unpacked.proofs.Adding.{w_short, q_none, sum_down}

-- ---- whole numbers that are not above zero
no_more : (n : ℕ) → pos n ≼ pos 0 → n ≡ 0
no_more n h = omega (arith, to_le h)

zero_plus : (a : ℤ) → pos 0 +ℤ a ≡ a
zero_plus a = lin_eq (a ∷ []) [] (search reading depth 20) (omega arith)

plus_zero : (a : ℤ) → a +ℤ pos 0 ≡ a
plus_zero a = lin_eq (a ∷ []) [] (search reading depth 20) (omega arith)

abs_sum : (a b : ℤ) → a ≼ pos 0 → b ≼ pos 0 → nat_abs (a +ℤ b) ≡ nat_abs a + nat_abs b
abs_sum (pos m) b h k = ap (λ t. nat_abs (pos t +ℤ b)) (no_more m h) ∙ ap nat_abs (zero_plus b) ∙ none_more (nat_abs b) ∙ ap (λ t. t + nat_abs b) (sym (no_more m h))
  where
    none_more : (n : ℕ) → n ≡ 0 + n
    none_more n = omega arith
abs_sum (negsuc m) (pos n) h k = ap (λ t. nat_abs (negsuc m +ℤ pos t)) (no_more n k) ∙ ap nat_abs (plus_zero (negsuc m)) ∙ none_more (suc m) ∙ ap (λ t. suc m + t) (sym (no_more n k))
  where
    none_more : (n : ℕ) → n ≡ n + 0
    none_more n = omega arith
abs_sum (negsuc m) (negsuc n) h k = both m n
  where
    both : (m n : ℕ) → nat_abs (negsuc m +ℤ negsuc n) ≡ suc m + suc n
    both m n = omega arith

mag_below : (w : ℤ) → w ≼ pos 0 → 0 < nat_abs w → mag w + 1 ≡ nat_abs w
mag_below (pos n) h p = absurd (no (no_more n h))
  where
    no : n ≡ 0 → ⊥
    no e = omega arith
mag_below (negsuc n) h p = omega arith

shr_some : (t : ℤ) (D : ℕ) → t ≼ pos 0 → 0 < nat_abs t → 0 < nat_abs (shr_z t D)
shr_some (pos n) D h p = absurd (no (no_more n h))
  where
    no : n ≡ 0 → ⊥
    no e = omega arith
shr_some (negsuc n) D h p = omega arith

shr_below : (t : ℤ) (D : ℕ) → 0 < D → t ≼ pos 0 → shr_z t D ≼ pos 0
shr_below t D p h = cancel_le {c = pos D} (of_lt p) (lin_le (t ∷ shr_z t D ∷ pos D ∷ []) (le (floor_low t D p) ∷ le h ∷ []) (search reading depth 20) (omega arith))

shr_scale : (w : ℤ) (a b : ℕ) → 0 < a → 0 < b → shr_z (w *ℤ pos a) (a * b) ≡ shr_z w b
shr_scale w a b p q =
    sym (floor_unique (w *ℤ pos a) (shr_z w b) (a * b) (mul-pos {m = a} {n = b} p q)
    (lin_le (w ∷ shr_z w b ∷ pos a ∷ pos b ∷ []) (le (mul_mono_right (nonneg a) (floor_low w b q)) ∷ []) (search reading depth 20) (omega arith))
    (lin_lt (w ∷ shr_z w b ∷ pos a ∷ pos b ∷ []) (le (mul_mono_right (nonneg a) (≺_step (floor_high w b q))) ∷ lt (of_lt p) ∷ []) (search reading depth 20) (omega arith)))

below_sig : (x : Number) → Normal x → Below x → x.sig ≼ pos 0
below_sig x n h =
    cancel_le {c = pos (2 ^ x.exp)} (of_lt (pow_pos x.exp))
    (lin_le (x.sig ∷ worth x ∷ pos (2 ^ x.exp) ∷ pos (2 ^ 400) ∷ []) (eq n.whole ∷ le (mul_mono_right (nonneg (2 ^ 400)) h) ∷ []) (search reading depth 20) (omega arith))

no_worth : (a s K m : ℕ) → 0 < K → a * K ≡ s * m → s ≡ 0 → a ≡ 0
no_worth a s K m p e h = ⊎_elim (λ n. n) (λ l. absurd (no (mul-pos {m = a} {n = K} l p) (e ∙ ap (λ t. t * m) h ∙ zero-mul m))) (eq-zero-or-pos a)
  where
    no : 0 < a * K → a * K ≡ 0 → ⊥
    no l z = omega arith

-- ---- how far w can be shifted up, by its digits
module _ (m z : ℕ) (l : Lead m z) where
  at_most : (d k : ℕ) → 2 ^ d ≤ m → d + suc k ≡ 62 → z ≤ k
  at_most d k h e = by_contra z k (λ (g : k < z). no (mul-le-mul h (pow_mono {i = suc k} {j = z} g)) (sym (pow-add 2 d (suc k)) ∙ ap (λ n. 2 ^ n) e) (pow_pos z))
    where
      no : 2 ^ d * 2 ^ suc k ≤ m * 2 ^ z → 2 ^ d * 2 ^ suc k ≡ 2 ^ 62 → 0 < 2 ^ z → ⊥
      no a b c = omega (arith, l.upper)

  at_least : (d k : ℕ) → 0 < m → m < 2 ^ d → d + k ≡ 62 → k ≤ z
  at_least d k p h e =
      by_contra k z (λ (g : z < k). no (subst (λ t. suc m * t ≤ 2 ^ d * 2 ^ k) (pow-succ' 2 z) (mul-le-mul h (pow_mono {i = suc z} {j = k} g))) (sym (pow-add 2 d k) ∙ ap (λ n. 2 ^ n) e) (pow_pos z))
    where
      no : suc m * (2 * 2 ^ z) ≤ 2 ^ d * 2 ^ k → 2 ^ d * 2 ^ k ≡ 2 ^ 62 → 0 < 2 ^ z → ⊥
      no a b c = omega (arith, l.lower p)

-- ---- two numbers, the first with the larger exponent
module _ (x y : Number) (nx : Normal x) (ny : Normal y) (o : y.exp ≤ x.exp) (bx : Below x) (by : Below y) where
  abbrev q : ℤ
  q = shr_z (y.sig *ℤ pos (2 ^ 36)) (2 ^ min (x.exp - y.exp) 61)

  abbrev w : ℤ
  w = x.sig *ℤ pos (2 ^ 36) +ℤ q

  x_below : x.sig *ℤ pos (2 ^ 36) ≼ pos 0
  x_below = lin_le (x.sig ∷ []) (le (below_sig x nx bx) ∷ []) (search reading depth 20) (omega arith)

  y_below : y.sig *ℤ pos (2 ^ 36) ≼ pos 0
  y_below = lin_le (y.sig ∷ []) (le (below_sig y ny by) ∷ []) (search reading depth 20) (omega arith)

  q_below : q ≼ pos 0
  q_below = shr_below (y.sig *ℤ pos (2 ^ 36)) (2 ^ min (x.exp - y.exp) 61) (pow_pos (min (x.exp - y.exp) 61)) y_below

  w_below : w ≼ pos 0
  w_below = lin_le (x.sig ∷ q ∷ []) (le x_below ∷ le q_below ∷ []) (search reading depth 20) (omega arith)

  w_abs : nat_abs w ≡ nat_abs x.sig * 2 ^ 36 + nat_abs q
  w_abs = abs_sum (x.sig *ℤ pos (2 ^ 36)) q x_below q_below ∙ ap (λ t. t + nat_abs q) (raised_abs x.sig)

  -- a second one that is not zero has a first one that is not
  x_some : 0 < nat_abs y.sig → 2 ^ 23 ≤ nat_abs x.sig
  x_some p = nx.full (⊎_elim (λ e. absurd (no (nx.low e) (exp_some y ny p))) (λ l. l) (eq-zero-or-pos (nat_abs x.sig)))
    where
      no : x.exp ≡ 64 → 376 ≤ y.exp → ⊥
      no e l = omega arith

  pub filled : Filled w x.exp
  filled = record {
    below = w_below;
    few = w_short x y nx ny o;
    full = λ h. ⊎_elim (alone h) (λ p. omega (arith, w_abs, x_some p)) (eq-zero-or-pos (nat_abs y.sig));
    low = λ n. nx.low (omega (arith, w_abs));
  }
    where
      alone : 0 < nat_abs w → nat_abs y.sig ≡ 0 → 2 ^ 59 ≤ nat_abs w
      alone h e = omega (arith, w_abs, nx.full (omega (arith, w_abs, ap nat_abs (q_none x y nx ny o e))))

  module _ (r : Number) (high : x.exp ≤ 4000) (c : CutNegative w x.exp r) where
    -- the first alone
    alone : nat_abs y.sig ≡ 0 → SumDown x y r
    alone e = subst (λ t. DownOf t r) sum (subst (DownOf (worth x)) (sym same) (record { normal = nx; is = floor; downs = limits floor; high = omega arith }))
      where
        w_is : w ≡ x.sig *ℤ pos (2 ^ 36)
        w_is = ap (λ t. x.sig *ℤ pos (2 ^ 36) +ℤ t) (q_none x y nx ny o e) ∙ lin_eq (x.sig ∷ []) [] (search reading depth 20) (omega arith)

        is : (r.sig ≡ shr_z w (2 ^ 36)) × (r.exp ≡ x.exp)
        is = c.plain (omega (arith, w_abs, ap nat_abs (q_none x y nx ny o e), nx.few))

        same : r ≡ x
        same = ap₂ (λ s n. record { sig = s; exp = n }) (is.0 ∙ ap (λ t. shr_z t (2 ^ 36)) w_is ∙ shr_multiple x.sig (2 ^ 36) (pow_pos 36)) is.1

        floor : IsFloor (worth x) (worth x)
        floor = record { form = worth_form x nx; below = ≼_refl (worth x); greatest = λ v F l. l }

        none : worth y ≡ pos 0
        none = nat_abs_zero (worth y) (no_worth (nat_abs (worth y)) (nat_abs y.sig) (2 ^ 400) (2 ^ y.exp) (pow_pos 400) (worth_abs y ny) e)

        sum : worth x ≡ worth x +ℤ worth y
        sum = lin_eq (worth x ∷ worth y ∷ []) (eq none ∷ []) (search reading depth 20) (omega arith)

    -- both
    together : 0 < nat_abs y.sig → SumDown x y r
    together p = sum_down x y nx ny o r (⊎_elim plain carry (le_or_lt (nat_abs w) (2 ^ 60))) high
      where
        long : 2 ^ 59 < nat_abs w
        long = omega (arith, w_abs, x_some p, shr_some (y.sig *ℤ pos (2 ^ 36)) (2 ^ min (x.exp - y.exp) 61) y_below (omega (arith, raised_abs y.sig)))

        m_is : mag w + 1 ≡ nat_abs w
        m_is = mag_below w w_below (omega (arith, long))

        l : Lead (mag w) (room w)
        l = lead_of w (omega (arith, w_short x y nx ny o))

        not_none : {A : Type 0} → w ≡ pos 0 → A
        not_none e = absurd (no (ap nat_abs e))
          where
            no : nat_abs w ≡ 0 → ⊥
            no z = omega (arith, long)

        cut : (k : ℕ) → room w ≡ k → r.sig ≡ shr_z (w *ℤ pos (2 ^ k)) (2 ^ 38) → r.exp + k ≡ x.exp + 2 → CutDown w x.exp r
        cut k e s n = record { sigs = subst (λ t. r.sig ≡ shr_z (w *ℤ pos (2 ^ t)) (2 ^ 38)) (sym e) s; none = not_none; some = λ h. ap (λ t. r.exp + t) e ∙ n }

        plain : nat_abs w ≤ 2 ^ 60 → CutDown w x.exp r
        plain h =
            let low : 2 ≤ room w = at_least (mag w) (room w) l 60 2 (omega (arith, m_is, long)) (omega (arith, m_is)) refl in
            let top : room w ≤ 2 = at_most (mag w) (room w) l 59 2 (omega (arith, m_is, long)) refl in
            cut 2 (omega arith) ((c.plain h).0 ∙ sym (shr_scale w 4 (2 ^ 36) (omega arith) (pow_pos 36))) (omega (arith, (c.plain h).1))

        carry : 2 ^ 60 < nat_abs w → CutDown w x.exp r
        carry h =
            let low : 1 ≤ room w = at_least (mag w) (room w) l 61 1 (omega (arith, m_is, long)) (omega (arith, m_is, w_short x y nx ny o)) refl in
            let top : room w ≤ 1 = at_most (mag w) (room w) l 60 1 (omega (arith, m_is)) refl in
            cut 1 (omega arith) ((c.carry h).0 ∙ sym (shr_scale w 2 (2 ^ 37) (omega arith) (pow_pos 37))) (omega (arith, (c.carry h).1))

    pub negative_sum : SumDown x y r
    negative_sum = ⊎_elim alone together (eq-zero-or-pos (nat_abs y.sig))
