-- The running sums of methods 4 and 7: where they start, what a step makes of them, and that they go on or that one of them is refused.
use mathlib.Core.Path.{◌≡◌, refl, sym, ap, subst}
use mathlib.Core.Logic.{inl, inr}
use Rattle.std.specs.Prelude.{Some, None}
use mathlib.Core.Option.{Option, some}
use Prim.Native.Nat.{ℕ, ◌+◌, ◌<◌}
use lib.IntN.{ℤ, pos, neg_ℤ, neg_ℤ-neg_ℤ}
use Rattle.rounding.specs.Format.{binary32}
use Rattle.rounding.specs.Rounding.{up, down, negate}
use Rattle.enclosure.specs.Sums.{sum}
use Rattle.binary32.specs.Operations.{mul, with₂}
use Rattle.unpacked.specs.declared.Number.{Number}
use Rattle.products.specs.declared.centred.Centred.{Centred}
use Rattle.unpacked.specs.Number.{worth, IsNumber, Holds, Runs, zero_number, no_number}
use Rattle.products.specs.Running.{plus_down}
use Rattle.products.specs.Centred.{Added, CentredSum, OneNone}
use Rattle.products.proofs.Carrying.{number_runs, no_holds, runs_holds, holds_none, zero_runs, negate_none, down_more, up_more, sum_stays}

-- ---- a radius alone, kept with the other sign
pub radius_from : (h : ℕ → Option ℤ) (x : Number) → IsNumber x → Runs (negate (sum (up binary32 1) h (neg_ℤ (worth x)) 0)) x
unfolding sum
radius_from h x n = record { is = ap some (neg_ℤ-neg_ℤ (worth x)); number = n }

radius_more : (h : ℕ → Option ℤ) (c : ℤ) (l : ℕ) (x r : Number) (t : Option ℤ) → Runs (negate (sum (up binary32 1) h c l)) x → t ≡ negate (h l) → Holds (plus_down (worth x) t) r
    → Holds (negate (sum (up binary32 1) h c (l + 1))) r
radius_more h c l x r t R e H = up_more h c l x r (h l) R refl (subst (λ u. Holds (plus_down (worth x) u) r) e H)

-- ---- the three sums of terms f, g and h, from a, b and c
module _ (f g h : ℕ → Option ℤ) (a b c : ℤ) where
  module _ (l : ℕ) (s : Centred) (x y : ℕ) (t : Option ℤ) (S : CentredSum (sum (down binary32 1) f a l) (sum (up binary32 1) g b l) (sum (up binary32 1) h c l) s)
      (e : f l ≡ with₂ (mul down) x y) (d : g l ≡ with₂ (mul up) x y) (q : t ≡ negate (h l)) where
    -- after a step
    pub centred_more : (r : Centred) → Added s x y t (Some r) → CentredSum (sum (down binary32 1) f a (l + 1)) (sum (up binary32 1) g b (l + 1)) (sum (up binary32 1) h c (l + 1)) r
    centred_more r A =
        record {
          lower = number_runs r.lower_number (down_more f a l s.lower r.lower (with₂ (mul down) x y) S.lower e (runs_holds A.lower));
          upper = number_runs r.opposed_number (up_more g b l s.opposed r.opposed (with₂ (mul up) x y) S.upper d (runs_holds A.opposed));
          radius = number_runs r.radius_number (radius_more h c l s.radius r.radius t S.radius q (runs_holds A.radius));
        }

    -- a step that has no numbers
    pub centred_none : Added s x y t None → OneNone (sum (down binary32 1) f a (l + 1)) (sum (up binary32 1) g b (l + 1)) (sum (up binary32 1) h c (l + 1))
    centred_none (inl n) = inl (holds_none _ no_number (down_more f a l s.lower no_number _ S.lower e (no_holds n)) refl)
    centred_none (inr (inl n)) = inr (inl (negate_none _ (holds_none _ no_number (up_more g b l s.opposed no_number _ S.upper d (no_holds n)) refl)))
    centred_none (inr (inr n)) = inr (inr (negate_none _ (holds_none _ no_number (radius_more h c l s.radius no_number t S.radius q (no_holds n)) refl)))

  -- a refusal stays
  pub one_stays : (l k : ℕ) → l < k → OneNone (sum (down binary32 1) f a (l + 1)) (sum (up binary32 1) g b (l + 1)) (sum (up binary32 1) h c (l + 1))
      → OneNone (sum (down binary32 1) f a k) (sum (up binary32 1) g b k) (sum (up binary32 1) h c k)
  one_stays l k m (inl e) = inl (sum_stays (down binary32 1) f a l k m e)
  one_stays l k m (inr (inl e)) = inr (inl (sum_stays (up binary32 1) g b l k m e))
  one_stays l k m (inr (inr e)) = inr (inr (sum_stays (up binary32 1) h c l k m e))

-- sums of no terms
pub centred_none_yet : (f g h : ℕ → Option ℤ) (s : Centred) → (s.lower ≡ zero_number) × (s.opposed ≡ zero_number) × (s.radius ≡ zero_number) → CentredSum (sum (down binary32 1) f (pos 0) 0) (sum (up binary32 1) g (pos 0) 0) (sum (up binary32 1) h (pos 0) 0) s
unfolding sum
centred_none_yet f g h s (a, b, c) = record { lower = subst (Runs (some (pos 0))) (sym a) zero_runs; upper = subst (Runs (some (pos 0))) (sym b) zero_runs; radius = subst (Runs (some (pos 0))) (sym c) zero_runs }

-- sums that go on from numbers
pub centred_from : (f g h : ℕ → Option ℤ) (s : Centred)
    → CentredSum (sum (down binary32 1) f (worth s.lower) 0) (sum (up binary32 1) g (neg_ℤ (worth s.opposed)) 0) (sum (up binary32 1) h (neg_ℤ (worth s.radius)) 0) s
unfolding sum
centred_from f g h s = record { lower = record { is = refl; number = s.lower_number }; upper = radius_from g s.opposed s.opposed_number; radius = radius_from h s.radius s.radius_number }
