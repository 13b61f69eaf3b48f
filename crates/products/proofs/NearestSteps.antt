-- The running sums of method 3 taken apart: the centre with the other sign, and 2^-125 more in the radius.
use mathlib.Core.Path.{◌≡◌, refl, sym, ap, ◌∙◌, subst}
use mathlib.Core.Option.{Option, some, bind}
use Prim.Native.Nat.{ℕ, ◌^◌, ◌≤◌}
use native.Mathlib.Omega.{arith}
use lib.Dec.{lit≤}
use lib.IntN.{ℤ, pos, neg_ℤ, ◌+ℤ◌, ◌*ℤ◌, neg_ℤ-neg_ℤ}
use Rattle.algebra.specs.Order.{◌≼◌}
use Rattle.rounding.proofs.Sign.{neg_le_pos}
use Rattle.rounding.specs.Format.{binary32, MAX}
use Rattle.rounding.specs.Rounding.{up, negate}
use Rattle.unpacked.specs.declared.Number.{Number}
use Rattle.unpacked.specs.Number.{worth, Below, Holds, Runs, Opposite, minus_tiny}
use Rattle.products.specs.Running.{plus_down}
use Rattle.products.proofs.Carrying.{mirror_plus, mirrored_is}
use Rattle.unpacked.proofs.Opposites.{opposite_number}

-- ---- the other sign
pub opposite_runs : (m : Option ℤ) (x r : Number) → Runs m x → Opposite x r → Runs (negate m) r
opposite_runs m x r R o = record { is = ap negate R.is ∙ ap some (sym o.worths); number = opposite_number R.number o }

-- ---- 2^-125 more in the radius, as a number and in what is kept of it
abbrev pub tiny : ℕ
tiny = 2 ^ 24

tiny_worth : worth minus_tiny ≡ neg_ℤ (pos tiny)
unfolding worth
tiny_worth = refl

tiny_within : 2 ^ 24 ≤ MAX binary32
unfolding MAX
tiny_within = lit≤ tt

pub tiny_holds : (x : Number) → x ≡ minus_tiny → Holds (some (neg_ℤ (pos tiny))) x
tiny_holds x e = subst (Holds (some (neg_ℤ (pos tiny)))) (sym e) (record {
  part = record { normal = record { whole = whole; few = few; full = λ h. omega arith; low = λ h. absurd (no h) }; high = omega arith };
  is = (tiny_worth, tiny_within);
})
  where
    whole : minus_tiny.sig *ℤ pos (2 ^ minus_tiny.exp) ≡ worth minus_tiny *ℤ pos (2 ^ 400)
    whole = sym (ap (λ t. t *ℤ pos (2 ^ 400)) tiny_worth)

    few : 8388608 ≤ 2 ^ 24
    few = omega arith

    no : ◌≡◌ {A = ℕ} 8388608 0 → ⊥
    no h = omega arith

pub tiny_below : (x : Number) → x ≡ minus_tiny → Below x
tiny_below x e = subst Below (sym e) (subst (λ t. t ≼ pos 0) (sym tiny_worth) (neg_le_pos tiny 0))

-- with 2^-125 more, rounded up
unfoldable pub tinied : Option ℤ → Option ℤ
tinied m = bind m λ s. up binary32 1 (s +ℤ pos tiny)

pub tiny_more : (m : Option ℤ) (x r : Number) → Runs (negate m) x → Holds (plus_down (worth x) (some (neg_ℤ (pos tiny)))) r → Holds (negate (tinied m)) r
unfolding tinied bind
tiny_more m x r R h = subst (λ t. Holds t r) (sym whole) h
  where
    whole : negate (tinied m) ≡ plus_down (worth x) (some (neg_ℤ (pos tiny)))
    whole =
        ap (λ t. negate (tinied t)) (mirrored_is m x R) ∙ mirror_plus (neg_ℤ (worth x)) (some (pos tiny))
        ∙ ap (λ v. plus_down v (some (neg_ℤ (pos tiny)))) (neg_ℤ-neg_ℤ (worth x))
