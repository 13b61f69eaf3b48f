-- Partial results whose values are numbers of the format: what is rounded up from patterns, and sums.
use mathlib.Core.Path.{subst}
use mathlib.Core.Option.{Option, none, some, bind, none-ne-some, some-injective}
use Prim.Native.Nat.{ℕ, zero, suc, ◌^◌}
use lib.Pow.{pow_pos}
use lib.IntN.{ℤ, pos}
use lib.Dec.{lit<}
use Rattle.rounding.specs.Format.{binary32, Num}
use Rattle.rounding.specs.Rounding.{up}
use Rattle.rounding.proofs.Sign.{num_zero}
use Rattle.enclosure.specs.Sums.{sum}
use Rattle.binary32.specs.Number.{held}
use Rattle.binary32.specs.Operations.{Way, mul, with₂, plus_of}
use Rattle.binary32.proofs.Held.{Fits}
use Rattle.binary32.proofs.Numbers.{up_fits}

pub bind_fits : (m : Option ℤ) (f : ℤ → Option ℤ) → ((v : ℤ) → Fits (f v)) → Fits (bind m f)
unfolding bind Fits
bind_fits none f h v e = absurd (none-ne-some v e)
bind_fits (some a) f h v e = h a v e

pub plus_up_fits : (s : ℕ) (t : Option ℤ) → Fits (plus_of up s t)
plus_up_fits s t = bind_fits (held s) _ (λ x. bind_fits t _ (λ y. up_fits 1 (lit< tt) _))

pub mul_up_fits : (a b : ℕ) → Fits (with₂ (mul up) a b)
unfolding with₂
mul_up_fits a b = bind_fits (held a) _ (λ x. bind_fits (held b) _ (λ y. up_fits (2 ^ 149) (pow_pos 149) _))

-- sums from zero
pub sum_fits : (way : Way) → ((X : ℤ) → Fits (way binary32 1 X)) → (f : ℕ → Option ℤ) (l : ℕ) → Fits (sum (way binary32 1) f (pos 0) l)
unfolding sum Fits
sum_fits way h f zero v e = subst (Num binary32) (some-injective (pos 0) v e) (num_zero binary32)
sum_fits way h f (suc l) v e = bind_fits (sum (way binary32 1) f (pos 0) l) _ (λ x. bind_fits _ _ (λ y. h _)) v e
