-- The machine's steps of a shift to nearest: half of the divisor less one, and the last digit of the quotient, are added before; nothing overflows.
use mathlib.Core.Path.{◌≡◌, sym, ap, ap₂, ◌∙◌, subst}
use Prim.Native.Nat.{ℕ, ◌+◌, ◌-◌, ◌^◌, ◌≤◌, ◌<◌}
use native.Mathlib.Omega.{arith}
use lib.Pow.{pow_pos, pow_mono}
use lib.IntN.{ℤ, pos, nat_abs, ◌+ℤ◌}
use lib.Signed.{mag, shr_z}
use mir.Syntax.{w64}
use mir.Val.{SFits, to_z, of_z}
use mir.ValLaws.{to_z-of_z}
use Rattle.algebra.proofs.Absolute.{nat_abs_add}
use Rattle.algebra.proofs.Machine.{fits_nat_abs}
use Rattle.algebra.proofs.Power.{pow_split}
use Rattle.rounding.specs.Quotient.{rem}
use Rattle.rounding.proofs.Floor.{rem_lt}
use Rattle.binary32.proofs.Ints.{read}
use Rattle.unpacked.specs.Cuts.{nearest_of}
use Rattle.unpacked.proofs.Halves.{halves, rem_two, shr_half}

abbrev machine : ℤ → ℤ
machine z = to_z w64 (of_z w64 z)

-- t / 2 ^ n, and h = 2 ^ (n - 1) - 1
module _ (t : ℤ) (n : ℕ) (ft : SFits w64 t) (few : nat_abs t ≤ 2 ^ 62) (low : 1 ≤ n) (high : n ≤ 61) (h : ℤ) (fh : mag h < 2 ^ 63) (eh : h ≡ pos (2 ^ (n - 1) - 1)) where
  abbrev m : ℕ
  m = 2 ^ n

  abbrev g : ℕ
  g = 2 ^ (n - 1) - 1

  double : m ≡ g + g + 2
  double = omega (arith, pow_split n 1 low, pow_pos (n - 1))

  room : nat_abs t + g + 1 < 2 ^ 63
  room = omega (arith, few, pow_mono {i = n - 1} {j = 60} (omega arith))

  more_fits : SFits w64 (t +ℤ pos g)
  more_fits = fits_nat_abs (t +ℤ pos g) (omega (arith, nat_abs_add t (pos g), room))

  more : machine t +ℤ machine h ≡ t +ℤ pos g
  more = ap₂ ◌+ℤ◌ (to_z-of_z w64 t ft) (read h fh ∙ eh)

  pub first_fits : SFits w64 (machine t +ℤ machine h)
  first_fits = subst (SFits w64) (sym more) more_fits

  -- the quotient q and its last digit o
  module _ (q : ℤ) (fq : mag q < 2 ^ 63) (eq : q ≡ shr_z (machine t) m) where
    quotient : machine q ≡ shr_z t m
    quotient = read q fq ∙ eq ∙ ap (λ a. shr_z a m) (to_z-of_z w64 t ft)

    pub quotient_few : nat_abs (machine q) ≤ 2 ^ 61
    quotient_few = subst (λ a. nat_abs a ≤ 2 ^ 61) (sym quotient) (shr_half t m (omega (arith, double)) few)

    module _ (o : ℤ) (fo : mag o < 2 ^ 63) (eo : o ≡ pos (rem (machine q) 2)) where
      abbrev b : ℕ
      b = rem (shr_z t m) 2

      sum : machine (machine t +ℤ machine h) +ℤ machine o ≡ t +ℤ pos g +ℤ pos b
      sum = ap₂ ◌+ℤ◌ (ap machine more ∙ to_z-of_z w64 (t +ℤ pos g) more_fits) (read o fo ∙ eo ∙ ap (λ a. pos (rem a 2)) quotient)

      sum_fits : SFits w64 (t +ℤ pos g +ℤ pos b)
      sum_fits = fits_nat_abs (t +ℤ pos g +ℤ pos b)
          (omega (arith, nat_abs_add (t +ℤ pos g) (pos b), nat_abs_add t (pos g), rem_lt (shr_z t m) 2 (omega arith), room))

      pub second_fits : SFits w64 (machine (machine t +ℤ machine h) +ℤ machine o)
      second_fits = subst (SFits w64) (sym sum) sum_fits

      pub near_shift : (r : ℤ) → mag r < 2 ^ 63 → r ≡ shr_z (machine (machine (machine t +ℤ machine h) +ℤ machine o)) m → machine r ≡ nearest_of t m
      near_shift r fr er =
          read r fr ∙ er ∙ ap (λ a. shr_z a m) (ap machine sum ∙ to_z-of_z w64 (t +ℤ pos g +ℤ pos b) sum_fits) ∙ halves t m g b double (rem_two (shr_z t m))
