-- `products::corners::rank` meets its contract: exponent and digits together are far below 2 ^ 63.
use mathlib.Core.Path.{◌≡◌, refl, sym, ap, ap₂, ◌∙◌, subst}
use mathlib.Core.Bool.{true, false}
use Prim.Native.Nat.{ℕ, suc, ◌+◌, ◌*◌, ◌^◌, ◌≤◌}
use native.Mathlib.Omega.{arith}
use lib.IntN.{ℤ, pos, negsuc, nat_abs, ◌+ℤ◌, ◌-ℤ◌, ◌*ℤ◌}
use lib.Signed.{lt_z}
use mir.Syntax.{w64}
use mir.Val.{SFits, of_z, to_z}
use mir.ValLaws.{to_z-of_z, to_z_pos}
use borrow.Author.Tests.{ltb-true}
use Rattle.algebra.proofs.Machine.{fits_nat_abs}
use Rattle.rounding.proofs.Sign.{nat_abs_neg}
use Rattle.binary32.proofs.Ints.{read_small, test}
use Rattle.unpacked.specs.Corners.{rank_of}
use Rattle.unpacked.proofs.CornerOrder.{rank_neg}
use Rattle.products.proofs.corners.rank.Goals as goal

rank_size : (s : ℤ) (e : ℕ) → nat_abs (rank_of s e) ≡ nat_abs s + e * 2 ^ 47
unfolding rank_of
rank_size (pos n) e = refl
rank_size (negsuc n) e = ap nat_abs (rank_neg n e) ∙ nat_abs_neg (pos (suc n + e * 2 ^ 47))

module _ (s : ℤ) (e : ℕ) (few : nat_abs s ≤ 2 ^ 48) (low : e ≤ 5000) (f : ℤ) (is : f ≡ pos e) where
  shift_is : to_z w64 (of_z w64 f) *ℤ pos (2 ^ 47) ≡ pos (e * 2 ^ 47)
  shift_is = ap (λ z. to_z w64 (of_z w64 z) *ℤ pos (2 ^ 47)) is ∙ ap (λ z. z *ℤ pos (2 ^ 47)) (to_z_pos w64 e (omega arith))

  shift_fits : SFits w64 (to_z w64 (of_z w64 f) *ℤ pos (2 ^ 47))
  shift_fits = subst (SFits w64) (sym shift_is) (fits_nat_abs (pos (e * 2 ^ 47)) (omega arith))

  rank_fits : SFits w64 (rank_of s e)
  rank_fits = fits_nat_abs (rank_of s e) (omega (arith, rank_size s e))

  sig_read : to_z w64 (of_z w64 s) ≡ s
  sig_read = read_small s (omega arith)

  shift_read : to_z w64 (of_z w64 (to_z w64 (of_z w64 f) *ℤ pos (2 ^ 47))) ≡ pos (e * 2 ^ 47)
  shift_read = to_z-of_z w64 (to_z w64 (of_z w64 f) *ℤ pos (2 ^ 47)) shift_fits ∙ shift_is

  below : lt_z (to_z w64 (of_z w64 s)) (to_z w64 0) ≡ true
      → to_z w64 (of_z w64 s) -ℤ to_z w64 (of_z w64 (to_z w64 (of_z w64 f) *ℤ pos (2 ^ 47))) ≡ rank_of s e
  unfolding rank_of
  below t = ap₂ ◌-ℤ◌ sig_read shift_read ∙ go s (test s (fits_nat_abs s (omega arith)) true t)
    where
      go : (z : ℤ) → lt_z z (pos 0) ≡ true → z -ℤ pos (e * 2 ^ 47) ≡ rank_of z e
      go (pos n) u = absurd (no (ltb-true n 0 u))
        where
          no : suc n ≤ 0 → ⊥
          no h = omega arith
      go (negsuc n) u = refl

  above : lt_z (to_z w64 (of_z w64 s)) (to_z w64 0) ≡ false
      → to_z w64 (of_z w64 s) +ℤ to_z w64 (of_z w64 (to_z w64 (of_z w64 f) *ℤ pos (2 ^ 47))) ≡ rank_of s e
  unfolding rank_of
  above t = ap₂ ◌+ℤ◌ sig_read shift_read ∙ go s (test s (fits_nat_abs s (omega arith)) false t)
    where
      go : (z : ℤ) → lt_z z (pos 0) ≡ false → z +ℤ pos (e * 2 ^ 47) ≡ rank_of z e
      go (pos n) u = refl
      go (negsuc n) u = cc

  kept : {z : ℤ} → z ≡ rank_of s e → to_z w64 (of_z w64 z) ≡ rank_of s e
  kept h = ap (λ z. to_z w64 (of_z w64 z)) h ∙ to_z-of_z w64 (rank_of s e) rank_fits

pub returns-then-sig-lt0 : goal.returns-then-sig-lt0
returns-then-sig-lt0 c =
    kept c.args.sig c.args.exp c.requires.0 c.requires.1 c.from-k.result c.from-k.ensures (below c.args.sig c.args.exp c.requires.0 c.requires.1 c.from-k.result c.from-k.ensures c.if-sig-lt0.true)

pub returns-else-sig-lt0 : goal.returns-else-sig-lt0
returns-else-sig-lt0 c =
    kept c.args.sig c.args.exp c.requires.0 c.requires.1 c.from-k.result c.from-k.ensures (above c.args.sig c.args.exp c.requires.0 c.requires.1 c.from-k.result c.from-k.ensures c.if-sig-lt0.false)
