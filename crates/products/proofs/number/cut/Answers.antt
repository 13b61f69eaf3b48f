-- `products::number::cut` meets its contract: the shift up does not overflow (`wide_abs`), and the exponent does not go below 0.
use mathlib.Core.Path.{◌≡◌, sym, ap, ap₂, subst, ◌∙◌}
use Prim.Native.Nat.{ℕ, ◌+◌, ◌-◌, ◌*◌, ◌^◌, ◌≤◌, ◌<◌}
use native.Mathlib.Omega.{arith}
use lib.Count.{count_leading_zeros}
use lib.IntN.{ℤ, pos, nat_abs, ◌*ℤ◌}
use lib.Signed.{mag}
use mir.Syntax.{w64}
use mir.Val.{to_z, of_z}
use Rattle.algebra.proofs.Absolute.{nat_abs_mul}
use Rattle.algebra.proofs.Machine.{mag_of_nat_abs}
use Rattle.binary32.proofs.Ints.{read, read_small}
use Rattle.unpacked.specs.Cuts.{room, OrLow}
use Rattle.unpacked.proofs.Leading.{Lead, lead_of, wide_abs}
use Rattle.unpacked.proofs.Cutting.{room_is}
use Rattle.products.proofs.number.cut.Goals as goal

-- w, and m, which are its digits
module _ (w : ℤ) (h : nat_abs w ≤ 2 ^ 61) where
  plain : to_z w64 (of_z w64 w) ≡ w
  plain = read_small w (omega (arith, h))

  led : Lead (mag w) (room w)
  led = lead_of w (omega (arith, h))

  module _ (m : ℕ) (e : m ≡ mag (to_z w64 (of_z w64 w))) where
    found : m ≡ mag w
    found = e ∙ ap mag plain

    few : m ≤ 2 ^ 61
    few = omega (arith, found, mag_of_nat_abs w {h = 2 ^ 61 + 1} (omega (arith, h)))

    zeros : count_leading_zeros 64 (m * 4 + 3) ≡ room w
    zeros = room_is w m found

    wide_is : (v : ℤ) → mag v < 2 ^ 63 → v ≡ to_z w64 (of_z w64 w) *ℤ pos (2 ^ count_leading_zeros 64 (m * 4 + 3)) → to_z w64 (of_z w64 v) ≡ w *ℤ pos (2 ^ room w)
    wide_is v t f = read v t ∙ f ∙ ap₂ (λ (a : ℤ) (n : ℕ). a *ℤ pos (2 ^ n)) plain zeros

  wide_few : nat_abs (w *ℤ pos (2 ^ room w)) ≤ 2 ^ 62
  wide_few = omega (arith, nat_abs_mul w (pos (2 ^ room w)), wide_abs w (room w) led)

pub widened-requires : goal.widened-requires
widened-requires g c =
    let w = c.args.w in
    let h = c.requires.0 in
    rw (plain w h, zeros w h c.digits.result c.digits.ensures) ((led w h).low, wide_abs w (room w) (led w h))

pub shorten-requires : goal.shorten-requires
shorten-requires g c =
    let w = c.args.w in
    let h = c.requires.0 in
    (subst (λ (t : ℤ). nat_abs t ≤ 2 ^ 62) (sym (wide_is w h c.digits.result c.digits.ensures c.widened.result c.widened.type_inv c.widened.ensures)) (wide_few w h), omega arith, omega arith)

pub returns : goal.returns
returns g c =
    let w = c.args.w in
    let h = c.requires.0 in
    let z = zeros w h c.digits.result c.digits.ensures in
    let o : OrLow w (c.args.exp + 2 - count_leading_zeros 64 (c.digits.result * 4 + 3)) c.or_low.result =
    subst (λ (t : ℤ). OrLow t (c.args.exp + 2 - count_leading_zeros 64 (c.digits.result * 4 + 3)) c.or_low.result) (plain w h) c.or_low.ensures in
    record {
      sigs =
          read c.shorten.result c.shorten.type_inv ∙ c.shorten.ensures
          ∙ ap (λ (t : ℤ). g.D.Short.part t (2 ^ 38)) (wide_is w h c.digits.result c.digits.ensures c.widened.result c.widened.type_inv c.widened.ensures);
      none = o.none;
      some = λ p. omega (arith, o.some p, z, (led w h).low, c.requires.1);
    }
