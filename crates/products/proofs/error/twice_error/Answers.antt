-- `products::error::twice_error` meets its contract: each step is one of `ErrorBounds`.
use mathlib.Core.Path.{◌≡◌, sym, ap, ◌∙◌, subst}
use Prim.Native.Nat.{ℕ, ◌+◌, ◌^◌, ◌≤◌}
use native.Mathlib.Omega.{arith}
use lib.IntN.{ℤ, pos, neg_ℤ, nat_abs}
use mir.Syntax.{w64}
use mir.Val.{to_z, of_z}
use mathlib.Core.Option.{some}
use Rattle.algebra.specs.Order.{◌≼◌}
use Rattle.rounding.specs.Format.{binary32, Num, expo, spacing}
use Rattle.rounding.proofs.Sign.{nat_abs_neg, neg_le_pos, num_neg}
use Rattle.binary32.proofs.Ints.{read}
use Rattle.unpacked.specs.Number.{worth, Holds}
use Rattle.unpacked.proofs.Packing.{num_of}
use Rattle.products.proofs.ErrorBounds.{error, steps_digits, steps_number, error_holds, error_digits, twice_error}
use Rattle.products.proofs.error.twice_error.Goals as goal

-- -(k + 1)
minus_is : (c : goal.After-with_sign) → to_z w64 (of_z w64 c.with_sign.result) ≡ neg_ℤ (pos (c.args.k + 1))
minus_is c = read c.with_sign.result c.with_sign.type_inv ∙ c.with_sign.ensures

pub whole-requires : goal.whole-requires
whole-requires c = subst (λ (t : ℤ). nat_abs t ≤ 2 ^ 24) (sym (minus_is c)) (omega (arith, nat_abs_neg (pos (c.args.k + 1)), c.requires.2))

-- G, and -(k + 1) with its exponent
module _ (c : goal.After-spacing_exponent) where
  abbrev k : ℕ
  k = c.args.k

  abbrev g : ℤ
  g = neg_ℤ (worth c.args.size)

  number : Num binary32 g
  number = num_neg (num_of c.args.size c.requires.0)

  minus : Holds (some (neg_ℤ (pos (k + 1)))) c.whole.result
  minus = subst (λ (t : ℤ). Holds (some t) c.whole.result) (minus_is c.before.before) c.whole.ensures

  spaced : 2 ^ c.spacing_exponent.result ≡ spacing binary32 g
  spaced = c.spacing_exponent.ensures.0 ∙ ap (λ (n : ℕ). 2 ^ expo binary32 n) (sym (nat_abs_neg (worth c.args.size)))

pub scaled-spacings-requires : goal.scaled-spacings-requires
scaled-spacings-requires c =
    let m = minus c in
    (m.part.normal, steps_digits (k c) c.whole.result m, m.part.high, omega (arith, c.spacing_exponent.ensures.1))

pub plus_negative-requires : goal.plus_negative-requires
plus_negative-requires c =
    let n = steps_number (k c.before.before) c.requires.2 (g c.before.before) (number c.before.before) c.whole.result c.scaled-spacings.result c.spacing_exponent.result (minus c.before.before) (spaced c.before.before) c.scaled-spacings.ensures in
    (n.0, c.whole-2.ensures.part, n.1, subst (λ (t : ℤ). t ≼ pos 0) (sym c.whole-2.ensures.is.0) (neg_le_pos (2 ^ 23) 0))

-- -E
bound : (c : goal.After-plus_negative) →
    Holds (some (neg_ℤ (pos (error (k c.before.before.before) c.requires.2 (g c.before.before.before) (number c.before.before.before)).e))) c.plus_negative.result
bound c =
    error_holds (k c.before.before.before) c.requires.2 (g c.before.before.before) (number c.before.before.before) c.whole.result c.scaled-spacings.result c.spacing_exponent.result (minus c.before.before.before) (spaced c.before.before.before) c.scaled-spacings.ensures
    c.plus_negative.result (c.plus_negative.ensures _ c.whole-2.ensures)

pub scaled-requires : goal.scaled-requires
scaled-requires c =
    let h = bound c in
    (h.part.normal, error_digits (k c.before.before.before) c.requires.2 (g c.before.before.before) (number c.before.before.before) c.plus_negative.result h, h.part.high, omega arith)

pub returns : goal.returns
returns c =
    twice_error (k c.before.before.before.before) c.requires.2 (g c.before.before.before.before) (number c.before.before.before.before) c.plus_negative.result (bound c.before) c.scaled.result c.scaled.ensures
