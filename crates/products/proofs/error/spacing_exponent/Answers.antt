-- `products::error::spacing_exponent` meets its contract: below 2^24 units the spacing is 1, above it is that of the exponent.
use mathlib.Core.Path.{◌≡◌, ap, ◌∙◌, subst}
use Prim.Native.Nat.{ℕ, ◌^◌, ◌≤◌, ◌<◌}
use native.Mathlib.Omega.{arith}
use lib.IntN.{ℤ, nat_abs}
use mir.Syntax.{w64}
use mir.Val.{to_z, of_z}
use Rattle.binary32.proofs.Ints.{read_small}
use Rattle.unpacked.proofs.Packing.{exp_high}
use Rattle.unpacked.proofs.Scaling.{spacing_low, spacing_high, spacing_long}
use Rattle.products.proofs.error.spacing_exponent.Goals as goal

pub returns-then-x-lt-BIAS : goal.returns-then-x-lt-BIAS
returns-then-x-lt-BIAS c =
    (spacing_low c.args.x c.requires.normal c.if-x-lt-BIAS.true, omega arith)

-- the significand's magnitude
size_is : (s : ℤ) (n : ℕ) → nat_abs s ≤ 2 ^ 24 → n ≡ nat_abs (to_z w64 (of_z w64 s)) → n ≡ nat_abs s
size_is s n h e = e ∙ ap nat_abs (read_small s (omega arith))

pub returns-then-unsigned_abs-lt-PAST_LARGEST : goal.returns-then-unsigned_abs-lt-PAST_LARGEST
returns-then-unsigned_abs-lt-PAST_LARGEST c =
    let x = c.args.x in
    let high : 400 ≤ x.exp = omega (arith, c.if-x-lt-BIAS.false) in
    let short : nat_abs x.sig < 2 ^ 24 = subst (λ (n : ℕ). n < 2 ^ 24) (size_is x.sig _ c.requires.normal.few c.unsigned_abs.ensures.value) c.if-unsigned_abs-lt-PAST_LARGEST.true in
    (spacing_high x c.requires.normal high short, omega (arith, exp_high x c.requires))

pub returns : goal.returns
returns c =
    let x = c.args.x in
    let high : 400 ≤ x.exp = omega (arith, c.if-x-lt-BIAS.false) in
    let long : 2 ^ 24 ≤ nat_abs x.sig = subst (λ (n : ℕ). 2 ^ 24 ≤ n) (size_is x.sig _ c.requires.normal.few c.unsigned_abs.ensures.value) c.if-unsigned_abs-lt-PAST_LARGEST.false in
    (spacing_long x c.requires.normal high long, omega (arith, exp_high x c.requires))
