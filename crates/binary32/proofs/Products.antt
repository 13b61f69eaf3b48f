-- The exact product of two numbers taken apart: 49 digits at most, and the exponents added.
use mathlib.Core.Path.{◌≡◌, sym, ap, ◌∙◌, subst}
use mathlib.Core.List.{[], ◌∷◌}
use Prim.Native.Nat.{ℕ, ◌+◌, ◌*◌, ◌^◌, ◌≤◌}
use native.Mathlib.Omega.{arith}
use native.Mathlib.Nat.{mul-le-mul}
use lib.Pow.{pow-add}
use lib.IntN.{ℤ, pos, nat_abs, ◌*ℤ◌}
use Rattle.algebra.proofs.Absolute.{nat_abs_mul}
use Rattle.algebra.proofs.Reading.{by_ring}
use Rattle.algebra.proofs.Linear.{reading}
use Rattle.rounding.specs.Format.{binary32}
use Rattle.rounding.specs.Rounding.{up, down, near}
use Rattle.binary32.specs.declared.parts.Parts.{Parts}
use Rattle.binary32.specs.Steps.{of, Short, exact, ProductIs}

product_value : (x y : ℤ) (i j : ℕ) → x *ℤ y *ℤ pos (2 ^ (i + j)) ≡ (x *ℤ pos (2 ^ i)) *ℤ (y *ℤ pos (2 ^ j))
product_value x y i j = ap (λ n. x *ℤ y *ℤ pos n) (pow-add 2 i j) ∙ swap
  where
    swap : x *ℤ y *ℤ pos (2 ^ i * 2 ^ j) ≡ (x *ℤ pos (2 ^ i)) *ℤ (y *ℤ pos (2 ^ j))
    swap = by_ring (x ∷ y ∷ pos (2 ^ i) ∷ pos (2 ^ j) ∷ []) (search reading depth 20) tt

pub product_short : (x y : ℤ) → nat_abs x ≤ 2 ^ 24 → nat_abs y ≤ 2 ^ 24 → nat_abs (x *ℤ y) ≤ 2 ^ 48
product_short x y h k = omega (arith, nat_abs_mul x y, mul-le-mul h k)

pub product_is : {x y : Parts} → Short x → Short y → (z : ℤ) → z ≡ x.sig *ℤ y.sig
    → ProductIs x y (record { sig = z; exp = x.exp + y.exp })
unfolding exact of
product_is {x} {y} sx sy z e =
    let v : z *ℤ pos (2 ^ (x.exp + y.exp)) ≡ of x *ℤ of y =
    ap (λ s. s *ℤ pos (2 ^ (x.exp + y.exp))) e ∙ product_value x.sig y.sig x.exp y.exp in
    let short : nat_abs z ≤ 2 ^ 48 = subst (λ s. nat_abs s ≤ 2 ^ 48) (sym e) (product_short x.sig y.sig sx.few sy.few) in
    record {
      downs = ap (down binary32 (2 ^ 149)) v;
      ups = ap (up binary32 (2 ^ 149)) v;
      nears = ap (near binary32 (2 ^ 149)) v;
      small = record { short = omega arith; low = omega (arith, sx.low, sy.low) };
    }
