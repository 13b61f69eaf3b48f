-- `products::times::times` meets its contract: the product in 48 digits, doubled where it has fewer.
use mathlib.Core.Path.{◌≡◌, ap₂, ◌∙◌, subst}
use Prim.Native.Nat.{ℕ, ◌^◌, ◌≤◌, ◌<◌}
use native.Mathlib.Omega.{arith}
use lib.IntN.{ℤ, nat_abs, ◌*ℤ◌}
use lib.Signed.{mag}
use mir.Syntax.{w64}
use mir.Val.{to_z, of_z}
use Rattle.binary32.proofs.Ints.{read, read_small}
use Rattle.unpacked.proofs.ExactProducts.{times_small, times_large}
use Rattle.products.proofs.times.times.Goals as goal

-- the product read back
is : (x y p : ℤ) → nat_abs x ≤ 2 ^ 24 → nat_abs y ≤ 2 ^ 24 → mag p < 2 ^ 63
    → p ≡ to_z w64 (of_z w64 x) *ℤ to_z w64 (of_z w64 y) → to_z w64 (of_z w64 p) ≡ x *ℤ y
is x y p f g h e = read p h ∙ e ∙ ap₂ ◌*ℤ◌ (read_small x (omega arith)) (read_small y (omega arith))

pub returns-then-digits-lt-FULL : goal.returns-then-digits-lt-FULL
returns-then-digits-lt-FULL c =
    let x = c.args.x in
    let y = c.args.y in
    let r = c.requires in
    times_small x y r _ (is x.sig y.sig _ r.first.normal.few r.second.normal.few c.multiplied-p.type_inv c.multiplied-p.ensures) (to_z w64 (of_z w64 c.twice.result))
    (read c.twice.result c.twice.type_inv ∙ c.twice.ensures) (subst (λ (n : ℕ). n < 2 ^ 47) c.digits.ensures c.if-digits-lt-FULL.true)

pub returns : goal.returns
returns c =
    let x = c.args.x in
    let y = c.args.y in
    let r = c.requires in
    times_large x y r _ (is x.sig y.sig _ r.first.normal.few r.second.normal.few c.multiplied-p.type_inv c.multiplied-p.ensures)
    (subst (λ (n : ℕ). 2 ^ 47 ≤ n) c.digits.ensures c.if-digits-lt-FULL.false)
