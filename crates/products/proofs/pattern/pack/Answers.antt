-- `products::pattern::pack` meets its contract: the fields of the magnitude (`encode_is`), with the sign (`pack_below`, `pack_above`).
use mathlib.Core.Path.{◌≡◌, ap, ◌∙◌, subst, sym}
use mathlib.Core.Bool.{true, false}
use Prim.Native.Nat.{ℕ, ◌*◌, ◌^◌, ◌≤◌}
use native.Mathlib.Omega.{arith}
use lib.IntN.{ℤ, nat_abs}
use mir.Syntax.{w64}
use mir.Val.{to_z, of_z}
use Rattle.algebra.proofs.Machine.{fits_nat_abs}
use Rattle.binary32.proofs.Ints.{read_small, test}
use Rattle.unpacked.specs.declared.Number.{Number}
use Rattle.unpacked.specs.Cuts.{fields_of}
use Rattle.unpacked.proofs.Worths.{exp_low}
use Rattle.unpacked.proofs.Packing.{exp_high, fields_less, pack_below, pack_above}
use Rattle.products.proofs.pattern.pack.Goals as goal

size_is : (s : ℤ) (n : ℕ) → nat_abs s ≤ 2 ^ 24 → n ≡ nat_abs (to_z w64 (of_z w64 s)) → n ≡ nat_abs s
size_is s n h e = e ∙ ap nat_abs (read_small s (omega arith))

fields_is : (x : Number) (n t : ℕ) → nat_abs x.sig ≤ 2 ^ 24 → n ≡ nat_abs (to_z w64 (of_z w64 x.sig)) → t ≡ fields_of n x.exp → t ≡ fields_of (nat_abs x.sig) x.exp
fields_is x n t h e f = f ∙ ap (λ (m : ℕ). fields_of m x.exp) (size_is x.sig n h e)

pub fields-t-requires : goal.fields-t-requires
fields-t-requires c =
    let x = c.args.x in
    (omega (arith, size_is x.sig _ c.requires.normal.few c.unsigned_abs.ensures.value, c.requires.normal.few), exp_low x c.requires.normal, exp_high x c.requires)

pub overflow_add-result : goal.overflow_add-result
overflow_add-result c =
    let x = c.args.x in
    let few : c.fields-t.result ≤ 255 * 2 ^ 23 =
    subst (λ (t : ℕ). t ≤ 255 * 2 ^ 23) (sym (fields_is x _ _ c.requires.normal.few c.unsigned_abs.ensures.value c.fields-t.ensures))
    (fields_less (nat_abs x.sig) x.exp c.requires.normal.few (exp_high x c.requires)) in
    record { fits = omega arith }

pub returns-then-x-lt0 : goal.returns-then-x-lt0
returns-then-x-lt0 c =
    let x = c.args.x in
    pack_below x c.requires.normal c.fields-t.result (fields_is x _ _ c.requires.normal.few c.unsigned_abs.ensures.value c.fields-t.ensures)
    (test x.sig (fits_nat_abs x.sig (omega (arith, c.requires.normal.few))) true c.if-x-lt0.true)

pub returns : goal.returns
returns c =
    let x = c.args.x in
    pack_above x c.requires.normal c.fields-t.result (fields_is x _ _ c.requires.normal.few c.unsigned_abs.ensures.value c.fields-t.ensures)
    (test x.sig (fits_nat_abs x.sig (omega (arith, c.requires.normal.few))) false c.if-x-lt0.false)
