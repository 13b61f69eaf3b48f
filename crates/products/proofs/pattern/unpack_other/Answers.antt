-- `products::pattern::unpack_other` meets its contract: by `unpacked_low`, and above all numbers by `unpacked_none`.
use mathlib.Core.Path.{ap, ◌∙◌, subst, sym}
use mathlib.Core.Logic.{◌⊎◌, ⊎_elim}
use Prim.Native.Nat.{ℕ, ◌*◌, ◌%◌, ◌^◌, ◌≤◌, ◌<◌}
use native.Mathlib.Nat.{not-le_of_lt}
use lib.Dec.{leb}
use Rattle.binary32.specs.Number.{signed_by}
use Rattle.binary32.proofs.Ints.{read}
use Rattle.unpacked.specs.Number.{Unpacked}
use Rattle.unpacked.proofs.Unpacking.{unpacked_low, unpacked_none}
use Rattle.products.proofs.pattern.unpack_other.Goals as goal

pub returns-then-t-lt-HIDDEN : goal.returns-then-t-lt-HIDDEN
returns-then-t-lt-HIDDEN c =
    let p = c.args.p in
    unpacked_low p _ c.whole.result c.if-t-lt-HIDDEN.true
    (read c.with_sign.result c.with_sign.type_inv ∙ c.with_sign.ensures ∙ ap (signed_by (leb (2 ^ 31) p)) c.from.ensures) c.whole.ensures

above : (t : ℕ) → (t < 2 ^ 23) ⊎ (255 * 2 ^ 23 ≤ t) → 2 ^ 23 ≤ t → 255 * 2 ^ 23 ≤ t
above t h l = ⊎_elim (λ (k : t < 2 ^ 23). absurd (not-le_of_lt k l)) (λ k. k) h

pub returns : goal.returns
returns c =
    subst (Unpacked c.args.p) (sym c.none.ensures) (unpacked_none c.args.p (above (c.args.p % 2 ^ 31) c.requires c.if-t-lt-HIDDEN.false))
