-- `products::short::NearShort::limit` meets its contract: by `limit_near_fits` and `limit_near_over`. Both fields are chosen by the same test.
use mathlib.Core.Path.{◌≡◌, sym, ◌∙◌, subst}
use native.Mathlib.Omega.{arith}
use lib.IntN.{ℤ, negsuc}
use mir.Syntax.{w64}
use mir.Val.{to_z}
use Rattle.binary32.proofs.Ints.{read_small}
use Rattle.unpacked.specs.Number.{worth, Holds}
use Rattle.unpacked.specs.Cuts.{limited_near}
use Rattle.unpacked.proofs.Limits.{limit_near_fits, limit_near_over}
use Rattle.products.proofs.short.NearShort.limit.Goals as goal
use Rattle.products.proofs.short.NearShort.limit.Goals.{then-ok, else-ok}

-- both fields are chosen by the same test
pub returns-then-ok-2 : goal.returns-then-ok-2
returns-then-ok-2 c =
    let x = c.args.x in
    let kept : to_z w64 c.if-ok.result-bits ≡ x.sig =
    elim c.if-ok.branch [ then-ok w ↦ w.result-is ∙ read_small x.sig (omega (arith, c.requires.0.few)) | else-ok w ↦ cc ] in
    subst (λ (z : ℤ). Holds (limited_near (worth x)) (record { sig = z; exp = x.exp })) (sym kept)
    (limit_near_fits x c.requires.0 (sym c.fits-ok.ensures ∙ c.if-ok-2.true))

pub returns-else-ok-2 : goal.returns-else-ok-2
returns-else-ok-2 c =
    let x = c.args.x in
    let lost : to_z w64 c.if-ok.result-bits ≡ negsuc 8388607 = elim c.if-ok.branch [ then-ok w ↦ cc | else-ok w ↦ w.result-is ] in
    subst (λ (z : ℤ). Holds (limited_near (worth x)) (record { sig = z; exp = 2000 })) (sym lost)
    (limit_near_over x c.requires.0 (sym c.fits-ok.ensures ∙ c.if-ok-2.false))
