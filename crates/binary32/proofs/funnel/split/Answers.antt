-- `binary32::funnel::split` meets its contract: the shift is down, and one more where its test says so is up and nearest (`ups_is`, `nears_is`).
use mathlib.Core.Path.{◌≡◌, refl, ap, ◌∙◌}
use Prim.Native.Nat.{ℕ, ◌*◌, ◌%◌, ◌^◌}
use lib.Pow.{pow_pos}
use lib.IntN.{ℤ, nat_abs}
use mir.Syntax.{w64}
use mir.ValLaws.{to_z-of_z}
use Rattle.rounding.specs.Quotient.{rem}
use Rattle.binary32.proofs.Rests.{floor_read, more_read, ups_is, nears_is, shifted}
use Rattle.binary32.proofs.funnel.split.Goals as goal

pub returns : goal.returns
returns c =
    let w = c.args.w in
    let m : ℕ = 2 ^ c.args.n in
    let floor = floor_read w m c.requires.0 c.ranges.w in
    let more = more_read w m c.requires.0 c.ranges.w in
    let rest : c.rest-r.result ≡ rem w m = c.rest-r.ensures ∙ ap (λ (t : ℤ). rem t m) (to_z-of_z w64 w c.ranges.w) in
    record {
      downs = floor;
      ups = ups_is w _ _ m _ (pow_pos c.args.n) refl rest (more c.from.result _ c.from.ensures);
      nears =
          nears_is w _ _ m (1 * m % 2 ^ 64) _ _ (pow_pos c.args.n) (shifted c.args.n c.requires.1) refl rest
          (c.unsigned_abs-odd.ensures.value ∙ ap nat_abs floor) (more c.from-2.result _ c.from-2.ensures);
      shifts = refl;
    }
