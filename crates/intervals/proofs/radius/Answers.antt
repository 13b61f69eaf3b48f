-- `intervals::radius` meets its contract: the difference from the farther bound is the radius (`rad_from_lower`, `rad_from_upper`).
use mathlib.Core.Path.{sym, ap, ◌∙◌}
use Rattle.rounding.specs.Rounding.{up}
use Rattle.binary32.specs.Number.{hold_up}
use Rattle.binary32.specs.Operations.{sub, with₂}
use Rattle.intervals.proofs.Faults.{fine_tells}
use Rattle.intervals.proofs.Converting.{rad_from_lower, rad_from_upper}
use Rattle.intervals.proofs.radius.Goals as goal

pub returns-then-mid : goal.returns-then-mid
returns-then-mid c =
    let lo = c.args.lo in
    let hi = c.args.hi in
    c.sub.ensures ∙ ap (λ m. hold_up (with₂ (sub up) m lo)) c.requires.1
    ∙ rad_from_lower lo hi (fine_tells lo hi c.requires.0) (sym c.requires.1 ∙ c.if-mid.true ∙ c.requires.2)

pub returns : goal.returns
returns c =
    let lo = c.args.lo in
    let hi = c.args.hi in
    c.sub-2.ensures ∙ ap (λ m. hold_up (with₂ (sub up) hi m)) c.requires.1
    ∙ rad_from_upper lo hi (fine_tells lo hi c.requires.0) (λ e. c.if-mid.false (c.requires.1 ∙ e ∙ sym c.requires.2))
