-- `intervals::to_midrad` meets its contract: each return is a case of the definition.
use mathlib.Core.Path.{ap₂, sym, ◌∙◌, subst₂}
use Prim.Native.Nat.{ℕ}
use Rattle.refusals.specs.Answer.{gives}
use Rattle.refusals.proofs.Answers.{then_gives}
use Rattle.intervals.specs.Conversion.{midrad_of, OptimalFor}
use Rattle.intervals.proofs.Faults.{fine_tells}
use Rattle.intervals.proofs.Converting.{mid_rounded, optimal_of}
use Rattle.intervals.proofs.to_midrad.Goals as goal

pub radius-requires : goal.radius-requires
radius-requires c =
    let fine = sym c.check.ensures ∙ c.in_ok-check.was in
    let lo = c.args.lo in
    let hi = c.args.hi in
    (fine, c.near_up-mid.ensures.nears ∙ mid_rounded lo hi (fine_tells lo hi fine), c.near_up-mid.ensures.ups)

pub returns : goal.returns
unfolding midrad_of
returns c =
    let fine = sym c.check.ensures ∙ c.in_ok-check.was in
    let lo = c.args.lo in
    let hi = c.args.hi in
    let o = fine_tells lo hi fine in
    let mid = c.near_up-mid.ensures.nears ∙ mid_rounded lo hi o in
    let rad = c.radius.ensures in record {
      answer = then_gives _ _ _ _ fine (ap₂ (λ (x y : ℕ). gives (x, y)) mid rad);
      optimal = subst₂ (λ (x y : ℕ). OptimalFor lo hi (gives (x, y))) (sym mid) (sym rad) (optimal_of lo hi o);
    }
