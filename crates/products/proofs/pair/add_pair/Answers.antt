-- `products::pair::add_pair` meets its contract: a step on the sums of the patterns, where neither they nor the cells have a fault.
use mathlib.Core.Path.{◌≡◌, sym, ap₂, subst, ◌∙◌}
use Prim.Native.Nat.{ℕ}
use Rattle.std.specs.Prelude.{Option as Maybe, Some, None}
use Rattle.rounding.specs.Format.{binary32}
use Rattle.enclosure.specs.Arithmetic.{of}
use Rattle.enclosure.specs.RunningSums.{add_pair}
use Rattle.refusals.specs.Answer.{gives, done}
use Rattle.products.specs.declared.apart.Apart.{Apart}
use Rattle.products.specs.declared.sums.Sums.{Sums}
use Rattle.products.specs.Apart.{IsApart}
use Rattle.products.specs.Classical.{apart_cell, pattern_cell}
use Rattle.products.specs.Running.{HoldsRange, bounds_of}
use Rattle.products.specs.Pair.{range_of, pair_fault}
use Rattle.products.proofs.Pairs.{fine_taken, fine_cells, step_cells}
use Rattle.products.proofs.AddedPair.{fault_tells, added_refused, added_given}
use Rattle.products.proofs.pair.add_pair.Goals as goal

pub of_bounds-requires : goal.of_bounds-requires
of_bounds-requires c = (fault_tells _ _ _ (sym c.pair_fault.ensures ∙ c.in_ok-pair_fault.was)).sums_fine

pub step-requires : goal.step-requires
step-requires c =
    let f = fault_tells _ _ _ (sym c.pair_fault.ensures ∙ c.in_ok-pair_fault.was) in
    fine_cells _ _ _ _ c.new.result (fine_taken _ _ c.new.result f.a_fine c.new.ensures) f.b_fine

-- what the step gives, from what its calls promise
holds : (s a b : ℕ × ℕ) (t : Sums) (r : Maybe Sums) (p : Apart) → pair_fault s a b ≡ done → IsApart a.0 a.1 p → bounds_of t ≡ range_of s
    → HoldsRange (add_pair (of binary32) (bounds_of t) (apart_cell p) (pattern_cell b.0 b.1)) r → HoldsRange (add_pair (of binary32) (range_of s) (pattern_cell a.0 a.1) (pattern_cell b.0 b.1)) r
holds s a b t r p e i k h =
    step_cells a.0 a.1 (pattern_cell b.0 b.1) p (fine_taken a.0 a.1 p (fault_tells s a b e).a_fine i) (range_of s) r
    (subst (λ x. HoldsRange (add_pair (of binary32) x (apart_cell p) (pattern_cell b.0 b.1)) r) k h)

pub returns-in_default : goal.returns-in_default
returns-in_default c =
    let e = sym c.pair_fault.ensures ∙ c.in_ok-pair_fault.was in
    added_refused _ _ _ e (holds _ _ _ c.of_bounds.result None _ e c.new.ensures c.of_bounds.ensures c.in_default.ensures)

pub returns : goal.returns
returns c =
    let e = sym c.pair_fault.ensures ∙ c.in_ok-pair_fault.was in
    ap₂ (λ (l u : ℕ). gives (l, u)) c.lower.ensures c.upper.ensures
    ∙ added_given _ _ _ e c.in-Some.s (holds _ _ _ c.of_bounds.result (Some c.in-Some.s) _ e c.new.ensures c.of_bounds.ensures c.in-Some.ensures)
