-- A pair of cells added to the sums of an entry: sums and cells without a fault, and the answer from the running sums after the step.
use mathlib.Core.Path.{◌≡◌, refl, sym, ap}
use mathlib.Core.Bool.{Bool, true}
use Rattle.std.specs.Prelude.{Some, None}
use Prim.Native.Nat.{ℕ}
use Rattle.rounding.specs.Format.{binary32}
use Rattle.enclosure.specs.Arithmetic.{of}
use Rattle.enclosure.specs.RunningSums.{add_pair}
use Rattle.refusals.specs.declared.reason.Reason.TheVariants.{NotFinite, TooLarge}
use Rattle.refusals.specs.Answer.{Judged, gives, refuses, done}
use Rattle.refusals.proofs.Answers.{then_gives, then_tells, unless_tells}
use Rattle.binary32.specs.Number.{finites, pattern_of}
use Rattle.intervals.specs.Conversion.{fault_of}
use Rattle.products.specs.declared.sums.Sums.{Sums}
use Rattle.products.specs.Classical.{pattern_cell}
use Rattle.products.specs.Running.{HoldsRange, bounds_of}
use Rattle.products.specs.Pair.{range_of, range_answer, pair_fault, pair_added}

module _ (s a b : ℕ × ℕ) where
  abbrev first : Judged (Unit {0})
  first = fault_of a.0 a.1

  abbrev second : Judged (Unit {0})
  second = fault_of b.0 b.1

  abbrev numbers : Bool
  numbers = finites s.0 s.1

  pub faultless : first ≡ done → second ≡ done → numbers ≡ true → pair_fault s a b ≡ done
  unfolding pair_fault
  faultless e f g = rw (e, f, g) refl

  -- sums and cells without a fault
  pub record Faultless : Type 0 where
    pub a_fine : first ≡ done
    pub b_fine : second ≡ done
    pub sums_fine : numbers ≡ true

  pub fault_tells : pair_fault s a b ≡ done → Faultless
  unfolding pair_fault
  fault_tells e =
      let t = then_tells first _ tt e in
      let u = then_tells second _ tt t.1 in
      record { a_fine = t.0.1; b_fine = u.0.1; sums_fine = unless_tells numbers NotFinite u.1 }

  -- r holds the sums with the pair added; where it is none, they are refused
  module _ (e : pair_fault s a b ≡ done) where
    pub added_refused : HoldsRange (add_pair (of binary32) (range_of s) (pattern_cell a.0 a.1) (pattern_cell b.0 b.1)) None → refuses TooLarge ≡ pair_added s a b
    unfolding pair_added
    added_refused h = then_gives _ tt _ _ e (ap range_answer (sym h))

    pub added_given : (r : Sums) → HoldsRange (add_pair (of binary32) (range_of s) (pattern_cell a.0 a.1) (pattern_cell b.0 b.1)) (Some r)
        → gives (pattern_of (bounds_of r).lower, pattern_of (bounds_of r).upper) ≡ pair_added s a b
    unfolding pair_added
    added_given r h = then_gives _ tt _ _ e (ap range_answer (sym h))
