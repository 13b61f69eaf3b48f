-- Laws of `fault_of`: its answer by the order of two numbers; and what a pair of bounds without a fault is. Assumes nothing.
use mathlib.Core.Path.{◌≡◌, refl, sym, ap₂}
use mathlib.Core.Bool.{Bool, true, false, cond}
use Prim.Native.Nat.{ℕ}
use Rattle.algebra.specs.Order.{◌≼◌}
use Rattle.rounding.specs.Format.{binary32, Num}
use Rattle.refusals.specs.declared.reason.Reason.TheVariants.{NotFinite, Crossed}
use Rattle.refusals.specs.Answer.{Judged, refuses, done}
use Rattle.refusals.proofs.Answers.{not_both}
use Rattle.binary32.specs.Number.{value_of, finite, finites}
use Rattle.binary32.specs.Order.{at_most}
use Rattle.binary32.proofs.Orders.{at_most_tells}
use Rattle.binary32.proofs.Held.{and_first, and_second, finite_is, value_num}
use Rattle.intervals.specs.Conversion.{fault_of}

-- ---- by the two tests: are both numbers, and are they in order
abbrev by_tests : Bool → Bool → Judged (Unit {0})
by_tests s t = cond s (cond t done (refuses Crossed)) (refuses NotFinite)

module _ (lo hi : ℕ) where
  pub fault_by_order : (t : Bool) → finites lo hi ≡ true → at_most lo hi ≡ t → cond t done (refuses Crossed) ≡ fault_of lo hi
  unfolding fault_of
  fault_by_order t e f = sym (ap₂ by_tests e f)

-- two numbers in order
pub record Ordered (lo hi : ℕ) : Type 0 where
  pub both : finites lo hi ≡ true
  pub low_num : Num binary32 (value_of lo)
  pub high_num : Num binary32 (value_of hi)
  pub order : value_of lo ≼ value_of hi

pub fine_tells : (lo hi : ℕ) → fault_of lo hi ≡ done → Ordered lo hi
unfolding fault_of
fine_tells lo hi e = go (finites lo hi) (at_most lo hi) refl refl e
  where
    ordered : finites lo hi ≡ true → at_most lo hi ≡ true → Ordered lo hi
    ordered s t =
        record {
          both = s;
          low_num = value_num lo (finite_is lo (and_first (finite lo) (finite hi) s));
          high_num = value_num hi (finite_is hi (and_second (finite lo) (finite hi) s));
          order = at_most_tells lo hi t;
        }

    go : (s t : Bool) → finites lo hi ≡ s → at_most lo hi ≡ t → by_tests s t ≡ done → Ordered lo hi
    go true true p q e = ordered p q
    go true false p q e = absurd (not_both e)
    go false t p q e = absurd (not_both e)
