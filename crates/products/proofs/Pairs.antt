-- The two cells of a pair by method 1: their bounds are numbers, a step on them, and the tests for a cell that is [0, 0].
use mathlib.Core.Path.{◌≡◌, sym, ap, ap₂, ◌∙◌, subst}
use mathlib.Core.Bool.{false}
use mathlib.Core.Logic.{⊎_elim}
use Prim.Native.Nat.{ℕ, ◌+◌, ◌^◌, ◌≤◌}
use native.Mathlib.Omega.{arith}
use native.Mathlib.Nat.{eq-zero-or-pos, zero-mul}
use lib.Dec.{ltb}
use lib.IntN.{pos, nat_abs, ◌*ℤ◌}
use borrow.Author.Tests.{ltb-false}
use Rattle.std.specs.Prelude.{Option as Maybe}
use Rattle.rounding.specs.Format.{binary32}
use Rattle.enclosure.specs.Arithmetic.{of}
use Rattle.enclosure.specs.Cell.{Cell}
use Rattle.enclosure.specs.Conversion.{cell_of}
use Rattle.enclosure.specs.Methods.{Range}
use Rattle.enclosure.specs.RunningSums.{add_pair}
use Rattle.refusals.specs.Answer.{done}
use Rattle.binary32.specs.Number.{value_of}
use Rattle.binary32.specs.Order.{magnitude_of}
use Rattle.binary32.proofs.Held.{finite_is, finites_first, finites_second}
use Rattle.intervals.specs.Conversion.{fault_of}
use Rattle.intervals.proofs.Faults.{fine_tells}
use Rattle.unpacked.specs.declared.Number.{Number}
use Rattle.unpacked.specs.Number.{worth, IsNumber}
use Rattle.unpacked.proofs.Worths.{worth_is, exp_some, exp_low}
use Rattle.unpacked.proofs.FarShifts.{nat_abs_zero}
use Rattle.unpacked.proofs.Multiplying.{unpacked_number}
use Rattle.unpacked.proofs.CornerTerms.{ZeroTerms, zero_value, zero_first, zero_second}
use Rattle.matrices.specs.Matrix.{Matrix, cell_at, lower_at, upper_at}
use Rattle.products.specs.declared.apart.Apart.{Apart}
use Rattle.products.specs.declared.sums.Sums.{Sums}
use Rattle.products.specs.Apart.{IsApart, Cells, lower_number, upper_number}
use Rattle.products.specs.Classical.{apart_cell, pattern_cell}
use Rattle.products.specs.Running.{HoldsRange}

-- the cell [lo, hi], taken apart
pub record Taken (lo hi : ℕ) (a : Apart) : Type 0 where
  pub lower : IsNumber (lower_number a) × (worth (lower_number a) ≡ value_of lo)
  pub upper : IsNumber (upper_number a) × (worth (upper_number a) ≡ value_of hi)

pub fine_taken : (lo hi : ℕ) (a : Apart) → fault_of lo hi ≡ done → IsApart lo hi a → Taken lo hi a
fine_taken lo hi a f i =
    let x = (fine_tells lo hi f).both in
    record {
      lower = unpacked_number lo (lower_number a) (finites_first lo hi x) i.lower;
      upper = unpacked_number hi (upper_number a) (finites_second lo hi x) i.upper;
    }

-- it and the cell [bl, bu]
pub fine_cells : (al au bl bu : ℕ) (a : Apart) → Taken al au a → fault_of bl bu ≡ done → Cells a bl bu
fine_cells al au bl bu a t f =
    let o = fine_tells bl bu f in
    record {
      a_lower = t.lower.0;
      a_upper = t.upper.0;
      b_lower = finite_is bl (finites_first bl bu o.both);
      b_upper = finite_is bu (finites_second bl bu o.both);
      b_order = o.order;
    }

-- a step that adds the two adds the cells of these patterns
pub step_cells : (al au : ℕ) (b : Cell) (a : Apart) → Taken al au a → (s : Range) (r : Maybe Sums)
    → HoldsRange (add_pair (of binary32) s (apart_cell a) b) r → HoldsRange (add_pair (of binary32) s (pattern_cell al au) b) r
step_cells al au b a t s r = subst (λ c. HoldsRange (add_pair (of binary32) s c b) r) (ap₂ (cell_of (of binary32)) t.lower.1 t.upper.1)

-- ---- a cell that is [0, 0], by the test of its exponents or of its patterns: its terms are 0

-- zero alone has the exponent 64
pub none_worth : (x : Number) → IsNumber x → x.exp ≤ 64 → worth x ≡ pos 0
none_worth x n h = worth_is x (pos 0) (ap (λ z. z *ℤ pos (2 ^ x.exp)) (nat_abs_zero x.sig none) ∙ ap pos (zero-mul (2 ^ x.exp)))
  where
    no : 376 ≤ x.exp → ⊥
    no l = omega arith

    none : nat_abs x.sig ≡ 0
    none = ⊎_elim (λ e. e) (λ p. absurd (no (exp_some x n.normal p))) (eq-zero-or-pos (nat_abs x.sig))

pub apart_zero : (A : Matrix) (p : ℕ) (a : Apart) (b : Cell) → Taken (lower_at A p) (upper_at A p) a → ltb 128 ((lower_number a).exp + (upper_number a).exp) ≡ false → ZeroTerms (cell_at A p) b
unfolding cell_at
apart_zero A p a b t f =
    let e = ltb-false 128 ((lower_number a).exp + (upper_number a).exp) f in
    let k = exp_low (lower_number a) t.lower.0.normal in
    let l = exp_low (upper_number a) t.upper.0.normal in
    zero_first (sym t.lower.1 ∙ none_worth (lower_number a) t.lower.0 (omega arith)) (sym t.upper.1 ∙ none_worth (upper_number a) t.upper.0 (omega arith))

pub patterns_zero : (B : Matrix) (q : ℕ) (a : Cell) → ltb 0 (magnitude_of (lower_at B q) + magnitude_of (upper_at B q)) ≡ false → ZeroTerms a (cell_at B q)
unfolding cell_at
patterns_zero B q a f =
    let e = ltb-false 0 (magnitude_of (lower_at B q) + magnitude_of (upper_at B q)) f in
    zero_second (zero_value (lower_at B q) (omega arith)) (zero_value (upper_at B q) (omega arith))
