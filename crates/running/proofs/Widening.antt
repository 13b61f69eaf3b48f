-- A cell that is widened by an amount not below zero has no fault: its bounds are numbers, in order. The fixed amounts and those of a load that is accepted
-- are such.
use mathlib.Core.Path.{◌≡◌, sym, subst}
use mathlib.Core.List.{List}
use Prim.Native.Nat.{ℕ, ◌≤◌, ◌<◌}
use native.Mathlib.Omega.{arith}
use lib.Dec.{leb}
use lib.IntN.{pos}
use borrow.Author.Tests.{leb-true}
use Rattle.algebra.specs.Order.{◌≼◌}
use Rattle.algebra.proofs.Natural.{of_le}
use Rattle.refusals.specs.declared.reason.Reason.TheVariants.{UnknownClass}
use Rattle.refusals.specs.Answer.{gives, done, unless}
use Rattle.refusals.proofs.Answers.{gives_injective, then_tells, unless_tells}
use Rattle.binary32.specs.Number.{value_of}
use Rattle.intervals.specs.Conversion.{fault_of}
use Rattle.intervals.proofs.Back.{outward_fine}
use Rattle.intervals.proofs.Faults.{fine_tells}
use Rattle.sheets.specs.Wear.{fixed_amounts, amount_in}
use Rattle.sheets.specs.Load.{patterns_of, load_fault, load_of}
use Rattle.sheets.specs.Cell.{widened_of}
use Rattle.sheets.proofs.Amounts.{amount_right, table_is}
use Rattle.sheets.proofs.Bounding.{worn_tells, widened_tells}
use Rattle.sheets.proofs.Valid.{accepted_is}
use Rattle.running.specs.declared.cell.Gauged.{Gauged}
use Rattle.running.specs.Gauged.{gauged_of}

-- none of the eight amounts is below zero
abbrev pub NotBelow : List ℕ → Type 0
NotBelow amounts = (c : ℕ) → c < 8 → pos 0 ≼ value_of (amount_in amounts c)

pub fixed_not_below : NotBelow fixed_amounts
fixed_not_below = subst NotBelow table_is (λ c h. subst (λ v. pos 0 ≼ v) (sym (amount_right c h)) (of_le (omega arith)))

-- the first is zero, and they rise
pub load_not_below : (load amounts : List ℕ) → load_of load ≡ gives amounts → NotBelow amounts
unfolding load_of
load_not_below load amounts e =
    let f = then_tells (load_fault load) (gives (patterns_of load)) amounts e in
    let v = ((accepted_is load).0 f.0.1).1 in
    subst NotBelow (gives_injective f.1) (λ c h. subst (λ z. z ≼ value_of (amount_in (patterns_of load) c)) v.first.1 (v.rises 0 c (omega arith) h))

widened_fine : (a b w : ℕ) (x : ℕ × ℕ) → pos 0 ≼ value_of w → widened_of a b w ≡ gives x → fault_of x.0 x.1 ≡ done
widened_fine a b w x p e =
    let t = widened_tells a b w x e in
    sym (outward_fine a b w x.0 x.1 t.1 (fine_tells a b (worn_tells a b w t.0).1).order p)

pub gauged_fine : (amounts : List ℕ) (g : Gauged) (x : ℕ × ℕ) → NotBelow amounts → gauged_of amounts g ≡ gives x → fault_of x.0 x.1 ≡ done
unfolding gauged_of
gauged_fine amounts g x n e =
    let t = then_tells (unless (leb g.class 7) UnknownClass) _ x e in
    let h : g.class ≤ 7 = leb-true g.class 7 (unless_tells _ _ t.0.1) in
    widened_fine g.lower g.upper _ x (n g.class (omega arith)) t.1
