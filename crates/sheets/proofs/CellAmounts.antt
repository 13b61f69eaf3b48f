-- Laws of a cell's wear amount: its definitions by their tests, and what they tell. Assumes nothing.
use mathlib.Core.Path.{◌≡◌, refl, sym, ap, ap₂, ◌∙◌}
use mathlib.Core.Bool.{Bool, true, false, cond, not}
use mathlib.Core.List.{List}
use Prim.Native.Nat.{ℕ, suc, ◌-◌, ◌%◌, ◌^◌, ◌≤◌, ◌<◌}
use native.Mathlib.Omega.{arith}
use lib.Dec.{leb, ltb}
use lib.IntN.{pos}
use lib.Signed.{le_z}
use borrow.Author.Tests.{le-leb, lt-leb, leb-true, ltb-false, ltb-true}
use Rattle.refusals.specs.declared.reason.Reason.TheVariants.{WrongLayout, UnknownClass, NegativeAmount}
use Rattle.refusals.specs.declared.Refusal.{Refusal}
use Rattle.refusals.specs.Refusal.{of_cell}
use Rattle.refusals.specs.Answer.{Answer, gives, refuses, done, refuse, unless}
use Rattle.refusals.proofs.Answers.{gives_injective, not_both, then_gives, then_refuses, then_tells, unless_tells}
use Rattle.binary32.specs.Number.{signed_by, finite}
use Rattle.binary32.specs.Order.{key_of, at_most}
use Rattle.binary32.proofs.Orders.{key_order}
use Rattle.sheets.specs.declared.amount.Kind.{Kind}
use Rattle.sheets.specs.declared.amount.Kind.TheVariants.{Classes, Amounts}
use Rattle.sheets.specs.declared.layout.Record.{Record}
use Rattle.sheets.specs.Amount.{below_zero, check_wear, wear_amount, cell_amount}

-- ---- a number below zero: a pattern above that of minus zero

module _ (p : ℕ) where
  -- zero and p, by the sign bit and the rest of p
  zero_order : (t : Bool) (m : ℕ) → leb (2 ^ 31) p ≡ t → p % 2 ^ 31 ≡ m → le_z (pos 0) (signed_by t m) ≡ at_most 0 p
  unfolding key_of
  zero_order t m e f = ap₂ (λ s n. le_z (pos 0) (signed_by s n)) (sym e) (sym f) ∙ key_order 0 p

  below_by : (t : Bool) → t ≡ at_most 0 p → cond (finite p) (not t) false ≡ below_zero p
  unfolding below_zero
  below_by t e = rw e

  pub not_below : p ≤ 2 ^ 31 → false ≡ below_zero p
  not_below h = none (finite p) ∙ below_by true (go (ltb p (2 ^ 31)) refl)
    where
      none : (t : Bool) → false ≡ cond t false false
      none true = refl
      none false = refl

      go : (t : Bool) → ltb p (2 ^ 31) ≡ t → true ≡ at_most 0 p
      go true e = sym (le-leb 0 (p % 2 ^ 31) (omega arith)) ∙ zero_order false (p % 2 ^ 31) (lt-leb (2 ^ 31) p (ltb-true p (2 ^ 31) e)) refl
      go false e = let k : 2 ^ 31 ≤ p = ltb-false p (2 ^ 31) e in zero_order true 0 (le-leb (2 ^ 31) p k) (omega arith)

  pub below : 2 ^ 31 < p → p < 2 ^ 32 → finite p ≡ below_zero p
  below h k = same (finite p) ∙ below_by false (zero_order true (suc (p % 2 ^ 31 - 1)) (le-leb (2 ^ 31) p (omega arith)) (omega arith))
    where
      same : (t : Bool) → t ≡ cond t true false
      same true = refl
      same false = refl

-- ---- the check of a wear, and its amount

class_fine : (r : Record) → check_wear Classes r ≡ done → r.wear ≤ 7
unfolding check_wear
class_fine r e = go (ltb 255 r.wear) e
  where
    go : (t : Bool) → ◌≡◌ {A = Answer (Unit {0})} (cond t (refuse WrongLayout) (unless (leb r.wear 7) (of_cell UnknownClass 0 r.row r.column))) done → r.wear ≤ 7
    go true h = absurd (not_both h)
    go false h = leb-true r.wear 7 (unless_tells _ _ h)

-- a class that passes is one of the eight
pub class_tells : (kind : Kind) (r : Record) → kind ≡ Classes → check_wear kind r ≡ done → r.wear ≤ 7
class_tells kind r k e = class_fine r (ap (λ (x : Kind). check_wear x r) (sym k) ∙ e)

-- ---- the amount of a record, or its refusal

module _ (kind : Kind) (amounts : List ℕ) (r : Record) where
  pub amount_given : check_wear kind r ≡ done → gives (wear_amount kind amounts r.wear) ≡ cell_amount kind amounts r
  unfolding cell_amount
  amount_given e = then_gives _ tt _ _ e refl

  pub amount_refused : (x : Refusal) → check_wear kind r ≡ refuses x → refuses x ≡ cell_amount kind amounts r
  unfolding cell_amount
  amount_refused x e = then_refuses _ _ x e

  pub amount_tells : (w : ℕ) → cell_amount kind amounts r ≡ gives w → (check_wear kind r ≡ done) × (wear_amount kind amounts r.wear ≡ w)
  unfolding cell_amount
  amount_tells w e = let t = then_tells (check_wear kind r) _ w e in (t.0.1, gives_injective t.1)

-- a record of the plain form: the amount zero in an amount sheet
pub plain_amount : (amounts : List ℕ) (r : Record) → r.wear ≡ 0 → cell_amount Amounts amounts r ≡ gives 0
unfolding check_wear wear_amount
plain_amount amounts r e =
    sym (amount_given Amounts amounts r (ap (λ (t : Bool). unless (not t) (of_cell NegativeAmount 0 r.row r.column)) (sym (not_below r.wear (omega arith)))))
    ∙ ap gives e
