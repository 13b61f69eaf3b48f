-- The reader from before: it answers 6 to every amount sheet, so to every sheet that is written, and its rule for the head of a class sheet stands. Assumes nothing.
use mathlib.Core.Path.{◌≡◌, refl, sym, ap, ◌∙◌}
use mathlib.Core.Bool.{Bool, true, false, cond}
use mathlib.Core.List.{List}
use Prim.Native.Nat.{ℕ, ◌*◌, ◌≤◌}
use native.Mathlib.Omega.{arith}
use lib.Dec.{eqb}
use lib.ListN.{get_or}
use Rattle.refusals.specs.declared.reason.Reason.TheVariants.{WrongLayout}
use Rattle.refusals.specs.Refusal.{of_matrix}
use Rattle.refusals.specs.Answer.{Answer, refuse, unless, then}
use Rattle.sheets.specs.declared.amount.Kind.{Kind}
use Rattle.sheets.specs.declared.amount.Kind.TheVariants.{Classes, Amounts}
use Rattle.sheets.specs.declared.Sizes.{Sizes}
use Rattle.sheets.specs.AllFrom.{all_from}
use Rattle.sheets.specs.Kind.{byte_of, kind_of}
use Rattle.sheets.specs.Layout.{blank, whole, framed}
use Rattle.sheets.specs.Sheet.{sheet_of}
use Rattle.sheets.specs.Before.{framed_before, read_before}
use Rattle.sheets.proofs.RecordBack.{kind_back}

module _ (s : List ℕ) where
  -- byte 6, then the nine behind it
  head_by : (t : Bool) → eqb (get_or s 6 0) 0 ≡ t → cond (whole s) (cond t (blank s 7 9) false) false ≡ framed_before s
  unfolding all_from blank framed_before
  head_by t e = rw e

  amount_head : kind_of s ≡ Amounts → framed_before s ≡ false
  amount_head e = sym (head_by false (other (eqb (get_or s 6 0) 0) e)) ∙ go (whole s)
    where
      other : (t : Bool) → cond t Classes Amounts ≡ Amounts → t ≡ false
      other true h = let z : ◌≡◌ {A = ℕ} 0 1 = cc in absurd (omega arith)
      other false h = refl

      go : (t : Bool) → cond t false false ≡ false
      go true = refl
      go false = refl

  pub before_refuses : kind_of s ≡ Amounts → (next : Answer Sizes) → read_before s next ≡ refuse WrongLayout
  unfolding read_before
  before_refuses e next = ap (λ t. then (unless t (of_matrix WrongLayout 0)) next) (amount_head e)

  pub before_same : kind_of s ≡ Classes → framed_before s ≡ framed s
  unfolding framed
  before_same e =
      sym (head_by _ refl) ∙ ap (λ (k : Kind). cond (whole s) (cond (eqb (get_or s 6 0) (byte_of k)) (blank s 7 9) false) false) (sym e)

-- what was written
pub before_written : (rows columns : ℕ) (lo up : List ℕ) → rows * columns ≤ 1024 → (next : Answer Sizes) → read_before (sheet_of rows columns lo up) next ≡ refuse WrongLayout
before_written rows columns lo up few next = before_refuses (sheet_of rows columns lo up) (kind_back rows columns lo up few) next
