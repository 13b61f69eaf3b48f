-- Laws of a train: the count, the sheets in the buffer, and the product by its checks. Assumes nothing.
use mathlib.Core.Path.{◌≡◌, sym, ap, ap₂, ◌∙◌}
use mathlib.Core.List.{List, ◌∷◌}
use Prim.Native.Nat.{ℕ, suc, ◌-◌, ◌≤◌}
use native.Mathlib.Omega.{arith}
use lib.Dec.{leb}
use lib.ListN.{length, take, drop}
use borrow.Author.Tests.{leb-true}
use Rattle.refusals.specs.declared.reason.Reason.TheVariants.{WrongCount}
use Rattle.refusals.specs.declared.Refusal.{Refusal}
use Rattle.refusals.specs.Refusal.{of_matrix}
use Rattle.refusals.specs.Answer.{Answer, gives, refuses, done, then}
use Rattle.refusals.proofs.Answers.{unless_tells, and_tells, then_then, then_tells}
use Rattle.sheets.proofs.Cuts.{rest_is}
use Rattle.matrices.specs.Checks.{check_method}
use Rattle.job.specs.Factor.{Factor, read_as}
use Rattle.job.specs.Fold.{fold_from, sheets_product}
use Rattle.job.specs.Train.{check_count, next_length, sheets_in, train_product}
use Rattle.job.proofs.Folds.{product_unread, product_goes}
use Rattle.job.proofs.Sizes.{Small, product_small}

-- ---- refusal 12
count_tells : (n : ℕ) → check_count n ≡ done → (1 ≤ n) × (n ≤ 8)
unfolding check_count
count_tells n e =
    let t = and_tells (leb 1 n) (leb n 8) (unless_tells _ (of_matrix WrongCount 0) e) in
    (leb-true 1 n t.0, leb-true n 8 t.1)

-- ---- the next sheet
-- n + 1 sheets: the next one, of k bytes, and n others behind it
pub sheets_next : (m n k : ℕ) (s : List ℕ) → m ≡ suc n → k ≡ next_length n s → sheets_in m s ≡ take k s ∷ sheets_in n (drop k s)
unfolding sheets_in
sheets_next m n k s e f = rw (e, f)

-- ---- 9, 12, then the sheets

pub checks_done : (method count : ℕ) → check_method method ≡ done → check_count count ≡ done → then (check_method method) (check_count count) ≡ done
checks_done method count e f = ap₂ then e f

pub checks_count : (method count : ℕ) → then (check_method method) (check_count count) ≡ done → (1 ≤ count) × (count ≤ 8)
checks_count method count e = count_tells count (then_tells (check_method method) (check_count count) tt e).1

pub others_are : (method count : ℕ) → then (check_method method) (check_count count) ≡ done → count ≡ suc (count - 1)
others_are method count e = omega (arith, (checks_count method count e).0)

-- by the answer a on both checks
pub train_by : (method count : ℕ) (s : List ℕ) {a : Answer (Unit {0})} → then (check_method method) (check_count count) ≡ a
    → then a (sheets_product method 9 (sheets_in count s)) ≡ train_product method count s
unfolding train_product
train_by method count s e = sym (then_then (check_method method) (check_count count) _ ∙ ap (λ a. then a (sheets_product method 9 (sheets_in count s))) e)

pub train_tells : (method count : ℕ) (s : List ℕ) (F : Factor) → train_product method count s ≡ gives F → sheets_product method 9 (sheets_in count s) ≡ gives F
unfolding train_product
train_tells method count s F e = (then_tells (check_count count) _ F (then_tells (check_method method) _ F e).1).1

-- the first sheet, of k bytes
module _ (method count : ℕ) (s : List ℕ) (others k : ℕ) (c : then (check_method method) (check_count count) ≡ done) (e : count ≡ suc others) (f : k ≡ next_length others s) where
  first_is : sheets_product method 9 (take k s ∷ sheets_in others (drop k s)) ≡ train_product method count s
  first_is = ap (sheets_product method 9) (sym (sheets_next count others k s e f)) ∙ train_by method count s c

  pub train_unread : {x : Refusal} → refuses x ≡ read_as 1 (take k s) → refuses x ≡ train_product method count s
  train_unread h = product_unread method 9 (take k s) (sheets_in others (drop k s)) h ∙ first_is

  pub train_goes : {X : Factor} → gives X ≡ read_as 1 (take k s) → fold_from method 9 2 X (sheets_in others (take (length s - k) (drop k s))) ≡ train_product method count s
  train_goes {X} h =
      ap (λ r. fold_from method 9 2 X (sheets_in others r)) (rest_is s k) ∙ product_goes method 9 (take k s) (sheets_in others (drop k s)) h ∙ first_is

pub train_small : (method count : ℕ) (s : List ℕ) (Z : Factor) → train_product method count s ≡ gives Z → Small Z
train_small method count s Z e = product_small method 9 (sheets_in count s) Z (train_tells method count s Z e)
