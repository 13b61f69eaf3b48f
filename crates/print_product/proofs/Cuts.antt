-- What is printed depends on the first 32,802 bytes alone: more only makes a sheet too long. Assumes nothing.
use mathlib.Core.Path.{◌≡◌, refl, sym, ap, ap₂, ◌∙◌}
use mathlib.Core.Bool.{Bool, true, false}
use mathlib.Core.List.{List, [], ◌∷◌}
use Prim.Native.Nat.{ℕ, ◌+◌, ◌*◌, ◌≤◌, ◌<◌, min}
use native.Mathlib.Omega.{arith}
use lib.Dec.{leb}
use lib.ListN.{length, take, drop, length-drop}
use lib.Seq.{take_all, take-take, get_or-take, length-take-le}
use borrow.Author.Tests.{leb-true, leb-false}
use Rattle.refusals.specs.declared.reason.Reason.TheVariants.{WrongLayout}
use Rattle.refusals.specs.declared.Refusal.{Refusal}
use Rattle.refusals.specs.Refusal.{of_matrix, named}
use Rattle.refusals.specs.Answer.{refuses, refuse, then, and_then}
use Rattle.sheets.specs.Layout.{u16_at, count_of}
use Rattle.sheets.specs.Reading.{read_of}
use Rattle.sheets.specs.Cut.{first_length}
use Rattle.sheets.proofs.Frames.{unframed_long}
use Rattle.sheets.proofs.Cuts.{length_long}
use Rattle.matrices.specs.Checks.{check_method}
use Rattle.job.specs.Factor.{sheet_read, read_as}
use Rattle.job.specs.Fold.{step_of, fold_from, sheets_product}
use Rattle.job.specs.Job.{job_product}
use Rattle.print_product.specs.Input.{digit_value, sheet_a, sheet_b}
use Rattle.print_product.specs.Printed.{answer_text, sheets_text, printed_of}

-- ---- a sheet of more than 16,400 bytes is refused

too_long : (s : List ℕ) → 16400 < length s → sheet_read s ≡ refuse WrongLayout
unfolding read_of
too_long s h = rw (unframed_long s h)

-- ---- the answer where a sheet is refused does not depend on what comes after that sheet

module _ (method : ℕ) (x : Refusal) where
  first_refused : (a b : List ℕ) → sheet_read a ≡ refuses x → job_product method a b ≡ then (check_method method) (refuses (named 1 x))
  unfolding job_product sheets_product read_as
  first_refused a b e = rw e

  second_refused : (a b : List ℕ) → sheet_read b ≡ refuses x → job_product method a b ≡ then (check_method method) (and_then (read_as 1 a) (λ X. refuses (named 2 x)))
  unfolding job_product sheets_product fold_from step_of read_as
  second_refused a b e = rw e

-- ---- both sheets, cut

count_cut : (s : List ℕ) (n : ℕ) → 6 ≤ n → count_of (take n s) ≡ count_of s
unfolding u16_at
count_cut s n h = ap₂ (λ x y. x + 256 * y) (get_or-take n s 4 0 (omega arith)) (get_or-take n s 5 0 (omega arith))

module _ (method : ℕ) (s : List ℕ) (long : 32801 < length s) where
  cut_length : length (take 32801 s) ≡ 32801
  cut_length = length-take-le 32801 s (omega arith)

  first_cut : first_length (take 32801 s) ≡ min (16 * count_of s) 32801
  first_cut = sym (length_long (take 32801 s) (count_of s) (min (16 * count_of s) 32801) (omega (arith, cut_length)) (sym (count_cut s 32801 (omega arith))) (ap (min (16 * count_of s)) (sym cut_length)))

  first_whole : first_length s ≡ min (16 * count_of s) (length s)
  first_whole = sym (length_long s (count_of s) (min (16 * count_of s) (length s)) (omega arith) refl refl)

  cut : sheets_text method (take 32801 s) ≡ sheets_text method s
  unfolding sheets_text
  cut = go (leb (16 * count_of s) 16400) refl
    where
      go : (t : Bool) → leb (16 * count_of s) 16400 ≡ t → answer_text method (job_product method (sheet_a (take 32801 s)) (sheet_b (take 32801 s))) ≡ answer_text method (job_product method (sheet_a s) (sheet_b s))
      go true e =
          let k : ℕ = 16 * count_of s in
          let few : k ≤ 16400 = leb-true k 16400 e in
          let m : first_length (take 32801 s) ≡ k = first_cut ∙ omega arith in
          let n : first_length s ≡ k = first_whole ∙ omega arith in
          let same : take k (take 32801 s) ≡ take k s = take-take k 32801 s (omega arith) in
          let b : sheet_read (drop k (take 32801 s)) ≡ refuse WrongLayout = too_long (drop k (take 32801 s)) (omega (arith, length-drop k (take 32801 s), cut_length)) in
          let c : sheet_read (drop k s) ≡ refuse WrongLayout = too_long (drop k s) (omega (arith, length-drop k s)) in
          rw (m, n, same) (ap (answer_text method) (second_refused method (of_matrix WrongLayout 0) (take k s) (drop k (take 32801 s)) b ∙ sym (second_refused method (of_matrix WrongLayout 0) (take k s) (drop k s) c)))
      go false e =
          let k : ℕ = 16 * count_of s in
          let many : 16400 < k = leb-false k 16400 e in
          let m : length (sheet_a (take 32801 s)) ≡ first_length (take 32801 s) = length-take-le (first_length (take 32801 s)) (take 32801 s) (omega (arith, first_cut, cut_length)) in
          let n : length (sheet_a s) ≡ first_length s = length-take-le (first_length s) s (omega (arith, first_whole)) in
          ap (answer_text method)
          (first_refused method (of_matrix WrongLayout 0) (sheet_a (take 32801 s)) (sheet_b (take 32801 s)) (too_long (sheet_a (take 32801 s)) (omega (arith, m, first_cut)))
          ∙ sym (first_refused method (of_matrix WrongLayout 0) (sheet_a s) (sheet_b s) (too_long (sheet_a s) (omega (arith, n, first_whole)))))

sheets_cut : (method : ℕ) (s : List ℕ) → sheets_text method (take 32801 s) ≡ sheets_text method s
sheets_cut method s = go (leb (length s) 32801) refl
  where
    go : (t : Bool) → leb (length s) 32801 ≡ t → sheets_text method (take 32801 s) ≡ sheets_text method s
    go true e = ap (sheets_text method) (take_all 32801 s (leb-true (length s) 32801 e))
    go false e = cut method s (leb-false (length s) 32801 e)

-- ---- the whole input
pub printed_cut : (s : List ℕ) → printed_of (take 32802 s) ≡ printed_of s
unfolding printed_of
printed_cut [] = refl
printed_cut (x ∷ s) = sheets_cut (digit_value x) s
