-- The sheet that was written, read back: no value of the product is changed. Assumes nothing.
use mathlib.Core.Path.{◌≡◌, refl, sym, ap, ap₂, ◌∙◌}
use mathlib.Core.List.{List, ◌++◌}
use Prim.Native.Nat.{ℕ, zero, suc, ◌+◌, ◌*◌, ◌≤◌, ◌<◌}
use native.Mathlib.Omega.{arith}
use lib.ListN.{length, get_or, take, replicate, length-replicate, get_or-append}
use Rattle.enclosure.specs.Methods.{Range}
use Rattle.refusals.specs.Answer.{gives, done}
use Rattle.binary32.specs.Number.{value_of}
use Rattle.intervals.specs.Conversion.{fault_of}
use Rattle.sheets.specs.declared.chain.Cell.{Cell}
use Rattle.sheets.specs.Cell.{canonical_of}
use Rattle.sheets.specs.Layout.{rows_of, columns_of}
use Rattle.sheets.specs.Reading.{sizes, cell_lower, cell_upper, matrix_of, slice_after}
use Rattle.sheets.specs.Writing.{write_of}
use Rattle.sheets.specs.Trip.{canonicals, ReadsBack, TripOf}
use Rattle.sheets.proofs.Answers.{done_tells}
use Rattle.sheets.proofs.Bounding.{fine_finite}
use Rattle.sheets.proofs.Exact.{canonical_value}
use Rattle.sheets.proofs.Putting.{matrix_length}
use Rattle.sheets.proofs.Rooms.{bytes_tell}
use Rattle.matrices.proofs.Places.{below}
use Rattle.job.specs.Factor.{Factor, matrix_in, sheet_read}
use Rattle.job.specs.Demand.{range_in}

-- ---- the cells that are read back, by position
canonical_length : (l : List ℕ) (n p : ℕ) → length (canonicals l n p) ≡ n
unfolding canonicals
canonical_length l zero p = refl
canonical_length l (suc n) p = ap suc (canonical_length l n (p + 1))

canonical_at : (l : List ℕ) (n p q : ℕ) → q < n → get_or (canonicals l n p) q 0 ≡ canonical_of (get_or l (p + q) 0)
unfolding canonicals
canonical_at l zero p q h = absurd (omega arith)
canonical_at l (suc n) p zero h = ap (λ (k : ℕ). canonical_of (get_or l k 0)) (omega arith)
canonical_at l (suc n) p (suc q) h = canonical_at l n (p + 1) q (omega arith) ∙ ap (λ (k : ℕ). canonical_of (get_or l k 0)) (omega arith)

back_at : (l m : List ℕ) (n q : ℕ) → q < n → get_or (canonicals l n 0 ++ m) q 0 ≡ canonical_of (get_or l q 0)
back_at l m n q h =
    get_or-append (canonicals l n 0) m 0 q (omega (arith, canonical_length l n 0))
    ∙ canonical_at l n 0 q h ∙ ap (λ (k : ℕ). canonical_of (get_or l k 0)) (omega arith)

-- ---- the sheet s has the values of F
pub record Back (F : Factor) (s : List ℕ) : Type 0 where
  pub answer : sheet_read s ≡ gives (sizes F.rows F.columns)
  pub rows : rows_of s ≡ F.rows
  pub columns : columns_of s ≡ F.columns
  pub ranges : (i j : ℕ) → i < F.rows → j < F.columns → range_in (matrix_in s) i j ≡ range_in F i j

module _ (F : Factor) (room n : ℕ) (e : write_of F.rows F.columns F.lowers F.uppers room ≡ gives n) (out : List ℕ)
    (t : TripOf F.rows F.columns F.lowers F.uppers (gives n) out) where
  abbrev s : List ℕ
  s = take n out

  abbrev cells : ℕ
  cells = F.rows * F.columns

  abbrev array : List ℕ
  array = replicate 1024 0

  few : cells ≤ length array
  few = omega (arith, (bytes_tell F.rows F.columns F.lowers F.uppers room n e).few, length-replicate {A = ℕ} 1024 0)

  trip : ReadsBack F.rows F.columns F.lowers F.uppers s array array
  trip = t array array few few

  finite_at : (q : ℕ) → q < cells → fault_of (get_or F.lowers q 0) (get_or F.uppers q 0) ≡ done
  finite_at = (bytes_tell F.rows F.columns F.lowers F.uppers room n e).fine

  -- one of the two bounds at q
  bound_back : (b : Cell → ℕ) (l m : List ℕ) (q : ℕ) → q < cells → length (matrix_of b s) ≡ cells → slice_after b s (gives (sizes F.rows F.columns)) array ≡ canonicals l cells 0 ++ m
      → get_or (matrix_of b s) q 0 ≡ canonical_of (get_or l q 0)
  unfolding slice_after
  bound_back b l m q h k f = sym (get_or-append (matrix_of b s) _ 0 q (omega arith)) ∙ ap (λ x. get_or x q 0) f ∙ back_at l m cells q h

  pub back : Back F s
  back =
      let d = done_tells s 1024 1024 F.rows F.columns trip.answer in
      let size : rows_of s * columns_of s ≡ cells = ap₂ ◌*◌ d.rows d.columns in
      record {
        answer = trip.answer;
        rows = d.rows;
        columns = d.columns;
        ranges = λ i j hi hj.
            let q = i * F.columns + j in
            let h : q < cells = below i F.rows j F.columns hi hj in
            let f = fine_finite (get_or F.lowers q 0) (get_or F.uppers q 0) (finite_at q h) in
            let place : i * columns_of s + j ≡ q = ap (λ k. i * k + j) d.columns in
            range_is
            (ap (λ k. value_of (get_or (matrix_of cell_lower s) k 0)) place ∙ ap value_of (bound_back cell_lower F.lowers _ q h (matrix_length cell_lower s ∙ size) trip.lowers)
            ∙ canonical_value (get_or F.lowers q 0) f.0)
            (ap (λ k. value_of (get_or (matrix_of cell_upper s) k 0)) place ∙ ap value_of (bound_back cell_upper F.uppers _ q h (matrix_length cell_upper s ∙ size) trip.uppers)
            ∙ canonical_value (get_or F.uppers q 0) f.1);
      }
    where
      range_is : {l u l' u' : _} → l ≡ l' → u ≡ u' → ◌≡◌ {A = Range} (record { lower = l; upper = u }) (record { lower = l'; upper = u' })
      range_is p q = rw (p, q)
