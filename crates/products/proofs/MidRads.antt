-- Cells without a fault, converted into two lists: the lists hold midpoints and radii, and the entries from them are those of the matrices.
use mathlib.Core.Path.{◌≡◌, sym, ap, ap₂, ◌∙◌, subst}
use mathlib.Core.List.{List}
use Prim.Native.Nat.{ℕ, zero, suc, ◌+◌, ◌*◌, ◌/◌, ◌%◌, ◌≤◌, ◌<◌}
use native.Mathlib.Nat.{mul-zero, mod-lt, div-lt_iff_lt-mul}
use native.Mathlib.Omega.{arith}
use lib.IntN.{pos}
use lib.ListN.{length, get_or}
use Rattle.algebra.specs.Order.{◌≼◌}
use Rattle.rounding.specs.Format.{binary32}
use Rattle.enclosure.specs.Arithmetic.{of}
use Rattle.enclosure.specs.Methods.{Method, entry}
use Rattle.enclosure.proofs.Conversion.{cell_converted}
use Rattle.binary32.specs.Number.{value_of}
use Rattle.intervals.proofs.Converting.{mid_finite, rad_finite, mid_value, rad_value}
use Rattle.intervals.proofs.Faults.{Ordered, fine_tells}
use Rattle.matrices.specs.Lists.{front}
use Rattle.matrices.specs.Matrix.{Matrix, AllFine, lower_at, upper_at, cell_at, mid_at, rad_at}
use Rattle.products.specs.Derived.{MidRad, MidRads}
use Rattle.products.specs.MidRad.{mid_rad_at, entry_from}
use Rattle.matrices.specs.Entries.{entry_of, entry_at}
use Rattle.products.proofs.EntryExt.{ByMidRad, bare, entry_ext, entry_bare}
use Rattle.matrices.proofs.Fronts.{get_d_front, length_front}
use Rattle.matrices.proofs.Places.{below}

-- ---- a cell without a fault
module _ (X : Matrix) (c : ℕ) (o : Ordered (lower_at X c) (upper_at X c)) where
  mid_is : value_of (mid_at X c) ≡ (cell_at X c).mid
  unfolding cell_at
  mid_is = mid_value (lower_at X c) (upper_at X c) o

  rad_is : value_of (rad_at X c) ≡ (cell_at X c).rad
  unfolding cell_at
  rad_is = rad_value (lower_at X c) (upper_at X c) o

  rad_nonneg : pos 0 ≼ (cell_at X c).rad
  unfolding cell_at
  rad_nonneg = (cell_converted binary32 o.low_num o.high_num o.order).rad_nonneg

  mid_rad : MidRad (mid_at X c) (rad_at X c)
  mid_rad =
      record {
        mid = mid_finite (lower_at X c) (upper_at X c) o;
        rad = rad_finite (lower_at X c) (upper_at X c) o;
        nonneg = subst (λ v. pos 0 ≼ v) (sym rad_is) rad_nonneg;
      }

-- ---- the first count cells, converted into m and r
pub record Converted (X : Matrix) (count : ℕ) (m r : List ℕ) : Type 0 where
  pub mids : count ≤ length m
  pub rads : count ≤ length r
  pub fine : AllFine X count
  pub mid_at_is : (c : ℕ) → c < count → get_or m c 0 ≡ mid_at X c
  pub rad_at_is : (c : ℕ) → c < count → get_or r c 0 ≡ rad_at X c

pub converted_front : (X : Matrix) (count : ℕ) (m r m₀ r₀ : List ℕ) → AllFine X count → count ≤ length m₀ → count ≤ length r₀
    → m ≡ front count (mid_at X) m₀ → r ≡ front count (rad_at X) r₀ → Converted X count m r
converted_front X count m r m₀ r₀ fine hm hr em er =
    record {
      mids = rw (em, length_front (mid_at X) count m₀ hm) hm;
      rads = rw (er, length_front (rad_at X) count r₀ hr) hr;
      fine = fine;
      mid_at_is = λ c h. ap (λ (l : List ℕ). get_or l c 0) em ∙ get_d_front (mid_at X) count m₀ c h;
      rad_at_is = λ c h. ap (λ (l : List ℕ). get_or l c 0) er ∙ get_d_front (rad_at X) count r₀ c h;
    }

module _ {X : Matrix} {count : ℕ} {m r : List ℕ} (C : Converted X count m r) where
  ordered : (c : ℕ) → c < count → Ordered (lower_at X c) (upper_at X c)
  ordered c h = fine_tells (lower_at X c) (upper_at X c) (C.fine c h)

  pub mid_rads : MidRads count m r
  mid_rads = record { mids = C.mids; rads = C.rads; each = λ c h. rw (C.mid_at_is c h, C.rad_at_is c h) (mid_rad X c (ordered c h)) }

  cell_is : (c : ℕ) → c < count → bare (cell_at X c) ≡ mid_rad_at m r c
  cell_is c h =
      let mid : (cell_at X c).mid ≡ value_of (get_or m c 0) = sym (ap value_of (C.mid_at_is c h) ∙ mid_is X c (ordered c h)) in
      let rad : (cell_at X c).rad ≡ value_of (get_or r c 0) = sym (ap value_of (C.rad_at_is c h) ∙ rad_is X c (ordered c h)) in
      ap₂ (λ x y. record { low = pos 0; high = pos 0; mid = x; rad = y }) mid rad

-- ---- both matrices: m rows of A, n columns of B
module _ (m k n : ℕ) {A B : Matrix} {ma ra mb rb : List ℕ} (CA : Converted A (m * k) ma ra) (CB : Converted B (k * n) mb rb) (method : Method) (kind : ByMidRad method) where
  row_column : (i j : ℕ) → i < m → j < n
      → entry_of method k n A B i j ≡ entry (of binary32) method k (λ l. mid_rad_at ma ra (i * k + l)) (λ l. mid_rad_at mb rb (l * n + j))
  unfolding entry_of
  row_column i j hi hj =
      entry_bare (of binary32) method k (λ l. cell_at A (i * k + l)) (λ l. cell_at B (l * n + j)) kind
      ∙ entry_ext (of binary32) k _ _ _ _ (λ l h. cell_is CA (i * k + l) (below i m l k hi h)) (λ l h. cell_is CB (l * n + j) (below l k j n h hj)) method

  pub entries_from : (c : ℕ) → c < m * n → entry_from method k n ma ra mb rb c ≡ entry_at method k n A B c
  unfolding entry_from entry_at
  entries_from c h = sym (row_column (c / n) (c % n) (row n h) (column n h))
    where
      row : (n : ℕ) → c < m * n → c / n < m
      row zero l = let z : c < 0 = subst (λ t. c < t) (mul-zero m) l in absurd (omega arith)
      row (suc n) l = let p : 0 < suc n = omega arith in (div-lt_iff_lt-mul p).1 l

      column : (n : ℕ) → c < m * n → c % n < n
      column zero l = let z : c < 0 = subst (λ t. c < t) (mul-zero m) l in absurd (omega arith)
      column (suc n) l = let p : 0 < suc n = omega arith in mod-lt c p
