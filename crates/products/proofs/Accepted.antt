-- What the entries' functions ask for holds where the checks accepted.
use mathlib.Core.Path.{◌≡◌, sym, ap, subst}
use mathlib.Core.List.{List}
use Prim.Native.Nat.{ℕ, ◌*◌, ◌≤◌}
use native.Mathlib.Omega.{arith}
use lib.ListN.{length}
use Rattle.refusals.specs.Answer.{done}
use Rattle.matrices.specs.Lists.{front}
use Rattle.matrices.specs.Matrix.{AllFine, mid_at, rad_at}
use Rattle.products.specs.MidRad.{Sized}
use Rattle.products.specs.Written.{Sizes}
use Rattle.matrices.specs.Checks.{Given, check_of}
use Rattle.matrices.proofs.CheckTells.{Checked, checked_tells}
use Rattle.products.proofs.MidRads.{Converted, converted_front, mid_rads}

module _ (g : Given) (ok : check_of g ≡ done) where
  abbrev known : Checked g
  known = checked_tells g ok

  -- A's columns are B's rows
  pub inner : g.a_columns * g.b_columns ≡ g.b_rows * g.b_columns
  inner = ap (λ (k : ℕ). k * g.b_columns) known.sizes.inner

  within : (n : ℕ) → g.b_rows * g.b_columns ≤ n → g.a_columns * g.b_columns ≤ n
  within n h = omega (arith, inner)

  pub sizes : Sizes g.a_rows g.a_columns g.b_columns g.A g.B g.lowers g.uppers
  sizes =
      let s = known.sizes in
      let l = known.lengths in
      record {
        rows = s.a_rows_below;
        inner = s.a_columns_below;
        columns = s.b_columns_below;
        positive = s.b_columns_above;
        a_lowers = l.a_cells.0;
        a_uppers = l.a_cells.1;
        b_lowers = within _ l.b_cells.0;
        b_uppers = within _ l.b_cells.1;
        lowers = l.result.0;
        uppers = l.result.1;
        a_fine = known.a_fine;
        b_fine = subst (AllFine g.B) (sym inner) known.b_fine;
      }

  -- ---- methods 3, 4, 5 and 7

  -- what the two conversions ask for
  pub a_convertible :
      let n = g.a_rows * g.a_columns in
      (n ≤ length g.A.lowers) × (n ≤ length g.A.uppers) × (n ≤ g.a_mids) × (n ≤ g.a_rads) × AllFine g.A n
  a_convertible = let l = known.lengths in (l.a_cells.0, l.a_cells.1, l.a_work.0, l.a_work.1, known.a_fine)

  pub b_convertible :
      let n = g.b_rows * g.b_columns in
      (n ≤ length g.B.lowers) × (n ≤ length g.B.uppers) × (n ≤ g.b_mids) × (n ≤ g.b_rads) × AllFine g.B n
  b_convertible = let l = known.lengths in (l.b_cells.0, l.b_cells.1, l.b_work.0, l.b_work.1, known.b_fine)

  -- what they leave of lists m₀ and r₀
  pub a_converted : (m₀ r₀ m r : List ℕ) → g.a_mids ≡ length m₀ → g.a_rads ≡ length r₀
      → m ≡ front (g.a_rows * g.a_columns) (mid_at g.A) m₀ → r ≡ front (g.a_rows * g.a_columns) (rad_at g.A) r₀ → Converted g.A (g.a_rows * g.a_columns) m r
  a_converted m₀ r₀ m r lm lr em er =
      let w = known.lengths.a_work in
      converted_front g.A (g.a_rows * g.a_columns) m r m₀ r₀ known.a_fine (subst (λ (n : ℕ). g.a_rows * g.a_columns ≤ n) lm w.0) (subst (λ (n : ℕ). g.a_rows * g.a_columns ≤ n) lr w.1) em er

  pub b_converted : (m₀ r₀ m r : List ℕ) → g.b_mids ≡ length m₀ → g.b_rads ≡ length r₀
      → m ≡ front (g.b_rows * g.b_columns) (mid_at g.B) m₀ → r ≡ front (g.b_rows * g.b_columns) (rad_at g.B) r₀ → Converted g.B (g.a_columns * g.b_columns) m r
  b_converted m₀ r₀ m r lm lr em er =
      let w = known.lengths.b_work in
      subst (λ (n : ℕ). Converted g.B n m r) (sym inner)
      (converted_front g.B (g.b_rows * g.b_columns) m r m₀ r₀ known.b_fine (subst (λ (n : ℕ). g.b_rows * g.b_columns ≤ n) lm w.0) (subst (λ (n : ℕ). g.b_rows * g.b_columns ≤ n) lr w.1) em er)

  -- what the entries' function asks for
  pub ready : (ma ra mb rb : List ℕ) → Converted g.A (g.a_rows * g.a_columns) ma ra → Converted g.B (g.a_columns * g.b_columns) mb rb
      → Sized g.a_rows g.a_columns g.b_columns ma ra mb rb g.lowers g.uppers
  ready ma ra mb rb a b =
      let s = sizes in
      record { rows = s.rows; inner = s.inner; columns = s.columns; a = mid_rads a; b = mid_rads b; lowers = s.lowers; uppers = s.uppers }
