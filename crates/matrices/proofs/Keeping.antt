-- A product that is done keeps its promise: each of its cells is the pattern of an entry that was accepted, and so encloses.
use mathlib.Core.Path.{◌≡◌, refl, sym, ap, ◌∙◌, subst}
use mathlib.Core.Bool.{Bool, true, false, cond}
use mathlib.Core.List.{List}
use mathlib.Core.Option.{Option, none, some}
use Prim.Native.Nat.{ℕ, ◌+◌, ◌*◌, ◌/◌, ◌%◌, ◌≤◌, ◌<◌}
use native.Mathlib.Omega.{arith}
use lib.Dec.{ltb}
use borrow.Author.Tests.{ltb-false, le-ltb}
use Rattle.rounding.specs.Format.{binary32}
use Rattle.enclosure.specs.Arithmetic.{of}
use Rattle.enclosure.specs.Conversion.{cell_of}
use Rattle.enclosure.specs.Methods.{Range}
use Rattle.enclosure.specs.Demand.{Valid, ValidCells, Kept}
use Rattle.enclosure.proofs.Demand.{demand_kept}
use Rattle.binary32.specs.Number.{value_of}
use Rattle.binary32.proofs.Held.{pattern_value}
use Rattle.intervals.specs.Conversion.{fault_of}
use Rattle.intervals.proofs.Faults.{fine_tells}
use Rattle.refusals.specs.declared.reason.Reason.TheVariants.{TooLarge}
use Rattle.refusals.specs.Refusal.{of_cell}
use Rattle.refusals.specs.Answer.{Answer, refuses, done}
use Rattle.refusals.proofs.Answers.{not_both, then_tells}
use Rattle.matrices.specs.Lists.{front}
use Rattle.matrices.specs.Matrix.{Matrix, lower_at, upper_at, cell_at, fault_at}
use Rattle.matrices.specs.Entries.{entry_of, refused, lower_of, upper_of, stop_of}
use Rattle.matrices.specs.Checks.{Given, chosen, check_of}
use Rattle.matrices.specs.Product.{entries, cells, stop, product_of, result_after, Left}
use Rattle.matrices.specs.Demand.{Keeps, row_of, column_of, range_at}
use Rattle.matrices.proofs.CheckTells.{Checked, checked_tells}
use Rattle.matrices.proofs.EntryNumbers.{entry_numbers}
use Rattle.matrices.proofs.Firsts.{first_le, first_before}
use Rattle.matrices.proofs.Fronts.{get_d_front}
use Rattle.matrices.proofs.Places.{below, position_entry}

-- ---- an entry that is not refused
record Accepted (m : Option Range) : Type 0 where
  e : Range
  is : m ≡ some e

accepted : (m : Option Range) → refused m ≡ false → Accepted m
accepted (some e) h = record { e = e; is = refl }
accepted none h = absurd (no h)
  where
    no : true ≡ false → ⊥
    no e = subst (λ x. cond x (Unit {0}) ⊥) e tt

-- ---- a cell without a fault
pub fine_valid : (lo hi : ℕ) → fault_of lo hi ≡ done → Valid binary32 (cell_of (of binary32) (value_of lo) (value_of hi))
fine_valid lo hi h =
    let o = fine_tells lo hi h in
    record { low_number = o.low_num; high_number = o.high_num; ordered = o.order; converted = refl }

valid : (X : Matrix) (c : ℕ) → fault_at X c ≡ done → Valid binary32 (cell_at X c)
unfolding cell_at
valid X c = fine_valid (lower_at X c) (upper_at X c)

module _ (g : Given) (ok : Checked g) where
  row_valid : (i : ℕ) → i < g.a_rows → ValidCells binary32 g.a_columns (row_of g i)
  row_valid i h l t = valid g.A (i * g.a_columns + l) (ok.a_fine (i * g.a_columns + l) (below i g.a_rows l g.a_columns h t))

  column_valid : (j : ℕ) → j < g.b_columns → ValidCells binary32 g.a_columns (column_of g j)
  column_valid j h l t = valid g.B (l * g.b_columns + j) (ok.b_fine (l * g.b_columns + j) (below l g.b_rows j g.b_columns (subst (λ k. l < k) ok.sizes.inner t) h))

  within : (i j : ℕ) → i < g.a_rows → j < g.b_columns → i * g.b_columns + j < cells g
  within i j h k = below i g.a_rows j g.b_columns h k

  -- the theorem, of the entry in row i and column j
  entry_keeps : (i j : ℕ) → i < g.a_rows → j < g.b_columns → (e : Range) → entry_of (chosen g.method) g.a_columns g.b_columns g.A g.B i j ≡ some e
      → Kept (chosen g.method) g.a_columns (row_of g i) (column_of g j) e
  unfolding entry_of
  entry_keeps i j hi hj e h =
      demand_kept (chosen g.method) g.a_columns (row_of g i) (column_of g j) e ok.sizes.a_columns_above ok.sizes.a_columns_below (row_valid i hi) (column_valid j hj) h

  abbrev entry_at : ℕ → ℕ → Option Range
  entry_at i j = entry_of (chosen g.method) g.a_columns g.b_columns g.A g.B i j

  here : (i j : ℕ) → j < g.b_columns → entries g (i * g.b_columns + j) ≡ entry_at i j
  here i j h = position_entry (chosen g.method) g.a_columns g.b_columns i j (i * g.b_columns + j) refl h g.A g.B

  -- where none is refused, that entry is accepted
  accepted_at : stop g ≡ cells g → (i j : ℕ) → i < g.a_rows → j < g.b_columns → Accepted (entry_at i j)
  unfolding stop_of
  accepted_at s i j hi hj =
      let f = first_before (λ c. refused (entries g c)) (cells g) s (i * g.b_columns + j) (within i j hi hj) in
      accepted (entry_at i j) (sym (ap refused (here i j hj)) ∙ f)

  -- the same of what is left in the result
  keeps_at : (lo up : List ℕ) → stop g ≡ cells g → (i j : ℕ) → i < g.a_rows → j < g.b_columns
      → Kept (chosen g.method) g.a_columns (row_of g i) (column_of g j) (range_at g (front (cells g) (λ c. lower_of (entries g c)) lo) (front (cells g) (λ c. upper_of (entries g c)) up) i j)
  keeps_at lo up s i j hi hj =
      rw (get_d_front (λ c. lower_of (entries g c)) (cells g) lo (i * g.b_columns + j) (within i j hi hj), get_d_front (λ c. upper_of (entries g c)) (cells g) up (i * g.b_columns + j) (within i j hi hj))
      (told (accepted_at s i j hi hj))
    where
      told : Accepted (entry_at i j)
          → Kept (chosen g.method) g.a_columns (row_of g i) (column_of g j) (record { lower = value_of (lower_of (entries g (i * g.b_columns + j))); upper = value_of (upper_of (entries g (i * g.b_columns + j))) })
      told a =
          let n = entry_numbers (chosen g.method) g.a_columns g.b_columns g.A g.B i j a.e a.is in
          let l : value_of (lower_of (entries g (i * g.b_columns + j))) ≡ a.e.lower = ap value_of (ap lower_of (here i j hj ∙ a.is)) ∙ pattern_value n.lower in
          let u : value_of (upper_of (entries g (i * g.b_columns + j))) ≡ a.e.upper = ap value_of (ap upper_of (here i j hj ∙ a.is)) ∙ pattern_value n.upper in
          rw (l, u) (entry_keeps i j hi hj a.e a.is)

-- ---- what a product leaves when it is done
module _ (g : Given) where
  bounded : stop g ≤ cells g
  unfolding stop_of
  bounded = first_le (λ c. refused (entries g c)) (cells g)

  done_tells : product_of g ≡ done → (check_of g ≡ done) × (stop g ≡ cells g)
  unfolding product_of
  done_tells e =
      let t = then_tells (check_of g) _ tt e in
      (t.0.1, whole (ltb (stop g) (cells g)) refl t.1)
    where
      whole : (b : Bool) → ltb (stop g) (cells g) ≡ b → cond b (refuses (of_cell TooLarge 3 (stop g / g.b_columns) (stop g % g.b_columns))) done ≡ done → stop g ≡ cells g
      whole true t e = absurd (not_both e)
      whole false t e =
          let h : cells g ≤ stop g = ltb-false (stop g) (cells g) t in
          let l : stop g ≤ cells g = bounded in
          omega arith

  -- its result
  pub result_done : product_of g ≡ done → (bound : Option Range → ℕ) (d : List ℕ) → result_after g bound d ≡ front (cells g) (λ c. bound (entries g c)) d
  unfolding result_after
  result_done e bound d = let t = done_tells e in rw (t.0, le-ltb (stop g) (cells g) (omega (arith, t.1)))

  -- which encloses
  pub entries_keep : product_of g ≡ done → (lo up : List ℕ) (i j : ℕ) → i < g.a_rows → j < g.b_columns
      → Kept (chosen g.method) g.a_columns (row_of g i) (column_of g j) (range_at g (front (cells g) (λ c. lower_of (entries g c)) lo) (front (cells g) (λ c. upper_of (entries g c)) up) i j)
  entries_keep e lo up = let t = done_tells e in keeps_at g (checked_tells g t.0) lo up t.1

pub left_keeps : {g : Given} {ma ra mb rb lo up : List ℕ} {r : Answer (Unit {0})} {ma' ra' mb' rb' lo' up' : List ℕ} → Left g ma ra mb rb lo up r ma' ra' mb' rb' lo' up'
    → Left g ma ra mb rb lo up r ma' ra' mb' rb' lo' up' × Keeps g lo' up'
unfolding Keeps
left_keeps {g = g} {lo = lo} {up = up} L = (L, λ e i j hi hj. rw (L.lowers ∙ result_done g e lower_of lo, L.uppers ∙ result_done g e upper_of up) (entries_keep g e lo up i j hi hj))
