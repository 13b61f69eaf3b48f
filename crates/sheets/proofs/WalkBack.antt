-- The walk along the written chain passes, and meets each cell that is not [0, 0], by rows, whatever the amounts of the classes. Assumes nothing.
use mathlib.Core.Path.{◌≡◌, refl, sym, ap, ◌∙◌}
use mathlib.Core.Bool.{true}
use mathlib.Core.List.{List, [], ◌∷◌}
use Prim.Native.Nat.{ℕ, zero, suc, ◌+◌, ◌-◌, ◌*◌, ◌/◌, ◌%◌, ◌≤◌, ◌<◌}
use native.Mathlib.Nat.{add-zero, div-add-mod', mod-lt, div-lt_iff_lt-mul}
use native.Mathlib.Numerals.{add-one}
use native.Mathlib.Omega.{arith}
use lib.ListN.{length, get_or}
use borrow.Author.Tests.{le-leb, eq-eqb}
use Rattle.std.specs.Prelude.{Some, None}
use Rattle.refusals.specs.Answer.{Answer, gives, done, then, refuses}
use Rattle.refusals.specs.Sizes.{check_size, check_lengths, check_fit}
use Rattle.refusals.proofs.SizeLaws.{Fitting}
use Rattle.sheets.specs.declared.amount.Kind.TheVariants.{Amounts}
use Rattle.sheets.specs.declared.layout.Record.{Record}
use Rattle.sheets.specs.declared.chain.Cell.{Cell}
use Rattle.sheets.specs.Layout.{framed, count_of}
use Rattle.sheets.specs.Amount.{cell_amount}
use Rattle.sheets.specs.Chain.{judge_of, visit_of, Walk, more, walk, chain_of}
use Rattle.sheets.specs.Reading.{sizes, read_by}
use Rattle.sheets.specs.Cell.{HandedIn}
use Rattle.sheets.specs.Sheet.{cell_at, tally, count_to, next_of, sheet_of}
use Rattle.sheets.proofs.Frames.{framed_by}
use Rattle.sheets.proofs.CellAmounts.{plain_amount}
use Rattle.sheets.proofs.Judging.{judge_cell}
use Rattle.sheets.proofs.Walking.{visit_judged, walk_end, walk_turn}
use Rattle.sheets.proofs.Answers.{read_fit}
use Rattle.sheets.proofs.CellBytes.{next_more, next_end}
use Rattle.sheets.proofs.Counting.{count_room, count_le}
use Rattle.sheets.proofs.Outs.{sheet_length}
use Rattle.sheets.proofs.CellBack.{cell_back}
use Rattle.sheets.proofs.RecordBack.{fields_of, head_blank, record_at_position, count_back, kind_back, kind_told, first_back, rows_back, columns_back}

-- the y cells from position p on that are not [0, 0]
abbrev pub cons_by : ℕ → ℕ → HandedIn → List Cell → List Cell
cons_by x p (gives None) cs = cs
cons_by x p (gives (Some (a, b))) cs = record { next = x; position = p; lower = a; upper = b } ∷ cs
cons_by x p (refuses n) cs = cs

unfoldable pub cells_from : ℕ → List ℕ → List ℕ → ℕ → ℕ → List Cell
cells_from total lo up zero p = []
cells_from total lo up (suc y) p = cons_by (next_of total (count_to lo up p + 1)) p (cell_at lo up p) (cells_from total lo up y (p + 1))

abbrev pub passed : List Cell → Walk
passed cs = record { cells = cs; verdict = done }

pub count_at : (lo up : List ℕ) (p : ℕ) (b : HandedIn) → cell_at lo up p ≡ b → count_to lo up (p + 1) ≡ count_to lo up p + tally b
unfolding count_to
count_at lo up p b e = rw (add-one p, e)

module _ (amounts : List ℕ) (rows columns : ℕ) (lo up : List ℕ) (z : Fitting rows columns (length lo) (length up)) (few : rows * columns ≤ 1024) where
  abbrev rule : Record → Answer ℕ
  rule = cell_amount Amounts amounts

  -- one cell of the walk, by what the writer made of it; ih: the walk from the next position on
  walk_step : (y p l t : ℕ) (b : HandedIn) → cell_at lo up p ≡ b → p < rows * columns → l ≤ p → rows * columns < t + l
      → ((l' t' : ℕ) → l' ≤ p + 1 → rows * columns < t' + l'
      → walk rule (sheet_of rows columns lo up) rows columns t' (next_of (count_to lo up (rows * columns)) (count_to lo up (p + 1))) l' ≡ passed (cells_from (count_to lo up (rows * columns)) lo up y (p + 1)))
      → walk rule (sheet_of rows columns lo up) rows columns t (next_of (count_to lo up (rows * columns)) (count_to lo up p)) l
      ≡ passed (cons_by (next_of (count_to lo up (rows * columns)) (count_to lo up p + 1)) p b (cells_from (count_to lo up (rows * columns)) lo up y (p + 1)))
  unfolding tally
  walk_step y p l t (gives None) e g h k ih =
      let c : count_to lo up (p + 1) ≡ count_to lo up p = count_at lo up p (gives None) e ∙ add-zero (count_to lo up p) in
      rw c at (ih l t (omega arith) k)
  walk_step y p l t (refuses n) e g h k ih =
      let c : count_to lo up (p + 1) ≡ count_to lo up p = count_at lo up p (refuses n) e ∙ add-zero (count_to lo up p) in
      rw c at (ih l t (omega arith) k)
  walk_step y p l t (gives (Some (x, w))) e g h k ih =
      let s : List ℕ = sheet_of rows columns lo up in
      let total : ℕ = count_to lo up (rows * columns) in
      let c : count_to lo up (p + 1) ≡ count_to lo up p + 1 = count_at lo up p (gives (Some (x, w))) e in
      let m : count_to lo up p + tally (cell_at lo up p) ≤ total = count_room lo up p (rows * columns) g in
      let m1 : count_to lo up p + 1 ≤ total = rw e at m in
      let i0 : next_of total (count_to lo up p) ≡ count_to lo up p + 1 = sym (next_more total (count_to lo up p) (omega arith)) in
      let n : ℕ = next_of total (count_to lo up p + 1) in
      let row : p / columns < rows = (div-lt_iff_lt-mul z.some_column).1 g in
      let col : p % columns < columns = mod-lt p z.some_column in
      let position : p / columns * columns + p % columns ≡ p = div-add-mod' p columns in
      let cell : Cell = record { next = n; position = p; lower = x; upper = w } in
      let j : gives cell ≡ judge_of rule rows columns l (fields_of n (p / columns) (p % columns) x w) =
      ap (λ (v : ℕ). gives (record { next = n; position = v; lower = x; upper = w })) (sym position)
      ∙ judge_cell rule rows columns l (fields_of n (p / columns) (p % columns) x w) 0 (gives (x, w)) row col (omega arith) (plain_amount amounts (fields_of n (p / columns) (p % columns) x w) refl) (cell_back (get_or lo p 0) (get_or up p 0) x w e).read in
      let v : visit_of rule s rows columns (count_to lo up p + 1) l ≡ gives cell =
      sym (visit_judged rule s rows columns (count_to lo up p + 1) l (fields_of n (p / columns) (p % columns) x w) (gives cell) (omega (arith, count_back rows columns lo up few)) (sym (record_at_position rows columns lo up few p x w g e)) j) in
      let r : walk rule s rows columns (t - 1) n (p + 1) ≡ passed (cells_from total lo up y (p + 1)) = rw c at (ih (p + 1) (t - 1) (omega arith) (omega arith)) in
      rw i0 (walk_turn rule s rows columns t (t - 1) (count_to lo up p + 1) l (omega arith) (omega arith) (gives cell) v ∙ ap (more cell) r)

  pub walk_back : (y p l t : ℕ) → p + y ≡ rows * columns → l ≤ p → rows * columns < t + l
      → walk rule (sheet_of rows columns lo up) rows columns t (next_of (count_to lo up (rows * columns)) (count_to lo up p)) l ≡ passed (cells_from (count_to lo up (rows * columns)) lo up y p)
  unfolding cells_from
  walk_back zero p l t e h k =
      let q : p ≡ rows * columns = omega arith in
      let a : next_of (count_to lo up (rows * columns)) (count_to lo up p) ≡ 0 = sym (next_end (count_to lo up (rows * columns)) (count_to lo up p) (rw q (omega arith))) in
      walk_end rule (sheet_of rows columns lo up) rows columns t _ l a
  walk_back (suc y) p l t e h k = walk_step y p l t (cell_at lo up p) refl (omega arith) h k (λ l' t' h' k'. walk_back y (p + 1) l' t' (omega arith) h' k')

  pub framed_back : framed (sheet_of rows columns lo up) ≡ true
  framed_back =
      let s : List ℕ = sheet_of rows columns lo up in
      let t : count_to lo up (rows * columns) ≤ rows * columns = count_le lo up (rows * columns) in
      let n : length s ≡ 16 * (count_to lo up (rows * columns) + 1) = sheet_length rows columns lo up in
      let c : count_of s ≡ count_to lo up (rows * columns) + 1 = count_back rows columns lo up few in
      sym (framed_by s true true true true true true (count_of s) (eq-eqb (length s % 16) 0 (omega arith)) (le-leb 16 (length s) (omega arith)) (le-leb (length s) 16400 (omega arith)) refl
      (eq-eqb (16 * count_of s) (length s) (omega arith)) (kind_told rows columns lo up few) (sym (head_blank rows columns lo up (omega arith))))

  -- the whole chain
  pub chain_back : chain_of amounts (sheet_of rows columns lo up) ≡ passed (cells_from (count_to lo up (rows * columns)) lo up (rows * columns) 0)
  unfolding count_to chain_of
  chain_back =
      rw (kind_back rows columns lo up few, rows_back rows columns lo up few, columns_back rows columns lo up few, first_back rows columns lo up few)
      (walk_back (rows * columns) 0 0 (rows * columns + 1) (omega arith) (omega arith) (omega arith))

  fits : (l u : ℕ) → rows * columns ≤ l → rows * columns ≤ u → done ≡ check_fit 0 rows columns l u
  unfolding check_size check_lengths check_fit
  fits l u hl hu =
      rw (le-leb 1 rows z.some_row, le-leb rows 32 z.rows, le-leb 1 columns z.some_column, le-leb columns 32 z.columns, le-leb (rows * columns) l hl, le-leb (rows * columns) u hu)

  -- reading what was written is not refused, with slices that are long enough
  pub read_back : (l u : ℕ) → rows * columns ≤ l → rows * columns ≤ u → read_by amounts (sheet_of rows columns lo up) l u ≡ gives (sizes rows columns)
  read_back l u hl hu =
      sym (read_fit amounts (sheet_of rows columns lo up) l u rows columns done framed_back (sym (rows_back rows columns lo up few)) (sym (columns_back rows columns lo up few)) (fits l u hl hu))
      ∙ ap (λ (w : Walk). then w.verdict (gives (sizes rows columns))) chain_back
