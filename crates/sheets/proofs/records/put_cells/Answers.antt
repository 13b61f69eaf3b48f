use mathlib.Core.Path.{◌≡◌, refl}
use mathlib.Core.List.{List}
use Prim.Native.Nat.{ℕ, ◌+◌, ◌*◌, ◌≤◌, ◌<◌}
use native.Mathlib.Omega.{arith}
use lib.ListN.{length, take}
use Rattle.refusals.proofs.SizeLaws.{small}
use Rattle.sheets.specs.Sheet.{cell_at, tally, count_to}
use Rattle.sheets.proofs.Counting.{start, count_none, count_room, count_le, cells_more}
use Rattle.sheets.proofs.records.put_cells.Goals as goal

pub loop-p-init : goal.loop-p-init
loop-p-init c = (count_none _ _, start _ _ _ _ _)

-- there is room for the record of cell p, before which there are k
roomy : (lo up : List ℕ) (p k cells total room : ℕ) → p < cells → cells ≤ 1024 → k ≡ count_to lo up p → total ≡ count_to lo up cells → 16 * (total + 1) ≤ room
    → (16 * (k + 1) + 16 * tally (cell_at lo up p) ≤ room) × (k ≤ 1023)
roomy lo up p k cells total room h n e f g =
    let r = count_room lo up p cells h in
    let m = count_le lo up p in
    (omega arith, omega arith)

pub put_cell-k-requires : goal.put_cell-k-requires
put_cell-k-requires c =
    let a = c.args in
    let h = c.loop-p in
    let r = roomy a.matrix.lowers.now a.matrix.uppers.now h.p h.k (a.matrix.rows * a.matrix.columns) a.total (length a.out.now) (omega arith) (small _ _ c.requires.1 c.requires.2) h.invariant.0 c.requires.5 c.requires.6 in
    let long = h.invariant.1.long in
    (omega arith, omega arith)

pub loop-p-preserved : goal.loop-p-preserved
loop-p-preserved c =
    let a = c.args in
    let h = c.loop-p in
    let r = roomy a.matrix.lowers.now a.matrix.uppers.now h.p h.k (a.matrix.rows * a.matrix.columns) a.total (length a.out.now) (omega arith) (small _ _ c.requires.1 c.requires.2) h.invariant.0 c.requires.5 c.requires.6 in
    cells_more a.matrix.columns a.total _ _ h.p h.k (16 * (h.k + 1)) _ _ _ _ (take 16 a.out.now) h.invariant.0 refl
    c.put_cell-k.ensures.0 c.put_cell-k.ensures.1 r.0 h.invariant.1
