-- `Classical::step` meets its contract: the cells of a pair, a pair that is passed over, and the sums after a pair.
use mathlib.Core.Path.{refl, sym, ◌∙◌, subst}
use Prim.Native.Nat.{ℕ, ◌+◌, ◌*◌, ◌<◌}
use Rattle.std.specs.Prelude.{Option as Maybe}
use Rattle.products.specs.Entries.{Going}
use Rattle.rounding.specs.Format.{binary32}
use Rattle.enclosure.specs.Arithmetic.{of}
use Rattle.enclosure.specs.Methods.{Range, classical}
use Rattle.enclosure.specs.RunningSums.{add_pair}
use Rattle.matrices.specs.Matrix.{Matrix, of_bounds, lower_at, upper_at, cell_at}
use Rattle.matrices.proofs.Places.{below, position_entry}
use Rattle.products.specs.declared.apart.Apart.{Apart}
use Rattle.products.specs.declared.sums.Sums.{Sums}
use Rattle.products.specs.Apart.{IsApart, Cells}
use Rattle.products.specs.Classical.{SumsAfter, apart_cell, pattern_cell}
use Rattle.products.specs.Running.{HoldsRange}
use Rattle.products.specs.Written.{Sizes}
use Rattle.products.proofs.ClassicalSums.{after_going, after_zero}
use Rattle.products.proofs.Pairs.{Taken, fine_taken, fine_cells, step_cells, apart_zero, patterns_zero}
use Rattle.products.proofs.classical.ClassicalSteps.step.Goals as goal

-- the cells of pair l of row i and column j: that of A, a, is taken apart
module _ {m k n : ℕ} {A B : Matrix} {lo up : ℕ} (z : Sizes m k n A B lo up) (i j l : ℕ) (h : i < m) (e : l < k) (a : Apart) (t : IsApart (lower_at A (i * k + l)) (upper_at A (i * k + l)) a) where
  taken : Taken (lower_at A (i * k + l)) (upper_at A (i * k + l)) a
  taken = fine_taken _ _ a (z.a_fine (i * k + l) (below i m l k h e)) t

  cells : j < n → Cells a (lower_at B (l * n + j)) (upper_at B (l * n + j))
  cells g = fine_cells _ _ _ _ a taken (z.b_fine (l * n + j) (below l k j n e g))

  -- what a step gives
  stepped : (s : Range) (r : Maybe Sums) → HoldsRange (add_pair (of binary32) s (apart_cell a) (pattern_cell (lower_at B (l * n + j)) (upper_at B (l * n + j)))) r
      → HoldsRange (add_pair (of binary32) s (cell_at A (i * k + l)) (cell_at B (l * n + j))) r
  unfolding cell_at
  stepped s r = step_cells _ _ (cell_at B (l * n + j)) a taken s r

pub is_nonzero-requires : goal.is_nonzero-requires
is_nonzero-requires c =
    let t = taken c.requires.0 c.args._i c.args.j c.args.l c.requires.1 c.requires.3 _ (c.requires.4.1 c.args.l c.requires.3) in
    (t.lower.0, t.upper.0)

pub returns-then-not-is_nonzero : goal.returns-then-not-is_nonzero
returns-then-not-is_nonzero c =
    let s = c.args.self in
    let t = taken c.requires.0 c.args._i c.args.j c.args.l c.requires.1 c.requires.3 _ (c.requires.4.1 c.args.l c.requires.3) in
    after_zero _ _ _ _ _ _ c.args.l c.args.s c.requires.5 (apart_zero (of_bounds s.al.now s.au.now) (c.args._i * s.shape.k + c.args.l) _ _ t (sym c.is_nonzero.ensures ∙ c.if-not-is_nonzero.true))

pub returns-then-not-is_nonzero-2 : goal.returns-then-not-is_nonzero-2
returns-then-not-is_nonzero-2 c =
    let s = c.args.self in
    after_zero _ _ _ _ _ _ c.args.l c.args.s c.requires.5 (patterns_zero (of_bounds s.bl.now s.bu.now) (c.args.l * s.shape.n + c.args.j) _ (sym c.is_nonzero-2.ensures ∙ c.if-not-is_nonzero-2.true))

pub step-requires : goal.step-requires
step-requires c =
    cells c.requires.0 c.args._i c.args.j c.args.l c.requires.1 c.requires.3 _ (c.requires.4.1 c.args.l c.requires.3) c.requires.2

pub returns : goal.returns
returns c =
    let s = c.args.self in
    let A = of_bounds s.al.now s.au.now in
    let B = of_bounds s.bl.now s.bu.now in
    let H = stepped c.requires.0 c.args._i c.args.j c.args.l c.requires.1 c.requires.3 _ (c.requires.4.1 c.args.l c.requires.3) _ _ c.step.ensures in
    subst (λ m. Going (SumsAfter s.shape.k s.shape.n A B c.args._i c.args.j (c.args.l + 1)) m c.step.result) (sym (position_entry classical s.shape.k s.shape.n c.args._i c.args.j _ refl c.requires.2 A B))
    (after_going s.shape.k s.shape.n A B c.args._i c.args.j c.args.l c.args.s c.requires.5 c.step.result H c.requires.3)
