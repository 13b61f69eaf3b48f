use mathlib.Core.Path.{◌≡◌, sym, ap, ◌∙◌}
use mathlib.Core.List.{List}
use Prim.Native.Nat.{ℕ, ◌+◌, ◌-◌, ◌*◌, ◌≤◌, ◌<◌}
use native.Mathlib.Omega.{arith}
use lib.ListN.{length-set}
use Rattle.refusals.specs.Answer.{Answer, gives, refuses, done}
use Rattle.refusals.proofs.SizeLaws.{small}
use Rattle.sheets.specs.declared.amount.Kind.{Kind}
use Rattle.sheets.specs.declared.layout.Record.{Record}
use Rattle.sheets.specs.declared.chain.Cell.{Cell}
use Rattle.sheets.specs.Layout.{record_of}
use Rattle.sheets.specs.Amount.{check_wear, wear_amount, cell_amount}
use Rattle.sheets.specs.Cell.{worn_fault}
use Rattle.sheets.specs.Chain.{worn_cell, visit_of, Walk, more, walk}
use Rattle.sheets.specs.Reading.{cell_lower, cell_upper}
use Rattle.sheets.proofs.CellAmounts.{amount_given, amount_tells}
use Rattle.sheets.proofs.Walking.{Passing, walk_passing, visit_passing, visit_position, walk_end, walk_turn}
use Rattle.sheets.proofs.Putting.{put_none, put_more}
use Rattle.sheets.proofs.matrix.fill.Goals.{In-Ok}
use Rattle.sheets.proofs.matrix.fill.Goals as goal

module _ (kind : Kind) (amounts s : List ℕ) (rows columns t index least : ℕ) (b : (rows * columns < t + least) × (least ≤ rows * columns)) (n : index ≡ 0 → ⊥)
    (v : (walk (cell_amount kind amounts) s rows columns t index least).verdict ≡ done) where
  -- the record at the index passes
  passing : Passing (cell_amount kind amounts) s rows columns index least
  passing = walk_passing _ _ _ _ t (t - 1) index least (omega arith) n v

  module _ (r : Record) (e : r ≡ record_of s index) where
    -- its wear passes, and its bounds have no fault
    fine : (check_wear kind r ≡ done) × (worn_fault r.lower r.upper (wear_amount kind amounts r.wear) ≡ done)
    fine =
        let p = passing.passed in
        let t = amount_tells _ _ _ _ p.ruled in
        rw e (t.0, ap (worn_fault _ _) t.1 ∙ p.fine)

    -- what is visited there
    visited : (z y : Answer Cell) → z ≡ worn_cell columns r (wear_amount kind amounts r.wear) → z ≡ y → visit_of (cell_amount kind amounts) s rows columns index least ≡ y
    visited z y f g = visit_passing _ _ _ _ _ _ _ _ _ passing e (amount_given _ _ _ fine.0) f ∙ g

    -- a turn that passes the cell x
    turned : (z : Answer Cell) (x : Cell) → rows ≤ 32 → columns ≤ 32 → z ≡ worn_cell columns r (wear_amount kind amounts r.wear) → z ≡ gives x
        → (least ≤ x.position) × (x.position < rows * columns) × (rows * columns ≤ 1024)
        × (walk (cell_amount kind amounts) s rows columns t index least ≡ more x (walk (cell_amount kind amounts) s rows columns (t - 1) x.next (x.position + 1)))
    turned z x i k f g =
        let v = visited z (gives x) f g in
        let j = visit_position (cell_amount kind amounts) s rows columns index least x v in
        (j.0, j.1, small rows columns i k, walk_turn _ _ _ _ t (t - 1) _ _ (omega arith) n (gives x) v)

pub record_at-requires : goal.record_at-requires
record_at-requires c =
    let a = c.args in
    let h = c.loop-index in
    omega (arith, (passing a.rule.kind a.rule.amounts.now a.s.now a.sizes.rows a.sizes.columns h.invariant.0 h.index h.least (omega arith, omega arith) (omega arith) h.invariant.5).index)

pub passed-requires : goal.passed-requires
passed-requires c =
    let a = c.args in
    let h = c.loop-index in
    let p = (passing a.rule.kind a.rule.amounts.now a.s.now a.sizes.rows a.sizes.columns h.invariant.0 h.index h.least (omega arith, omega arith) (omega arith) h.invariant.5).passed in
    let f = fine a.rule.kind a.rule.amounts.now a.s.now a.sizes.rows a.sizes.columns h.invariant.0 h.index h.least (omega arith, omega arith) (omega arith) h.invariant.5 _ c.record_at.ensures in
    let e = c.record_at.ensures in
    (omega arith, rw e (omega (arith, p.row)), rw e (omega (arith, p.column)), f.0, f.1)

turn : (c : In-Ok) →
    let a = c.args in
    let h = c.loop-index in
    let x = c.in-Ok.c in
    (h.least ≤ x.position) × (x.position < a.sizes.rows * a.sizes.columns) × (a.sizes.rows * a.sizes.columns ≤ 1024)
    × (walk (cell_amount a.rule.kind a.rule.amounts.now) a.s.now a.sizes.rows a.sizes.columns h.invariant.0 h.index h.least ≡ more x (walk (cell_amount a.rule.kind a.rule.amounts.now) a.s.now a.sizes.rows a.sizes.columns (h.invariant.0 - 1) x.next (x.position + 1)))
turn c =
    let a = c.args in
    let h = c.loop-index in
    turned a.rule.kind a.rule.amounts.now a.s.now a.sizes.rows a.sizes.columns h.invariant.0 h.index h.least (omega arith, omega arith) (omega arith) h.invariant.5 _ c.record_at.ensures _ _ c.requires.0 c.requires.1 c.passed.ensures
    c.in-Ok.is

pub offset_bounds-lowers-position : goal.offset_bounds-lowers-position
offset_bounds-lowers-position c = let j = turn c in omega arith

pub bounds-lowers-position : goal.bounds-lowers-position
bounds-lowers-position c = let j = turn c in omega arith

pub offset_bounds-uppers-position : goal.offset_bounds-uppers-position
offset_bounds-uppers-position c = let j = turn c in omega arith

pub bounds-uppers-position : goal.bounds-uppers-position
bounds-uppers-position c = let j = turn c in omega arith

pub overflow_add-least : goal.overflow_add-least
overflow_add-least c = let j = turn c in omega arith

pub loop-index-smaller : goal.loop-index-smaller
loop-index-smaller c = let j = turn c in omega arith

pub loop-index-preserved : goal.loop-index-preserved
loop-index-preserved c =
    let h = c.loop-index in
    let j = turn c in (
      h.invariant.0 - 1,
      omega arith,
      omega arith,
      simp length-set h.invariant.3,
      simp length-set h.invariant.4,
      sym (ap (λ (w : Walk). w.verdict) j.3) ∙ h.invariant.5,
      put_more cell_lower _ _ _ _ j.3 ∙ h.invariant.6,
      put_more cell_upper _ _ _ _ j.3 ∙ h.invariant.7,
    )

pub returns-in_default : goal.returns-in_default
returns-in_default c =
    let a = c.args in
    let h = c.loop-index in
    let w = walk_turn _ _ _ _ h.invariant.0 (h.invariant.0 - 1) _ _ (omega arith) (omega arith) (refuses _) (visited a.rule.kind a.rule.amounts.now a.s.now a.sizes.rows a.sizes.columns h.invariant.0 h.index h.least (omega arith, omega arith) (omega arith) h.invariant.5 _ c.record_at.ensures _ _ c.passed.ensures c.in_default.is) in
    (sym (put_none cell_lower _ _ _ w) ∙ h.invariant.6, sym (put_none cell_upper _ _ _ w) ∙ h.invariant.7)

pub returns : goal.returns
returns c =
    let h = c.loop-index in
    let w = walk_end _ _ _ _ h.invariant.0 h.index h.least (omega arith) in
    (sym (put_none cell_lower _ _ _ w) ∙ h.invariant.6, sym (put_none cell_upper _ _ _ w) ∙ h.invariant.7)
