use mathlib.Core.Path.{◌≡◌, refl, sym, ap, ◌∙◌}
use mathlib.Core.List.{List}
use Prim.Native.Nat.{ℕ, ◌+◌, ◌-◌, ◌*◌, ◌≤◌, ◌<◌}
use native.Mathlib.Omega.{arith}
use lib.Arith.{digits_lt}
use borrow.Author.Rules.{rules}
use Rattle.refusals.specs.Answer.{Answer, refuses, done, then}
use Rattle.refusals.proofs.SizeLaws.{small}
use Rattle.sheets.specs.declared.layout.Record.{Record}
use Rattle.sheets.specs.Layout.{record_of, count_of}
use Rattle.sheets.specs.Chain.{position_of, judge_of, Walk, walk}
use Rattle.sheets.proofs.Walking.{walk_end, walk_turn, visit_past, turn_refused, turn_passed}
use Rattle.sheets.proofs.chain.follow.Goals as goal

pub loop-index-init : goal.loop-index-init
loop-index-init c = (c.args.sizes.rows * c.args.sizes.columns + 1, omega arith, omega arith, refl)

pub returns-then-index-s : goal.returns-then-index-s
returns-then-index-s c =
    let h = c.loop-index in
    ap refuses c.of_matrix.ensures
    ∙ sym (h.invariant.3 ∙ ap (λ (w : Walk). w.verdict)
    (walk_turn _ _ _ _ h.invariant.0 (h.invariant.0 - 1) _ _ (omega arith) (omega arith) _ (sym (visit_past _ _ _ _ h.index h.least (omega arith)))))

-- a turn that passes the record r, where t turns are left: z is what `judge` says of it
turned : (rule : Record → Answer ℕ) (s : List ℕ) (rows columns index least : ℕ) (v : Answer (Unit {0})) (inv : (t : ℕ) × (rows * columns < t + least) × (least ≤ rows * columns) × (v ≡ (walk rule s rows columns t index least).verdict))
    (r : Record) (z : Answer (Unit {0})) → r ≡ record_of s index → z ≡ then (judge_of rule rows columns least r) done → z ≡ done → rows ≤ 32 → columns ≤ 32 → (index ≡ 0 → ⊥) → index < count_of s
    → (least ≤ position_of columns r) × (position_of columns r < rows * columns) × (rows * columns ≤ 1024)
    × (v ≡ (walk rule s rows columns (inv.0 - 1) r.next (position_of columns r + 1)).verdict)
turned rule s rows columns index least v inv r z e f g h k n i =
    let j = turn_passed rule s rows columns inv.0 (inv.0 - 1) index least (omega (arith, inv.1, inv.2)) n r _ i e f g in
    (j.1.free, digits_lt j.1.row j.1.column, small rows columns h k, inv.3 ∙ j.2)

pub overflow_add-least : goal.overflow_add-least
overflow_add-least c =
    let h = c.loop-index in
    let j = turned _ _ _ _ h.index h.least _ h.invariant _ _ c.record_at-r.ensures c.judge.ensures c.in_ok-judge.was c.requires.0 c.requires.1 (omega arith) (omega arith) in
    omega arith

pub loop-index-smaller : goal.loop-index-smaller
loop-index-smaller c =
    let h = c.loop-index in
    let j = turned _ _ _ _ h.index h.least _ h.invariant _ _ c.record_at-r.ensures c.judge.ensures c.in_ok-judge.was c.requires.0 c.requires.1 (omega arith) (omega arith) in
    omega arith

pub loop-index-preserved : goal.loop-index-preserved
loop-index-preserved c =
    let h = c.loop-index in
    let j = turned _ _ _ _ h.index h.least _ h.invariant _ _ c.record_at-r.ensures c.judge.ensures c.in_ok-judge.was c.requires.0 c.requires.1 (omega arith) (omega arith) in
    (h.invariant.0 - 1, omega arith, omega arith, rw (c.from-index.ensures, c.position-least.ensures) j.3)

pub returns-in_err-judge : goal.returns-in_err-judge
returns-in_err-judge c =
    let h = c.loop-index in
    let e : c.from_residual.result ≡ refuses c.in_err-judge.field-0.0 = search rules in
    e
    ∙ sym
    (h.invariant.3
    ∙ turn_refused _ _ _ _ h.invariant.0 (h.invariant.0 - 1) h.index h.least (omega arith) (omega arith) c.record_at-r.result _ (omega arith) c.record_at-r.ensures c.judge.ensures _ c.in_err-judge.was)

pub returns : goal.returns
returns c = sym (c.loop-index.invariant.3 ∙ ap (λ (w : Walk). w.verdict) (walk_end _ _ _ _ _ _ _ (omega arith)))
