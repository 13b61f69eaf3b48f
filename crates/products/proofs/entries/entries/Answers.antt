-- `products::entries::entries` meets its contract: an entry more, a row more, and the two ways out.
use mathlib.Core.Path.{◌≡◌, sym, ap, subst, ◌∙◌}
use Prim.Native.Nat.{ℕ, ◌+◌, ◌*◌, ◌≤◌}
use native.Mathlib.Nat.{zero-mul}
use native.Mathlib.Omega.{arith}
use lib.ListN.{length}
use Rattle.std.specs.Prelude.{Some}
use Rattle.products.specs.declared.entries.Shape.{Shape}
use Rattle.products.specs.Running.{HoldsRange}
use Rattle.products.proofs.Rows.{to_from, to_none, to_place, to_start, to_still, to_more, to_at, next_row}
use Rattle.products.proofs.entries.entries.Goals as goal

abbrev rows_of : Shape → ℕ
rows_of s = s.m

abbrev columns_of : Shape → ℕ
columns_of s = s.n

pub search-init : goal.search-init
search-init g c = (to_at (g.M.Steps.entry c.args.of) (to_start _ _ _) (sym (zero-mul _)), c.blank-row.ensures)

pub loop-j-preserved : goal.loop-j-preserved
loop-j-preserved g c =
    let E = g.M.Steps.entry c.args.of in
    let S = c.shape-m.ensures in
    let m : c.shape-m.result.m ≡ (g.M.Steps.shape c.args.of).m = ap rows_of S in
    let n : c.shape-m.result.n ≡ (g.M.Steps.shape c.args.of).n = ap columns_of S in
    let r = c.requires in
    let H = subst (λ (t : ℕ). HoldsRange (E (c.search.i * t + c.loop-j.j)) (Some c.in-Some-finish.e)) (sym n) c.in-Some-finish.ensures in
    let out = to_place E (to_from E c.search.invariant.0 (omega arith) c.loop-j.invariant) c.shape-m.result.m c.shape-m.result.n c.search.i c.loop-j.j (omega (arith, m, r.1)) (omega (arith, n, r.2))
    (subst (λ (s : Shape). s.m * s.n ≤ length c.args.lo.now) (sym S) r.3) (subst (λ (s : Shape). s.m * s.n ≤ length c.args.up.now) (sym S) r.4) (omega arith) (omega arith) (omega arith) in
    to_at E (to_more E (to_still E c.loop-j.invariant c.loop-l.invariant.0) c.in-Some-finish.e _ _ H out.1 out.2 c.lower.ensures c.upper.ensures) (omega arith)

pub search-preserved : goal.search-preserved
search-preserved g c =
    let E = g.M.Steps.entry c.args.of in
    (to_at E (to_from E c.search.invariant.0 (omega arith) c.loop-j.invariant) (next_row c.search.i c.shape-m.result.n _ (omega arith)), c.take_apart.ensures.0)

-- ---- a refused entry leaves all loops with its place
pub returns-in_default : goal.returns-in_default
returns-in_default g c =
    let E = g.M.Steps.entry c.args.of in
    let m : c.shape-m.result.m ≡ (g.M.Steps.shape c.args.of).m = ap rows_of c.shape-m.ensures in
    let n : c.shape-m.result.n ≡ (g.M.Steps.shape c.args.of).n = ap columns_of c.shape-m.ensures in
    let at = ap (λ (t : ℕ). c.search.i * t + c.loop-j.j) n in
    to_none E (to_from E c.search.invariant.0 (omega arith) c.loop-j.invariant) _ _ c.search.i c.loop-j.j at (omega (arith, m)) (omega (arith, n)) (ap E at ∙ c.in_default.ensures)

pub returns-in_default-finish : goal.returns-in_default-finish
returns-in_default-finish g c =
    let E = g.M.Steps.entry c.args.of in
    let m : c.shape-m.result.m ≡ (g.M.Steps.shape c.args.of).m = ap rows_of c.shape-m.ensures in
    let n : c.shape-m.result.n ≡ (g.M.Steps.shape c.args.of).n = ap columns_of c.shape-m.ensures in
    let at = ap (λ (t : ℕ). c.search.i * t + c.loop-j.j) n in
    to_none E (to_from E c.search.invariant.0 (omega arith) c.loop-j.invariant) _ _ c.search.i c.loop-j.j at (omega (arith, m)) (omega (arith, n)) (ap E at ∙ c.in_default-finish.ensures)
