-- `products::entries::entries` meets its contract. The loop over pairs keeps the entry's sums so far, the outer ones the entries written and that none of them
-- was refused. A refused step leaves all loops with the place of its entry.
use mathlib.Core.Path.{◌≡◌}
use Prim.Native.Nat.{◌+◌, ◌*◌}
use Rattle.std.specs.Prelude.{None}
use Rattle.products.proofs.Rows.{WrittenTo}
use Rattle.products.proofs.entries.entries.Given as goal

abbrev pub invariant-loop-l : goal.invariant-loop-l
invariant-loop-l g l = (l.place ≡ None) × g.M.Steps.after l.of l.i l.j l.l l.s

abbrev pub invariant-loop-j : goal.invariant-loop-j
invariant-loop-j g l = WrittenTo (g.M.Steps.entry l.of) (l.i * l.n + l.j) l.initial.lo l.initial.up l.lo l.up l.place

abbrev pub invariant-search : goal.invariant-search
invariant-search g l = WrittenTo (g.M.Steps.entry l.of) (l.i * l.n) l.initial.lo l.initial.up l.lo l.up l.place × g.M.Steps.place l.row
