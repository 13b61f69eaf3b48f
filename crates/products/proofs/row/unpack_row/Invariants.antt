-- `products::row::unpack_row` meets its contract: each number below l is that of its pattern.
use mathlib.Core.Path.{◌≡◌}
use Prim.Native.Nat.{ℕ, ◌+◌, ◌-◌, ◌*◌, ◌≤◌, ◌<◌}
use lib.ListN.{length, get_or}
use Rattle.unpacked.specs.Number.{Unpacked, zero_number}
use Rattle.products.proofs.row.unpack_row.Given as goal

abbrev pub invariant-loop-l : goal.invariant-loop-l
invariant-loop-l l =
    (l.l ≤ l.k) × (length l.out ≡ length l.initial.out) × ((b : ℕ) → b < l.l → Unpacked (get_or l.patterns (l.i * l.k + b) 0) (get_or l.out b zero_number))

abbrev pub decreases-loop-l : goal.decreases-loop-l
decreases-loop-l l = l.k - l.l
