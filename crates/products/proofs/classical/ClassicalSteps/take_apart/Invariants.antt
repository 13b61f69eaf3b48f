-- `Classical::take_apart` meets its contract: the cells passed are taken apart.
use mathlib.Core.Path.{◌≡◌}
use Prim.Native.Nat.{ℕ, ◌+◌, ◌*◌, ◌<◌}
use lib.ListN.{length, get_or}
use Rattle.products.specs.Apart.{IsApart, zero_apart}
use Rattle.products.proofs.classical.ClassicalSteps.take_apart.Given as goal

abbrev pub invariant-loop-l : goal.invariant-loop-l
invariant-loop-l l =
    (length l.row ≡ 32) × ((b : ℕ) → b < l.l → IsApart (get_or l.self.al.now (l.i * l.self.shape.k + b) 0) (get_or l.self.au.now (l.i * l.self.shape.k + b) 0) (get_or l.row b zero_apart))
