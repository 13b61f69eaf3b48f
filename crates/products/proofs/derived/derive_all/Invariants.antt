-- `products::derived::derive_all` meets its contract: of each cell below c, `of` made a pattern of `out`.
use mathlib.Core.Path.{◌≡◌}
use Prim.Native.Nat.{ℕ, ◌<◌}
use lib.ListN.{length, get_or}
use Rattle.products.proofs.derived.derive_all.Given as goal

abbrev pub invariant-loop-c : goal.invariant-loop-c
invariant-loop-c g l =
    (length l.out ≡ length l.initial.out) × ((b : ℕ) → b < l.c → goal.F-post g l.of (get_or l.m b 0) (get_or l.r b 0) (get_or l.out b 0))
