-- Laws of the cut between sheets: where it is, and what stands behind it. Assumes nothing.
use mathlib.Core.Path.{◌≡◌}
use mathlib.Core.List.{List}
use Prim.Native.Nat.{ℕ, ◌-◌, ◌*◌, ◌≤◌, min}
use native.Mathlib.Omega.{arith}
use lib.ListN.{length, take, drop, length-drop}
use lib.Seq.{take_all}
use borrow.Author.Tests.{le-ltb}
use Rattle.sheets.specs.Layout.{count_of}
use Rattle.sheets.specs.Cut.{first_length}

pub length_long : (s : List ℕ) (n k : ℕ) → 6 ≤ length s → n ≡ count_of s → k ≡ min (16 * n) (length s) → k ≡ first_length s
unfolding first_length
length_long s n k h e f = rw (le-ltb (length s) 6 h, f, e)

-- the part from byte k on, as the code takes it
pub rest_is : (s : List ℕ) (k : ℕ) → take (length s - k) (drop k s) ≡ drop k s
rest_is s k = take_all (length s - k) (drop k s) (omega (arith, length-drop k s))
