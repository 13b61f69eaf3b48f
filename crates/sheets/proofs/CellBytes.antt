-- Laws of one cell's bytes in the sheet, and of the index that comes next. Assumes nothing.
use mathlib.Core.Path.{◌≡◌, refl}
use mathlib.Core.List.{List, []}
use Prim.Native.Nat.{ℕ, ◌+◌, ◌*◌, ◌≤◌, ◌<◌}
use native.Mathlib.Omega.{arith}
use lib.ListN.{length}
use lib.Seq.{paste-zero}
use borrow.Author.Tests.{lt-ltb, le-ltb}
use Rattle.std.specs.Prelude.{Some, None}
use Rattle.refusals.specs.Answer.{gives, refuses}
use Rattle.sheets.specs.Cell.{HandedIn}
use Rattle.sheets.specs.Sheet.{record_bytes, over, tally, next_of, cell_bytes}

pub next_more : (total k : ℕ) → k < total → k + 1 ≡ next_of total k
unfolding next_of
next_more total k h = rw (lt-ltb k total h)

pub next_end : (total k : ℕ) → total ≤ k → 0 ≡ next_of total k
unfolding next_of
next_end total k h = rw (le-ltb k total h)

pub record_length : (n r c l u : ℕ) → length (record_bytes n r c l u) ≡ 16
unfolding record_bytes
record_length n r c l u = refl

pub tally_le : (b : HandedIn) → tally b ≤ 1
unfolding tally
tally_le (gives None) = omega arith
tally_le (gives (Some (x, y))) = omega arith
tally_le (refuses n) = omega arith

-- where no record is put
pub nothing : (k m : ℕ) (out : List ℕ) → (k ≡ k + 0) × (out ≡ over m [] out)
unfolding over
nothing k m out = (omega arith, paste-zero out m [])

pub cell_length : (n r c : ℕ) (b : HandedIn) → length (cell_bytes n r c b) ≡ 16 * tally b
unfolding tally cell_bytes
cell_length n r c (gives None) = refl
cell_length n r c (gives (Some (x, y))) = record_length n r c x y
cell_length n r c (refuses x) = refl
