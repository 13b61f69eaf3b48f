-- Laws of a write's answer: what one that is not refused tells. Assumes nothing.
use mathlib.Core.Path.{◌≡◌, refl}
use mathlib.Core.Bool.{Bool, true, false, cond}
use mathlib.Core.List.{List}
use Prim.Native.Nat.{ℕ, ◌+◌, ◌*◌, ◌≤◌, ◌<◌}
use native.Mathlib.Omega.{arith}
use lib.Dec.{ltb}
use lib.ListN.{length, get_or}
use borrow.Author.Tests.{ltb-false}
use Rattle.refusals.specs.declared.reason.Reason.TheVariants.{NoRoom}
use Rattle.refusals.specs.Answer.{gives, done, refuse}
use Rattle.refusals.specs.Sizes.{check_fit}
use Rattle.refusals.proofs.Answers.{not_both, then_tells, next_tells}
use Rattle.refusals.proofs.SizeLaws.{small, Fitting, fit_tells}
use Rattle.intervals.specs.Conversion.{fault_of}
use Rattle.sheets.specs.Sheet.{count_to}
use Rattle.sheets.specs.Writing.{scan_to, by_room, write_of}
use Rattle.sheets.proofs.Counting.{count_le}
use Rattle.sheets.proofs.Scanning.{scan_tells}

-- what a write that is not refused tells
pub record Granted (rows columns : ℕ) (lo up : List ℕ) (room n : ℕ) : Type 0 where
  pub sized : Fitting rows columns (length lo) (length up)
  pub few : rows * columns ≤ 1024
  pub fine : (q : ℕ) → q < rows * columns → fault_of (get_or lo q 0) (get_or up q 0) ≡ done
  pub counted : count_to lo up (rows * columns) ≤ rows * columns
  pub bytes : n ≡ 16 * (count_to lo up (rows * columns) + 1)
  pub roomy : n ≤ room

room_tells : (room k n : ℕ) → by_room room k ≡ gives n → (n ≡ 16 * (k + 1)) × (n ≤ room)
room_tells room k n e = go (ltb room (16 * (k + 1))) refl e
  where
    go : (b : Bool) → ltb room (16 * (k + 1)) ≡ b → cond b (refuse NoRoom) (gives (16 * (k + 1))) ≡ gives n → (n ≡ 16 * (k + 1)) × (n ≤ room)
    go true p h = absurd (not_both h)
    go false p h = let y : n ≡ 16 * (k + 1) = cc in (y, omega (arith, ltb-false room (16 * (k + 1)) p))

pub bytes_tell : (rows columns : ℕ) (lo up : List ℕ) (room n : ℕ) → write_of rows columns lo up room ≡ gives n → Granted rows columns lo up room n
unfolding write_of
bytes_tell rows columns lo up room n e =
    let a = then_tells (check_fit 0 rows columns (length lo) (length up)) _ n e in
    let z = fit_tells 0 rows columns (length lo) (length up) a.0.1 in
    let t = next_tells (scan_to columns lo up (rows * columns)) (by_room room) n a.1 in
    let s = scan_tells columns lo up (rows * columns) t.0 t.1 in
    let r = room_tells room t.0 n t.2 in
    record {
      sized = z;
      few = small rows columns z.rows z.columns;
      fine = s.1;
      counted = count_le lo up (rows * columns);
      bytes = omega (arith, r.0, s.0);
      roomy = r.1;
    }

-- no sheet is longer than the longest
pub length_small : (rows columns : ℕ) (lo up : List ℕ) (room n : ℕ) → write_of rows columns lo up room ≡ gives n → n ≤ 16400
length_small rows columns lo up room n e =
    let g = bytes_tell rows columns lo up room n e in
    omega (arith, g.bytes, g.few, g.counted)
