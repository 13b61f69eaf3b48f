-- Laws of the printed lines: how long they are, and that their fields are put in one after the other. Assumes nothing.
use mathlib.Core.List.{List}
use Prim.Native.Nat.{ℕ, zero, suc, ◌+◌, ◌*◌, ◌-◌, ◌/◌, ◌%◌, ◌^◌, ◌≤◌, ◌<◌}
use native.Mathlib.Nat.{mul-le-mul_right}
use native.Mathlib.Numerals.{add-one}
use native.Mathlib.Omega.{arith}
use lib.ListN.{length, get_or, length-append}
use borrow.Rule.Slice.PartMut.{mid_of, put_mid}
use Rattle.sheets.proofs.Counting.{div_lt, mod_lt}
use Rattle.print_product.specs.Digits.{digit_count, decimal}
use Rattle.print_product.specs.Lines.{product_line, cell_line}
use Rattle.print_product.specs.Printed.{cell_lines}
use Rattle.print_product.specs.Put.{Put}
use Rattle.print_product.proofs.DigitLaws.{digits_length, digit_count_below}
use Rattle.print_product.proofs.Puts.{put_more}

-- ---- fields

digits_below : (k n : ℕ) → n < 10 ^ suc k → length (decimal n) ≤ k + 1
digits_below k n h = omega (arith, digits_length 10 (digit_count n) n, digit_count_below k n n h)

-- ---- lines

pub product_length : (m r c : ℕ) → m < 10 → r < 100 → c < 100 → length (product_line m r c) ≤ 16
unfolding product_line
product_length m r c h k l =
    simp length-append (omega (arith, digits_below 0 m (omega arith), digits_below 1 r (omega arith), digits_below 1 c (omega arith)))

pub cell_length : (i j l u : ℕ) → i < 100 → j < 100 → length (cell_line i j l u) ≤ 24
unfolding cell_line
cell_length i j l u h k =
    simp length-append (omega (arith, digits_below 1 i (omega arith), digits_below 1 j (omega arith), digits_length 16 8 l, digits_length 16 8 u))

-- ---- cells

pub wide : (r c : ℕ) → r ≤ 32 → r * c ≤ 32 * c
wide r c h = mul-le-mul_right c h

pub cells_length : (c p : ℕ) (lo up : List ℕ) → 0 < c → c ≤ 32 → p ≤ 32 * c → length (cell_lines c lo up p) ≤ 24 * p
unfolding cell_lines
cells_length c zero lo up h k l = omega arith
cells_length c (suc p) lo up h k l =
    let row = div_lt p c 32 h (omega arith) in
    let column = mod_lt p c h in
    simp length-append (omega (arith, cells_length c p lo up h k (omega arith), cell_length (p / c) (p % c) (get_or lo p 0) (get_or up p 0) (omega arith) (omega arith)))

pub cells_more : {n m : ℕ} {d out part : List ℕ} (columns p : ℕ) (lo up : List ℕ) → Put (cell_lines columns lo up p) d n out
    → Put (cell_line (p / columns) (p % columns) (get_or lo p 0) (get_or up p 0)) (mid_of n (length out - n) out) m part
    → Put (cell_lines columns lo up (p + 1)) d (n + m) (put_mid n (length out - n) out part)
unfolding cell_lines
cells_more columns p lo up f g = rw (add-one p) (put_more f g)
