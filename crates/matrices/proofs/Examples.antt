-- The worked examples of the papers, as one statement about a table: what the definitions give is what the papers state. Numbers are patterns.
use mathlib.Core.Path.{◌≡◌, refl}
use mathlib.Core.List.{List, [], ◌∷◌, ◌++◌, map}
use mathlib.Core.Option.{bind}
use Prim.Native.Nat.{ℕ}
use lib.Ieee.{size}
use Rattle.algebra.specs.Extremes.{minℤ, maxℤ}
use Rattle.rounding.specs.Format.{MAX, expo}
use Rattle.rounding.specs.Rounding.{ceil, lo, hi, nr, up, down, near}
use Rattle.rounding.specs.Pattern.{val, encode}
use Rattle.enclosure.specs.Sums.{sum}
use Rattle.enclosure.specs.Conversion.{mid, rad}
use Rattle.enclosure.specs.Methods.{entry, entry₁, ends, radius₃, radius₄, radius₇, centre, centre₇, total}
use Rattle.enclosure.specs.Methods.{least_term, greatest_term, inner_term, outer_radius, outer_term, raised_radius, raised_term, shared_term, mid_term, part_term, part}
use Rattle.refusals.specs.declared.reason.Reason.{Reason}
use Rattle.refusals.specs.declared.reason.Reason.TheVariants.{TooLarge}
use Rattle.refusals.specs.Answer.{Answer, Judged, gives, refuse, unplaced, and_then, then}
use Rattle.refusals.specs.Sizes.{check_size, check_lengths}
use Rattle.binary32.specs.Number.{value_of, held, negated}
use Rattle.binary32.specs.Operations.{with₂, answer, add_down, add_up, add_near, mul_down, mul_up}
use Rattle.intervals.specs.Conversion.{fault_of, mid_of, rad_of, midrad_of}
use Rattle.matrices.specs.Lists.{tabulate, first}
use Rattle.matrices.specs.Matrix.{cell_at}
use Rattle.matrices.specs.Entries.{entry_of, entry_at, stop_of, lower_of, upper_of}
use Rattle.matrices.specs.Checks.{given, method_of, check_method, check_sizes, check_operands, check_lent, check_slices, check_cells, check_both, check_shapes, check_of}
use Rattle.matrices.specs.Product.{product_of, result_after}

-- answers with the patterns that they give, one or two: of an operation, of a conversion, of a product
pub record Line : Type 0 where
  pub found : Answer (List ℕ)
  pub stated : Answer (List ℕ)

abbrev one : Judged ℕ → Answer (List ℕ)
one a = and_then (unplaced a) (λ p. gives (p ∷ []))

abbrev two : Judged (ℕ × ℕ) → Answer (List ℕ)
two a = and_then (unplaced a) (λ p. gives (p.0 ∷ p.1 ∷ []))

-- [al, au] × [bl, bu], one row and one column
abbrev product : ℕ → (al au bl bu : ℕ) → Answer (List ℕ)
product method al au bl bu =
    let g = given method 1 1 1 1 (al ∷ []) (au ∷ []) (bl ∷ []) (bu ∷ []) 1 1 1 1 1 1 in
    then (product_of g) (gives (result_after g lower_of (0 ∷ []) ++ result_after g upper_of (0 ∷ [])))

abbrev is : Answer (List ℕ) → List ℕ → Line
is found stated = record { found = found; stated = gives stated }

abbrev refused : Answer (List ℕ) → Reason → Line
refused found reason = record { found = found; stated = refuse reason }

unfoldable pub table : List Line
table =
    -- 1 + 2^-24: up 1 + 2^-23, down 1, nearest 1
    is (one (add_up 0x3F800000 0x33800000)) (0x3F800001 ∷ [])
    ∷ is (one (add_down 0x3F800000 0x33800000)) (0x3F800000 ∷ [])
    ∷ is (one (add_near 0x3F800000 0x33800000)) (0x3F800000 ∷ [])
    -- MAX + 2^103 nearest: 5. MAX + 1 unit: up 5, down MAX
    ∷ refused (one (add_near 0x7F7FFFFF 0x73000000)) TooLarge
    ∷ refused (one (add_up 0x7F7FFFFF 1)) TooLarge
    ∷ is (one (add_down 0x7F7FFFFF 1)) (0x7F7FFFFF ∷ [])
    -- one unit × one unit: up one unit, down 0. Minus one unit × one unit: down minus one unit, up 0
    ∷ is (one (mul_up 1 1)) (1 ∷ [])
    ∷ is (one (mul_down 1 1)) (0 ∷ [])
    ∷ is (one (mul_down 0x80000001 1)) (0x80000001 ∷ [])
    ∷ is (one (mul_up 0x80000001 1)) (0 ∷ [])
    -- [MAX, MAX] gives <MAX, 0>, [-MAX, MAX] gives <0, MAX>
    ∷ is (two (midrad_of 0x7F7FFFFF 0x7F7FFFFF)) (0x7F7FFFFF ∷ 0 ∷ [])
    ∷ is (two (midrad_of 0xFF7FFFFF 0x7F7FFFFF)) (0 ∷ 0x7F7FFFFF ∷ [])
    -- [1 - 2^-24, 1 + 2^-23] gives <1, 2^-23>
    ∷ is (two (midrad_of 0x3F7FFFFF 0x3F800001)) (0x3F800000 ∷ 0x34000000 ∷ [])
    -- [0, 2] × [0, 2]: method 4 [-2, 4], methods 1 and 7 [0, 4]
    ∷ is (product 4 0 0x40000000 0 0x40000000) (0xC0000000 ∷ 0x40800000 ∷ [])
    ∷ is (product 1 0 0x40000000 0 0x40000000) (0 ∷ 0x40800000 ∷ [])
    ∷ is (product 7 0 0x40000000 0 0x40000000) (0 ∷ 0x40800000 ∷ [])
    -- [1, 2] × [-1, 3]: methods 1 and 7 [-2, 6], method 3 patterns C0400004 and 40C00002
    ∷ is (product 1 0x3F800000 0x40000000 0xBF800000 0x40400000) (0xC0000000 ∷ 0x40C00000 ∷ [])
    ∷ is (product 7 0x3F800000 0x40000000 0xBF800000 0x40400000) (0xC0000000 ∷ 0x40C00000 ∷ [])
    ∷ is (product 3 0x3F800000 0x40000000 0xBF800000 0x40400000) (0xC0400004 ∷ 0x40C00002 ∷ [])
    ∷ []

pub stated_is_found : map (λ l. l.found) table ≡ map (λ l. l.stated) table
unfolding table answer with₂ held value_of negated bind fault_of mid_of rad_of midrad_of product_of result_after check_of check_shapes check_method method_of check_sizes check_size check_lengths check_slices check_operands
    check_lent check_both check_cells first stop_of tabulate entry_at entry_of cell_at entry entry₁ ends radius₃ radius₄ radius₇ centre centre₇ total sum least_term greatest_term
    inner_term outer_radius outer_term raised_radius raised_term shared_term mid_term part_term part minℤ maxℤ mid rad up down near lo hi nr ceil expo size MAX val encode
stated_is_found = refl
