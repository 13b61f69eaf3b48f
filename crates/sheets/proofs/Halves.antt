-- Bounds and an amount below 2^127: the sum of two such numbers is at most the largest number, so widening is not refused. Assumes nothing.
use mathlib.Core.Path.{◌≡◌, refl, ap, ap₂, subst, ◌∙◌}
use mathlib.Core.Bool.{Bool, true, false}
use mathlib.Core.List.{[], ◌∷◌}
use Prim.Native.Nat.{ℕ, ◌+◌, ◌*◌, ◌%◌, ◌^◌, ◌≤◌, ◌<◌}
use native.Mathlib.Omega.{arith}
use lib.Dec.{leb, lit<}
use lib.IntN.{ℤ, pos, neg_ℤ, ◌+ℤ◌, ◌-ℤ◌}
use Rattle.algebra.specs.Order.{◌≼◌}
use Rattle.algebra.proofs.Linear.{reading, le, lin_le}
use Rattle.algebra.proofs.Natural.{of_le}
use Rattle.rounding.specs.Format.{binary32, MAX}
use Rattle.rounding.specs.Pattern.{val}
use Rattle.rounding.specs.Rounding.{up, down, negate}
use Rattle.rounding.proofs.Directed.{up_number}
use Rattle.rounding.proofs.Pattern.{val_le}
use Rattle.rounding.proofs.Sign.{neg_le, neg_le_pos}
use Rattle.refusals.specs.Answer.{gives, both}
use Rattle.binary32.specs.Number.{signed_by, value_of, finite}
use Rattle.binary32.specs.Operations.{add, sub, answer_of}
use Rattle.binary32.specs.Order.{magnitude_of, at_most}
use Rattle.binary32.proofs.Held.{is_finite}
use Rattle.intervals.specs.Conversion.{fault_of, outward_of}
use Rattle.sheets.specs.Cell.{worn_fault, widened_of}
use Rattle.sheets.proofs.Bounding.{answer_is}

-- p is below 2^127 in magnitude
abbrev pub Half : ℕ → Type 0
Half p = magnitude_of p < 0x7F000000

-- the greatest such number, half of the largest number
abbrev half : ℕ
half = val binary32 0x7EFFFFFF

twice : half + half ≡ MAX binary32 * 1
unfolding val MAX
twice = refl

half_finite : (p : ℕ) → Half p → finite p ≡ true
half_finite p h = is_finite p (omega arith)

-- ---- the value of such a number lies between -half and half

within : (t : Bool) (n m : ℕ) → n ≤ m → (neg_ℤ (pos m) ≼ signed_by t n) × (signed_by t n ≼ pos m)
within true n m h = (neg_le h, neg_le_pos n m)
within false n m h = (neg_le_pos m n, of_le h)

half_value : (p : ℕ) → Half p → (neg_ℤ (pos half) ≼ value_of p) × (value_of p ≼ pos half)
unfolding value_of
half_value p h = within (leb (2 ^ 31) p) (val binary32 (p % 2 ^ 31)) half (val_le binary32 (omega arith))

-- ---- x + y, and the opposite of x - y

sum_le : (x y : ℤ) (m n : ℕ) → x ≼ pos m → y ≼ pos m → m + m ≡ n → x +ℤ y ≼ pos n
sum_le x y m n h k e =
    let s : x +ℤ y ≼ pos m +ℤ pos m = lin_le (x ∷ y ∷ pos m ∷ []) (le h ∷ le k ∷ []) (search reading depth 20) (omega arith) in
    subst (λ (j : ℕ). x +ℤ y ≼ pos j) e s

difference_le : (x y : ℤ) (m n : ℕ) → neg_ℤ (pos m) ≼ x → y ≼ pos m → m + m ≡ n → neg_ℤ (x -ℤ y) ≼ pos n
difference_le x y m n h k e =
    let s : neg_ℤ (x -ℤ y) ≼ pos m +ℤ pos m = lin_le (x ∷ y ∷ pos m ∷ []) (le h ∷ le k ∷ []) (search reading depth 20) (omega arith) in
    subst (λ (j : ℕ). neg_ℤ (x -ℤ y) ≼ pos j) e s

-- ---- two bounds and an amount

outward_half : (a b w : ℕ) → Half a → Half b → Half w → (x : ℕ × ℕ) × (outward_of a b w ≡ gives x)
unfolding down
outward_half a b w ha hb hw =
    let y = (half_value w hw).1 in
    let l = up_number binary32 1 (lit< tt) (difference_le (value_of a) (value_of w) half _ (half_value a ha).0 y twice) in
    let u = up_number binary32 1 (lit< tt) (sum_le (value_of b) (value_of w) half _ (half_value b hb).1 y twice) in (
      _,
      ap₂ both (answer_is (sub down) a w (half_finite a ha) (half_finite w hw) ∙ ap (λ o. answer_of (negate o)) l.1)
          (answer_is (add up) b w (half_finite b hb) (half_finite w hw) ∙ ap answer_of u.1),
    )

-- and in order: a cell that is not refused
pub widened_half : (a b w : ℕ) → Half a → Half b → Half w → at_most a b ≡ true → (x : ℕ × ℕ) × (widened_of a b w ≡ gives x)
unfolding widened_of worn_fault fault_of
widened_half a b w ha hb hw e =
    let x = outward_half a b w ha hb hw in
    (x.0, rw (half_finite a ha, half_finite b hb, half_finite w hw, e) x.1)
