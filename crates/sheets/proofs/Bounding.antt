-- Laws of one cell's bounds: the pattern of the same number, a cell that is handed in, and what a cell that passes tells. Assumes nothing.
use mathlib.Core.Path.{◌≡◌, refl, sym, ap, ap₂, ◌∙◌}
use mathlib.Core.Bool.{Bool, true, false, cond}
use mathlib.Core.Option.{Option}
use Prim.Native.Nat.{ℕ, zero, suc, ◌+◌, ◌%◌, ◌^◌, ◌<◌}
use native.Mathlib.Omega.{arith}
use native.Mathlib.Nat.{mod-eq_of_lt}
use lib.Dec.{ltb}
use lib.Ieee.{size}
use lib.IntN.{ℤ, pos, neg_ℤ}
use borrow.Author.Tests.{lt-leb, le-leb, ltb-true, ltb-false}
use Rattle.std.specs.Prelude.{Some, None}
use Rattle.rounding.specs.Format.{binary32, expo}
use Rattle.rounding.specs.Pattern.{val, encode}
use Rattle.rounding.proofs.Pattern.{val_lt}
use Rattle.rounding.proofs.Encoding.{encode_val}
use Rattle.refusals.specs.declared.reason.Reason.TheVariants.{NotFinite}
use Rattle.refusals.specs.Answer.{Judged, gives, refuses, done, unless, then}
use Rattle.refusals.proofs.Answers.{then_tells, unless_tells}
use Rattle.binary32.specs.Number.{signed_by, value_of, pattern_of, finite}
use Rattle.binary32.specs.Operations.{answer_of, answer}
use Rattle.binary32.proofs.Held.{finites_first, finites_second}
use Rattle.intervals.specs.Conversion.{fault_of, outward_of}
use Rattle.intervals.proofs.Faults.{fine_tells}
use Rattle.sheets.specs.Cell.{canonical_of, both_zero, handed_of, worn_fault, widened_of}

-- ---- the pattern of the same number

minus_zero : 0 ≡ canonical_of 0x80000000
unfolding canonical_of value_of val encode expo size
minus_zero = refl

pub canonical_minus_zero : (p : ℕ) → p ≡ 0x80000000 → 0 ≡ canonical_of p
canonical_minus_zero p e = minus_zero ∙ ap canonical_of (sym e)

canonical_low : (p : ℕ) → p < 2 ^ 31 → p ≡ canonical_of p
unfolding canonical_of value_of
canonical_low p h = sym (ap₂ (λ t n. pattern_of (signed_by t (val binary32 n))) (lt-leb (2 ^ 31) p h) (mod-eq_of_lt h) ∙ encode_val binary32 p)

negative : (v : ℕ) → 0 < v → pattern_of (neg_ℤ (pos v)) ≡ 2 ^ 31 + encode binary32 v
negative zero h = absurd (omega arith)
negative (suc k) h = refl

canonical_high : (p : ℕ) → 2 ^ 31 < p → p < 2 ^ 32 → p ≡ canonical_of p
unfolding canonical_of value_of
canonical_high p g h =
    let m : 0 < p % 2 ^ 31 = omega arith in
    let e : 2 ^ 31 + p % 2 ^ 31 ≡ p = omega arith in
    sym (ap (λ t. pattern_of (signed_by t (val binary32 (p % 2 ^ 31)))) (le-leb (2 ^ 31) p (omega arith))
    ∙ negative (val binary32 (p % 2 ^ 31)) (omega (arith, val_lt binary32 m))
    ∙ ap (λ x. 2 ^ 31 + x) (encode_val binary32 (p % 2 ^ 31)) ∙ e)

pub canonical_same : (p : ℕ) → p < 2 ^ 32 → (p ≡ 0x80000000 → ⊥) → p ≡ canonical_of p
canonical_same p h n = go (ltb p (2 ^ 31)) refl
  where
    go : (t : Bool) → ltb p (2 ^ 31) ≡ t → p ≡ canonical_of p
    go true e = canonical_low p (ltb-true p (2 ^ 31) e)
    go false e = canonical_high p (omega (arith, ltb-false p (2 ^ 31) e)) h

-- ---- a cell that is handed in

module _ (a b : ℕ) (v : Judged (Unit {0})) (e : v ≡ fault_of a b) where
  pub handed_fine : (p q : ℕ) (z : Bool) → v ≡ done → p ≡ canonical_of a → q ≡ canonical_of b → both_zero p q ≡ z → cond z (gives None) (gives (Some (p, q))) ≡ handed_of a b
  unfolding handed_of
  handed_fine p q z h f g k = rw (← e, h, ← f, ← g, k)

-- ---- a cell without a fault

pub fine_finite : (a b : ℕ) → fault_of a b ≡ done → (finite a ≡ true) × (finite b ≡ true)
fine_finite a b e = let f = (fine_tells a b e).both in (finites_first a b f, finites_second a b f)

pub answer_is : (op : ℤ → ℤ → Option ℤ) (a b : ℕ) → finite a ≡ true → finite b ≡ true → answer op a b ≡ answer_of (op (value_of a) (value_of b))
unfolding answer
answer_is op a b e f = ap₂ (λ s t. cond (cond s t false) (answer_of (op (value_of a) (value_of b))) (refuses NotFinite)) e f

-- ---- a cell that is read with an amount

pub worn_by : (a b w : ℕ) (t : Bool) → finite w ≡ t → then (unless t NotFinite) (fault_of a b) ≡ worn_fault a b w
unfolding worn_fault
worn_by a b w t e = ap (λ s. then (unless s NotFinite) (fault_of a b)) (sym e)

-- amount and bounds are numbers, and the bounds are in order
pub worn_tells : (a b w : ℕ) → worn_fault a b w ≡ done → (finite w ≡ true) × (fault_of a b ≡ done)
unfolding worn_fault
worn_tells a b w e = let t = then_tells (unless (finite w) NotFinite) (fault_of a b) tt e in (unless_tells _ _ t.0.1, t.1)

pub widened_tells : (a b w : ℕ) (x : ℕ × ℕ) → widened_of a b w ≡ gives x → (worn_fault a b w ≡ done) × (outward_of a b w ≡ gives x)
unfolding widened_of
widened_tells a b w x e = let t = then_tells (worn_fault a b w) (outward_of a b w) x e in (t.0.1, t.1)
