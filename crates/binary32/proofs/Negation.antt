-- The pattern with the other sign holds the negated number; to subtract is to add it.
use mathlib.Core.Path.{◌≡◌, refl, sym, ap, ap₂, ◌∙◌, subst, fun_ext}
use mathlib.Core.Bool.{Bool, true, false, cond}
use mathlib.Core.Logic.{⊎_elim}
use mathlib.Core.Option.{none, some, bind}
use Prim.Native.Nat.{ℕ, ◌+◌, ◌-◌, ◌*◌, ◌%◌, ◌^◌, ◌≤◌, ◌<◌}
use native.Mathlib.Omega.{arith}
use lib.Dec.{ltb}
use lib.IntN.{ℤ, neg_ℤ, pos, neg_ℤ-neg_ℤ}
use borrow.Author.Tests.{lt-ltb, le-ltb, lt-leb, le-leb}
use Rattle.algebra.proofs.Order.{≼_or_≺}
use Rattle.algebra.proofs.Natural.{to_le, to_lt}
use Rattle.rounding.specs.Format.{binary32}
use Rattle.rounding.specs.Pattern.{val}
use Rattle.binary32.specs.Number.{signed_by, value_of, finite, held, negated}
use Rattle.binary32.specs.Operations.{Way, add, sub, with₂}

pub negated_low : (p : ℕ) → p < 2 ^ 31 → p + 2 ^ 31 ≡ negated p
unfolding negated
negated_low p h = sym (ap (λ t. cond t (p + 2 ^ 31) (p - 2 ^ 31)) (lt-ltb p (2 ^ 31) h))

pub negated_high : (p : ℕ) → 2 ^ 31 ≤ p → p - 2 ^ 31 ≡ negated p
unfolding negated
negated_high p h = sym (ap (λ t. cond t (p + 2 ^ 31) (p - 2 ^ 31)) (le-ltb p (2 ^ 31) h))

-- the same magnitude, the other sign
record Flipped (p r : ℕ) : Type 0 where
  same : r % 2 ^ 31 ≡ p % 2 ^ 31
  other : value_of r ≡ neg_ℤ (value_of p)

flip_low : (p : ℕ) → p < 2 ^ 31 → Flipped p (p + 2 ^ 31)
unfolding value_of
flip_low p h =
    let s : (p + 2 ^ 31) % 2 ^ 31 ≡ p % 2 ^ 31 = omega arith in
    record {
      same = s;
      other =
          ap₂ (λ t n. signed_by t (val binary32 n)) (le-leb (2 ^ 31) (p + 2 ^ 31) (omega arith)) s
          ∙ ap (λ t. neg_ℤ (signed_by t (val binary32 (p % 2 ^ 31)))) (sym (lt-leb (2 ^ 31) p h));
    }

flip_high : (p : ℕ) → 2 ^ 31 ≤ p → p < 2 ^ 32 → Flipped p (p - 2 ^ 31)
unfolding value_of
flip_high p h l =
    let s : (p - 2 ^ 31) % 2 ^ 31 ≡ p % 2 ^ 31 = omega arith in
    record {
      same = s;
      other =
          ap₂ (λ t n. signed_by t (val binary32 n)) (lt-leb (2 ^ 31) (p - 2 ^ 31) (omega arith)) s
          ∙ sym (neg_ℤ-neg_ℤ (pos (val binary32 (p % 2 ^ 31))))
          ∙ ap (λ t. neg_ℤ (signed_by t (val binary32 (p % 2 ^ 31)))) (sym (le-leb (2 ^ 31) p h));
    }

flipped : (p : ℕ) → p < 2 ^ 32 → Flipped p (negated p)
flipped p l =
    ⊎_elim
    (λ h. subst (Flipped p) (negated_high p (to_le h)) (flip_high p (to_le h) l))
    (λ h. subst (Flipped p) (negated_low p (to_lt h)) (flip_low p (to_lt h)))
    (≼_or_≺ (pos (2 ^ 31)) (pos p))

pub negated_value : (p : ℕ) → p < 2 ^ 32 → value_of (negated p) ≡ neg_ℤ (value_of p)
negated_value p l = (flipped p l).other

pub negated_finite : (p : ℕ) → p < 2 ^ 32 → finite (negated p) ≡ finite p
negated_finite p l = ap (λ n. ltb n (255 * 2 ^ 23)) (flipped p l).same

-- a - b
pub sub_is : (way : Way) (a b : ℕ) → b < 2 ^ 32 → with₂ (add way) a (negated b) ≡ with₂ (sub way) a b
unfolding with₂ held bind
sub_is way a b l =
    ap₂ (λ t v. bind (held a) λ x. bind (cond t (some v) none) λ y. add way x y) (negated_finite b l) (negated_value b l)
    ∙ ap (bind (held a)) (fun_ext (λ x. turn x (finite b)))
  where
    turn : (x : ℤ) (t : Bool) → bind (cond t (some (neg_ℤ (value_of b))) none) (λ y. add way x y) ≡ bind (cond t (some (value_of b)) none) (λ y. sub way x y)
    turn x true = refl
    turn x false = refl
