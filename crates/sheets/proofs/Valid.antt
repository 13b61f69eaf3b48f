-- A load is accepted exactly if it has 32 bytes and its eight amounts are numbers, the first of them zero, that rise. Assumes nothing.
use mathlib.Core.Path.{◌≡◌, refl, sym, ap, subst, ◌∙◌}
use mathlib.Core.Bool.{Bool, true, false}
use mathlib.Core.List.{List}
use mathlib.Core.Logic.{◌↔◌}
use Prim.Native.Nat.{ℕ, zero, suc, ◌+◌, ◌-◌, ◌%◌, ◌^◌, ◌≤◌, ◌<◌}
use native.Mathlib.Omega.{arith}
use lib.Dec.{eqb, leb}
use lib.IntN.{pos}
use lib.ListN.{length}
use borrow.Author.Tests.{eq-eqb, eqb-true}
use Rattle.algebra.specs.Order.{◌≼◌}
use Rattle.algebra.proofs.Order.{≼_refl, ≼_trans}
use Rattle.rounding.specs.Format.{binary32}
use Rattle.rounding.specs.Pattern.{val}
use Rattle.rounding.proofs.Pattern.{val_injective}
use Rattle.refusals.specs.declared.reason.Reason.TheVariants.{WrongLayout, NotFinite}
use Rattle.refusals.specs.Answer.{done, unless}
use Rattle.refusals.proofs.Answers.{and_tells, then_tells, unless_tells}
use Rattle.binary32.specs.Number.{signed_by, value_of, finite}
use Rattle.binary32.specs.Order.{magnitude_of}
use Rattle.binary32.proofs.Held.{and_both, is_finite}
use Rattle.binary32.proofs.Orders.{val_zero, at_most_tells, at_most_is}
use Rattle.sheets.specs.Wear.{amount_in}
use Rattle.sheets.specs.Load.{patterns_of, all_finite, rising, ascending, amounts_fault, load_fault}
use Rattle.sheets.proofs.AllFrom.{all_tells, all_are}
use Rattle.sheets.proofs.Exact.{Zero}

pub record Valid (amounts : List ℕ) : Type 0 where
  pub first : Zero (amount_in amounts 0)
  pub numbers : (c : ℕ) → c < 8 → finite (amount_in amounts c) ≡ true
  pub rises : (c e : ℕ) → c ≤ e → e < 8 → value_of (amount_in amounts c) ≼ value_of (amount_in amounts e)

-- ---- the test for zero, of either sign

zero_of : (p : ℕ) → magnitude_of p ≡ 0 → Zero p
unfolding value_of
zero_of p e = (is_finite p (omega arith), ap (λ (m : ℕ). signed_by (leb (2 ^ 31) p) (val binary32 m)) e ∙ ap (signed_by (leb (2 ^ 31) p)) val_zero ∙ go (leb (2 ^ 31) p))
  where
    go : (t : Bool) → signed_by t 0 ≡ pos 0
    go true = refl
    go false = refl

of_zero : (p : ℕ) → Zero p → magnitude_of p ≡ 0
unfolding value_of
of_zero p z = val_injective binary32 (go (leb (2 ^ 31) p) (val binary32 (p % 2 ^ 31)) z.1 ∙ sym val_zero)
  where
    go : (t : Bool) (n : ℕ) → signed_by t n ≡ pos 0 → n ≡ 0
    go true zero e = refl
    go true (suc n) e = let x : ◌≡◌ {A = ℕ} 0 1 = cc in absurd (omega arith)
    go false n e = let x : n ≡ 0 = cc in x

module _ (amounts : List ℕ) where
  -- of two classes the higher one has no smaller amount, where each class has none below its forerunner's
  rises_by : ((c : ℕ) → c < 7 → value_of (amount_in amounts c) ≼ value_of (amount_in amounts (c + 1))) → (m c : ℕ) → c + m < 8 → value_of (amount_in amounts c) ≼ value_of (amount_in amounts (c + m))
  rises_by h zero c k = subst (λ (x : ℕ). value_of (amount_in amounts c) ≼ value_of (amount_in amounts x)) (omega arith) (≼_refl _)
  rises_by h (suc m) c k =
      ≼_trans (h c (omega arith)) (subst (λ (x : ℕ). value_of (amount_in amounts (c + 1)) ≼ value_of (amount_in amounts x)) (omega arith) (rises_by h m (c + 1) (omega arith)))

  tells : (all_finite amounts ≡ true) × (ascending amounts ≡ true) → Valid amounts
  unfolding all_finite rising ascending
  tells t =
      let a = and_tells (eqb (magnitude_of (amount_in amounts 0)) 0) _ t.1 in
      record {
        first = zero_of _ (eqb-true _ _ a.0);
        numbers = λ c h. all_tells _ 8 0 t.0 c (omega arith) (omega arith);
        rises = λ c e h k.
            subst (λ (x : ℕ). value_of (amount_in amounts c) ≼ value_of (amount_in amounts x)) (omega arith)
            (rises_by (λ i l. at_most_tells _ _ (all_tells _ 7 0 a.1 i (omega arith) (omega arith))) (e - c) c (omega arith));
      }

  tests : Valid amounts → (all_finite amounts ≡ true) × (ascending amounts ≡ true)
  unfolding all_finite rising ascending
  tests v = (
    all_are _ 8 0 (λ e h k. v.numbers e (omega arith)),
    and_both _ _ (eq-eqb _ 0 (of_zero _ v.first)) (all_are _ 7 0 (λ e h k. at_most_is _ _ (v.rises e (e + 1) (omega arith) (omega arith)))),
  )

-- ---- a load

pub accepted_is : (d : List ℕ) → (load_fault d ≡ done) ↔ ((length d ≡ 32) × Valid (patterns_of d))
unfolding load_fault amounts_fault
accepted_is d = (
  λ e.
      let t = then_tells (unless (eqb (length d) 32) WrongLayout) _ tt e in
      let u = then_tells (unless (all_finite (patterns_of d)) NotFinite) _ tt t.1 in
      (eqb-true _ _ (unless_tells _ _ t.0.1), tells (patterns_of d) (unless_tells _ _ u.0.1, unless_tells _ _ u.1)),
  λ v. let t = tests (patterns_of d) v.1 in rw (eq-eqb (length d) 32 v.0, t.0, t.1),
)
