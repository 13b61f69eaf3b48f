-- A method's number and its value: the five numbers, each with its value, or refusal 9 by the check too.
use mathlib.Core.Path.{◌≡◌, refl, sym, ap, subst}
use mathlib.Core.Bool.{Bool, true, false, cond}
use mathlib.Core.Option.{Option, none, some, get_or}
use Prim.Native.Nat.{ℕ}
use native.Mathlib.Omega.{arith}
use lib.Dec.{eqb}
use borrow.Author.Tests.{eqb-true}
use Rattle.enclosure.specs.Methods.{classical, three, four, five, seven, Method as Defined}
use Rattle.refusals.specs.declared.reason.Reason.TheVariants.{UnknownMethod}
use Rattle.refusals.specs.declared.Refusal.{Refusal}
use Rattle.refusals.specs.Refusal.{of_matrix}
use Rattle.refusals.specs.Answer.{Answer, gives, refuses, done, unless}
use Rattle.refusals.proofs.Answers.{not_both, gives_injective}
use Rattle.matrices.specs.declared.methods.Method.{Method}
use Rattle.matrices.specs.declared.methods.Method.TheVariants.{Classical, Three, Four, Five, Seven}
use Rattle.matrices.specs.Checks.{method_of, chosen, known, check_method}
use Rattle.matrices.specs.Methods.{meant, value_for, method_answer}

-- the check of a number answers as the value does
check_value : (o : Option Defined) (m : Method) → gives m ≡ value_for o → done ≡ unless (known o) (of_matrix UnknownMethod 0)
check_value (some m) v e = refl
check_value none m e = absurd (not_both (sym e))

-- the refusal of an answer, or r
abbrev refusal_in : {A : Type 0} → Answer A → Refusal → Refusal
refusal_in (gives v) r = r
refusal_in (refuses x) r = x

check_none : (o : Option Defined) (r : Refusal) → refuses r ≡ value_for o → refuses r ≡ unless (known o) (of_matrix UnknownMethod 0)
check_none (some classical) r e = absurd (not_both e)
check_none (some three) r e = absurd (not_both e)
check_none (some four) r e = absurd (not_both e)
check_none (some five) r e = absurd (not_both e)
check_none (some seven) r e = absurd (not_both e)
check_none none r e = ap (λ a. refuses (refusal_in a r)) e

pub checked_method : (n : ℕ) (m : Method) → gives m ≡ method_answer n → done ≡ check_method n
unfolding check_method method_answer
checked_method n m e = check_value (method_of n) m e

pub refused_method : (n : ℕ) (r : Refusal) → refuses r ≡ method_answer n → refuses r ≡ check_method n
unfolding check_method method_answer
refused_method n r e = check_none (method_of n) r e

-- the number of each value, and the method that it stands for
abbrev Is : ℕ → Method → Type 0
Is n Classical = (n ≡ 1)
Is n Three = (n ≡ 3)
Is n Four = (n ≡ 4)
Is n Five = (n ≡ 5)
Is n Seven = (n ≡ 7)

record Known (n : ℕ) (o : Option Defined) (m : Method) : Type 0 where
  pub number : Is n m
  pub method : meant m ≡ get_or o classical

known_by : (n : ℕ) (m : Method) → gives m ≡ method_answer n → Known n (method_of n) m
unfolding method_answer method_of meant
known_by n m e = go (eqb n 1) (eqb n 3) (eqb n 4) (eqb n 5) (eqb n 7) (eqb-true n 1) (eqb-true n 3) (eqb-true n 4) (eqb-true n 5) (eqb-true n 7) e
  where
    by : Bool → Bool → Bool → Bool → Bool → Option Defined
    by s t u v w = cond s (some classical) (cond t (some three) (cond u (some four) (cond v (some five) (cond w (some seven) none))))

    go : (s t u v w : Bool) → (s ≡ true → n ≡ 1) → (t ≡ true → n ≡ 3) → (u ≡ true → n ≡ 4) → (v ≡ true → n ≡ 5) → (w ≡ true → n ≡ 7)
        → gives m ≡ value_for (by s t u v w) → Known n (by s t u v w) m
    go true t u v w a b c d f e = subst (Known n (some classical)) (sym (gives_injective e)) (record { number = a refl; method = refl })
    go false true u v w a b c d f e = subst (Known n (some three)) (sym (gives_injective e)) (record { number = b refl; method = refl })
    go false false true v w a b c d f e = subst (Known n (some four)) (sym (gives_injective e)) (record { number = c refl; method = refl })
    go false false false true w a b c d f e = subst (Known n (some five)) (sym (gives_injective e)) (record { number = d refl; method = refl })
    go false false false false true a b c d f e = subst (Known n (some seven)) (sym (gives_injective e)) (record { number = f refl; method = refl })
    go false false false false false a b c d f e = absurd (not_both (sym e))

pub method_chosen : (n : ℕ) (m : Method) → gives m ≡ method_answer n → meant m ≡ chosen n
method_chosen n m e = (known_by n m e).method

-- method 1 is the number 1, and no other method is
pub classical_number : (n : ℕ) (m : Method) → gives m ≡ method_answer n → m ≡ Classical → n ≡ 1
classical_number n m e c = subst (Is n) c (known_by n m e).number

pub other_number : (n : ℕ) (m : Method) → gives m ≡ method_answer n → (m ≡ Classical → ⊥) → n ≡ 1 → ⊥
other_number n m e other one = go m (known_by n m e).number other
  where
    go : (m : Method) → Is n m → (m ≡ Classical → ⊥) → ⊥
    go Classical i o = o refl
    go Three i o = omega arith
    go Four i o = omega arith
    go Five i o = omega arith
    go Seven i o = omega arith
