-- Running sums taken apart: when they go on, when they stop, what a term more makes of them, and that a sum which was refused stays refused.
-- A sum that is rounded up is kept with the other sign.
use mathlib.Core.Path.{◌≡◌, refl, sym, ap, ap₂, ◌∙◌, subst}
use mathlib.Core.Bool.{true, false, cond}
use mathlib.Core.List.{[], ◌∷◌}
use mathlib.Core.Option.{Option, none, some, bind}
use Prim.Native.Nat.{ℕ, zero, suc, ◌+◌, ◌-◌, ◌^◌, ◌≤◌, ◌<◌}
use native.Mathlib.Numerals.{add-one}
use native.Mathlib.Omega.{arith}
use lib.Dec.{ltb, lit<}
use lib.IntN.{ℤ, pos, neg_ℤ, nat_abs, ◌+ℤ◌, ◌*ℤ◌, neg_ℤ-neg_ℤ}
use borrow.Author.Tests.{lt-ltb, le-ltb}
use Rattle.algebra.specs.Order.{◌≼◌}
use Rattle.algebra.proofs.Linear.{reading, lin_eq}
use Rattle.algebra.proofs.Order.{≼_refl}
use Rattle.rounding.specs.Format.{binary32, MAX}
use Rattle.rounding.specs.Rounding.{up, down, near, negate}
use Rattle.rounding.proofs.Nearest.{near_odd}
use Rattle.enclosure.specs.Sums.{sum}
use Rattle.unpacked.specs.declared.Number.{Number}
use Rattle.unpacked.specs.Number.{worth, Below, Holds, Runs, IsNumber, zero_number, no_number}
use Rattle.unpacked.proofs.Unpacking.{none_holds}
use Rattle.products.specs.Running.{plus_down}
use Rattle.unpacked.proofs.Packing.{exp_high}
use Rattle.unpacked.proofs.Limits.{number_holds}

pub true_false : {A : Type 0} → true ≡ false → A
true_false e = absurd (subst (λ x. cond x (Unit {0}) ⊥) e tt)

-- ---- what follows a partial result
pub bind_some : (m : Option ℤ) (f : ℤ → Option ℤ) (v : ℤ) → m ≡ some v → bind m f ≡ f v
unfolding bind
bind_some m f v e = ap (λ t. bind t f) e

pub bind_none : (m : Option ℤ) (f : ℤ → Option ℤ) → m ≡ none → bind m f ≡ none
unfolding bind
bind_none m f e = ap (λ t. bind t f) e

-- ---- a partial result that is a number, or none
pub holds_runs : (m : Option ℤ) (x : Number) → Holds m x → ltb 653 x.exp ≡ false → Runs m x
holds_runs (some v) x h t = record {
  is = ap some (sym h.is.0);
  number = record { normal = h.part.normal; within = subst (λ w. nat_abs w ≤ MAX binary32) (sym h.is.0) h.is.1 };
}
holds_runs none x h t = true_false (sym (lt-ltb 653 x.exp (omega (arith, h.is.1))) ∙ t)

pub runs_holds : {m : Option ℤ} {x : Number} → Runs m x → Holds m x
runs_holds {x = x} r = subst (λ t. Holds t x) (sym r.is) (number_holds r.number)

pub holds_none : (m : Option ℤ) (x : Number) → Holds m x → ltb 653 x.exp ≡ true → m ≡ none
holds_none none x h t = refl
holds_none (some v) x h t = true_false (sym t ∙ le-ltb 653 x.exp (exp_high x number))
  where
    number : IsNumber x
    number = record { normal = h.part.normal; within = subst (λ w. nat_abs w ≤ MAX binary32) (sym h.is.0) h.is.1 }

-- what is none or a number, and what it is by its exponent
pub held_fits : {m : Option ℤ} {x : Number} → Holds m x → x.exp ≤ 653 → IsNumber x
held_fits {m} {x} h e = (holds_runs m x h (le-ltb 653 x.exp e)).number

pub number_runs : {m : Option ℤ} {x : Number} → IsNumber x → Holds m x → Runs m x
number_runs {m} {x} n h = holds_runs m x h (le-ltb 653 x.exp (exp_high x n))

pub no_holds : {m : Option ℤ} → m ≡ none → Holds m no_number
no_holds e = subst (λ m. Holds m no_number) (sym e) none_holds

-- the start of a sum
pub zero_worth : worth zero_number ≡ pos 0
unfolding worth
zero_worth = refl

pub zero_runs : Runs (some (pos 0)) zero_number
zero_runs = record {
  is = ap some (sym zero_worth);
  number = record {
    normal = record { whole = ap (λ t. t *ℤ pos (2 ^ 400)) (sym zero_worth); few = omega arith; full = λ h. absurd (no h); low = λ e. refl };
    within = subst (λ t. nat_abs t ≤ MAX binary32) (sym zero_worth) (omega arith);
  };
}
  where
    no : 0 < 0 → ⊥
    no h = omega arith

pub zero_below : Below zero_number
zero_below = subst (λ t. t ≼ pos 0) (sym zero_worth) (≼_refl (pos 0))

-- ---- a term more
module _ (add : ℤ → Option ℤ) (f : ℕ → Option ℤ) (s : ℤ) where
  pub sum_next : (l : ℕ) (v : ℤ) (t : Option ℤ) → sum add f s l ≡ some v → f l ≡ t → sum add f s (l + 1) ≡ bind t λ u. add (v +ℤ u)
  unfolding sum bind
  sum_next l v t e h = ap (sum add f s) (add-one l) ∙ ap₂ (λ m w. bind m λ a. bind w λ u. add (a +ℤ u)) e h

  sum_refused : (l : ℕ) → sum add f s l ≡ none → sum add f s (suc l) ≡ none
  unfolding sum bind
  sum_refused l e = ap (λ m. bind m λ a. bind (f l) λ u. add (a +ℤ u)) e

  stays : (l y : ℕ) → sum add f s l ≡ none → sum add f s (l + y) ≡ none
  stays l zero e =
      let q : l ≡ l + 0 = omega arith in
      subst (λ m. sum add f s m ≡ none) q e
  stays l (suc y) e =
      let q : suc (l + y) ≡ l + suc y = omega arith in
      subst (λ m. sum add f s m ≡ none) q (sum_refused (l + y) (stays l y e))

  -- a refusal stays
  pub sum_stays : (l k : ℕ) → l < k → sum add f s (l + 1) ≡ none → sum add f s k ≡ none
  sum_stays l k h e =
      let q : (l + 1) + (k - (l + 1)) ≡ k = omega arith in
      subst (λ m. sum add f s m ≡ none) q (stays (l + 1) (k - (l + 1)) e)

-- ---- rounding up is rounding down with the other sign
neg_sum : (a b : ℤ) → neg_ℤ (neg_ℤ a +ℤ neg_ℤ b) ≡ a +ℤ b
neg_sum a b = lin_eq (a ∷ b ∷ []) [] (search reading depth 20) (omega arith)

mirror_bind : (add back : ℤ → Option ℤ) → ((w : ℤ) → negate (add (neg_ℤ w)) ≡ back w) → (v : ℤ) (t : Option ℤ)
    → negate (bind t λ u. add (v +ℤ u)) ≡ bind (negate t) λ u. back (neg_ℤ v +ℤ u)
unfolding bind
mirror_bind add back turn v none = refl
mirror_bind add back turn v (some u) = ap (λ w. negate (add w)) (sym (neg_sum v u)) ∙ turn (neg_ℤ v +ℤ neg_ℤ u)

pub mirror_plus : (v : ℤ) (t : Option ℤ) → negate (bind t λ u. up binary32 1 (v +ℤ u)) ≡ plus_down (neg_ℤ v) (negate t)
unfolding down
mirror_plus = mirror_bind (up binary32 1) (down binary32 1) (λ w. refl)

pub negate² : (a : Option ℤ) → negate (negate a) ≡ a
negate² (some v) = ap some (neg_ℤ-neg_ℤ v)
negate² none = refl

-- a mirrored sum that goes on is the sum's number with the other sign
pub mirrored_is : (m : Option ℤ) (x : Number) → Runs (negate m) x → m ≡ some (neg_ℤ (worth x))
mirrored_is m x r = sym (negate² m) ∙ ap negate r.is

pub negate_none : (m : Option ℤ) → negate m ≡ none → m ≡ none
negate_none m e = sym (negate² m) ∙ ap negate e

-- ---- sums with a term more, taken apart
module _ (f : ℕ → Option ℤ) (s : ℤ) where
  pub down_more : (l : ℕ) (x r : Number) (t : Option ℤ) → Runs (sum (down binary32 1) f s l) x → f l ≡ t → Holds (plus_down (worth x) t) r → Holds (sum (down binary32 1) f s (l + 1)) r
  down_more l x r t R e h = subst (λ m. Holds m r) (sym (sum_next (down binary32 1) f s l (worth x) t R.is e)) h

  -- where `back` is `add` with the other sign
  mirrored_more : (add back : ℤ → Option ℤ) → ((w : ℤ) → negate (add (neg_ℤ w)) ≡ back w) → (l : ℕ) (x r : Number) (t : Option ℤ)
      → Runs (negate (sum add f s l)) x → f l ≡ t → Holds (bind (negate t) λ u. back (worth x +ℤ u)) r → Holds (negate (sum add f s (l + 1))) r
  mirrored_more add back turn l x r t R e h = subst (λ m. Holds m r) (sym whole) h
    where
      whole : negate (sum add f s (l + 1)) ≡ bind (negate t) λ u. back (worth x +ℤ u)
      whole =
          ap negate (sum_next add f s l (neg_ℤ (worth x)) t (mirrored_is (sum add f s l) x R) e)
          ∙ mirror_bind add back turn (neg_ℤ (worth x)) t ∙ ap (λ v. bind (negate t) λ u. back (v +ℤ u)) (neg_ℤ-neg_ℤ (worth x))

  pub up_more : (l : ℕ) (x r : Number) (t : Option ℤ) → Runs (negate (sum (up binary32 1) f s l)) x → f l ≡ t → Holds (plus_down (worth x) (negate t)) r
      → Holds (negate (sum (up binary32 1) f s (l + 1))) r
  unfolding down
  up_more = mirrored_more (up binary32 1) (down binary32 1) (λ w. refl)

  pub near_more : (l : ℕ) (x r : Number) (t : Option ℤ) → Runs (negate (sum (near binary32 1) f s l)) x → f l ≡ t → Holds (bind (negate t) λ u. near binary32 1 (worth x +ℤ u)) r
      → Holds (negate (sum (near binary32 1) f s (l + 1))) r
  near_more = mirrored_more (near binary32 1) (near binary32 1) (λ w. ap negate (near_odd binary32 1 (lit< tt) w) ∙ negate² (near binary32 1 w))

  -- and to nearest, or by any other rounding
  pub any_more : (add : ℤ → Option ℤ) (l : ℕ) (x r : Number) (t : Option ℤ) → Runs (sum add f s l) x → f l ≡ t → Holds (bind t λ u. add (worth x +ℤ u)) r → Holds (sum add f s (l + 1)) r
  any_more add l x r t R e h = subst (λ m. Holds m r) (sym (sum_next add f s l (worth x) t R.is e)) h
