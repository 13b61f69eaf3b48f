-- Moving bounds outward loses nothing: the new bounds enclose the exact ones. So bounds that were converted to midpoint and radius, and back, enclose
-- those of before; and bounds in order stay in order. Assumes nothing.
use mathlib.Core.Path.{◌≡◌, refl, sym, ap, ◌∙◌, subst}
use mathlib.Core.Bool.{Bool, true, false, cond}
use mathlib.Core.List.{[], ◌∷◌}
use mathlib.Core.Option.{Option, none, some}
use Prim.Native.Nat.{ℕ}
use native.Mathlib.Omega.{arith}
use lib.IntN.{ℤ, pos, ◌+ℤ◌, ◌-ℤ◌}
use Rattle.algebra.specs.Order.{◌≼◌}
use Rattle.algebra.proofs.Linear.{reading, le, lin_le}
use Rattle.algebra.proofs.Order.{≼_trans}
use Rattle.rounding.specs.Format.{binary32, Num}
use Rattle.rounding.specs.Rounding.{up, down}
use Rattle.rounding.specs.Property.{IsUp, IsDown}
use Rattle.rounding.proofs.Directed.{up_is, down_is}
use Rattle.refusals.specs.declared.reason.Reason.TheVariants.{NotFinite}
use Rattle.refusals.specs.Answer.{gives, refuses, done}
use Rattle.refusals.proofs.Answers.{gives_injective, not_both, both_tell, then_tells}
use Rattle.enclosure.proofs.Laws.{one}
use Rattle.binary32.specs.Number.{value_of, finite, finites, pattern_of}
use Rattle.binary32.specs.Operations.{add, sub, sub_down, add_up, answer_of, answer}
use Rattle.binary32.proofs.Held.{and_both, is_finite, pattern_value, pattern_finite}
use Rattle.binary32.proofs.Orders.{at_most_is}
use Rattle.intervals.specs.Conversion.{fault_of, mid_of, rad_of, outward_of, radius_fault_of, bounds_of}
use Rattle.intervals.proofs.Faults.{Ordered, fault_by_order}
use Rattle.intervals.proofs.Converting.{optimal_of}

-- an operation that gives p has a result, and p is its pattern
answer_tells : (op : ℤ → ℤ → Option ℤ) (a b p : ℕ) → answer op a b ≡ gives p → (v : ℤ) × (op (value_of a) (value_of b) ≡ some v) × (pattern_of v ≡ p)
unfolding answer
answer_tells op a b p = go (finites a b) (op (value_of a) (value_of b)) refl
  where
    go : (t : Bool) (o : Option ℤ) → op (value_of a) (value_of b) ≡ o → cond t (answer_of o) (refuses NotFinite) ≡ gives p
        → (v : ℤ) × (op (value_of a) (value_of b) ≡ some v) × (pattern_of v ≡ p)
    go true (some v) e h = (v, e, gives_injective h)
    go true none e h = absurd (not_both h)
    go false o e h = absurd (not_both h)

finite_of : (p : ℕ) (v : ℤ) → pattern_of v ≡ p → Num binary32 v → finite p ≡ true
finite_of p v e n = subst (λ (q : ℕ). finite q ≡ true) e (is_finite (pattern_of v) (pattern_finite n))

module _ (lo hi w c d : ℕ) (h : outward_of lo hi w ≡ gives (c, d)) where
  pub outward_below : value_of c ≼ value_of lo -ℤ value_of w
  outward_below =
      let t = answer_tells (sub down) lo w c (both_tell (sub_down lo w) (add_up hi w) (c, d) h).0 in
      let u : IsDown binary32 1 (value_of lo -ℤ value_of w) t.0 = down_is binary32 1 one t.1 in
      let k : t.0 ≼ value_of lo -ℤ value_of w = lin_le (value_of lo ∷ value_of w ∷ t.0 ∷ []) (le u.below ∷ []) (search reading depth 20) (omega arith) in
      subst (λ z. z ≼ value_of lo -ℤ value_of w) (sym (pattern_value u.num) ∙ ap value_of t.2) k

  pub outward_above : value_of hi +ℤ value_of w ≼ value_of d
  outward_above =
      let t = answer_tells (add up) hi w d (both_tell (sub_down lo w) (add_up hi w) (c, d) h).1 in
      let u : IsUp binary32 1 (value_of hi +ℤ value_of w) t.0 = up_is binary32 1 one t.1 in
      let k : value_of hi +ℤ value_of w ≼ t.0 = lin_le (value_of hi ∷ value_of w ∷ t.0 ∷ []) (le u.above ∷ []) (search reading depth 20) (omega arith) in
      subst (λ z. value_of hi +ℤ value_of w ≼ z) (sym (pattern_value u.num) ∙ ap value_of t.2) k

  -- both are numbers
  pub outward_finite : finites c d ≡ true
  outward_finite =
      let b = both_tell (sub_down lo w) (add_up hi w) (c, d) h in
      let l = answer_tells (sub down) lo w c b.0 in
      let u = answer_tells (add up) hi w d b.1 in
      and_both (finite c) (finite d) (finite_of c l.0 l.2 (down_is binary32 1 one l.1).num) (finite_of d u.0 u.2 (up_is binary32 1 one u.1).num)

  -- and in order, where lo and hi are and w is not below zero
  pub outward_fine : value_of lo ≼ value_of hi → pos 0 ≼ value_of w → done ≡ fault_of c d
  outward_fine o p = fault_by_order c d true outward_finite (at_most_is c d (lin_le
      (value_of lo ∷ value_of hi ∷ value_of w ∷ value_of c ∷ value_of d ∷ []) (le o ∷ le p ∷ le outward_below ∷ le outward_above ∷ []) (search reading depth 20) (omega arith)))

pub back_encloses : (lo hi c d : ℕ) → Ordered lo hi → bounds_of (mid_of lo hi) (rad_of lo hi) ≡ gives (c, d)
    → (value_of c ≼ value_of lo) × (value_of hi ≼ value_of d)
unfolding bounds_of
back_encloses lo hi c d o e =
    let m = mid_of lo hi in
    let r = rad_of lo hi in
    let h = (then_tells (radius_fault_of m r) (outward_of m m r) (c, d) e).1 in
    let best = (optimal_of lo hi o).encloses in
    (≼_trans (outward_below m m r c d h) best.low_reached, ≼_trans best.high_reached (outward_above m m r c d h))
