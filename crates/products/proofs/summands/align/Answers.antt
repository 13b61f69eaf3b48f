-- `products::summands::align` meets its contract: `first` and `second` put the summands in order, and no step overflows.
use mathlib.Core.Path.{◌≡◌, ap, ap₂, sym, subst, ◌∙◌}
use Prim.Native.Nat.{ℕ, ◌-◌, ◌^◌, ◌≤◌, ◌<◌, min}
use native.Mathlib.Omega.{arith}
use lib.IntN.{ℤ, pos, nat_abs, ◌+ℤ◌, ◌*ℤ◌}
use lib.Signed.{mag, shr_z}
use mir.Syntax.{w64}
use mir.Val.{to_z, of_z}
use Rattle.binary32.proofs.Ints.{read, read_small}
use Rattle.unpacked.specs.declared.Number.{Number}
use Rattle.unpacked.proofs.Ordering.{Ordered, ordered}
use Rattle.unpacked.proofs.FarShifts.{raised_abs}
use Rattle.binary32.proofs.Rests.{shr_less}
use Rattle.products.proofs.summands.align.Goals as goal

-- the summands in order
u_plain : (u v : Number) → Ordered u v → to_z w64 (of_z w64 u.sig) ≡ u.sig
u_plain u v o = read_small u.sig (omega (arith, o.both.first.few))

v_plain : (u v : Number) → Ordered u v → to_z w64 (of_z w64 v.sig) ≡ v.sig
v_plain u v o = read_small v.sig (omega (arith, o.both.second.few))

-- a raised significand, read back
raised_is : (s z r : ℤ) → z ≡ s → mag r < 2 ^ 63 → r ≡ z *ℤ pos (2 ^ 36) → to_z w64 (of_z w64 r) ≡ s *ℤ pos (2 ^ 36)
raised_is s z r p h e = read r h ∙ e ∙ ap (λ (t : ℤ). t *ℤ pos (2 ^ 36)) p

-- what is added to it
low_is : (s z r : ℤ) (n d : ℕ) → z ≡ s → mag r < 2 ^ 63 → r ≡ shr_z z (2 ^ d) → d ≡ n → to_z w64 (of_z w64 r) ≡ shr_z s (2 ^ n)
low_is s z r n d p h e k = read r h ∙ e ∙ ap₂ (λ (t : ℤ) (m : ℕ). shr_z t (2 ^ m)) p k

big_few : (s z : ℤ) → nat_abs s ≤ 2 ^ 24 → z ≡ s *ℤ pos (2 ^ 36) → nat_abs z ≤ 2 ^ 60
big_few s z h e = subst (λ (t : ℤ). nat_abs t ≤ 2 ^ 60) (sym e) (omega (arith, raised_abs s))

low_few : (s z : ℤ) (m : ℕ) → nat_abs s ≤ 2 ^ 24 → z ≡ shr_z (s *ℤ pos (2 ^ 36)) m → nat_abs z ≤ 2 ^ 60
low_few s z m h e = subst (λ (t : ℤ). nat_abs t ≤ 2 ^ 60) (sym e) (omega (arith, shr_less (s *ℤ pos (2 ^ 36)) m, raised_abs s))

pub overflow_sub-b : goal.overflow_sub-b
overflow_sub-b c = (ordered c.requires c.in_order.result.0 c.in_order.result.1 (ap (λ p. p.0) c.in_order.ensures) (ap (λ p. p.1) c.in_order.ensures)).order

pub raised-requires : goal.raised-requires
raised-requires c =
    let o = ordered c.requires c.in_order.result.0 c.in_order.result.1 (ap (λ p. p.0) c.in_order.ensures) (ap (λ p. p.1) c.in_order.ensures) in
    subst (λ (t : ℤ). nat_abs t ≤ 2 ^ 24) (sym (u_plain _ _ o)) o.both.first.few

pub raised-requires-2 : goal.raised-requires-2
raised-requires-2 c =
    let o = ordered c.requires c.in_order.result.0 c.in_order.result.1 (ap (λ p. p.0) c.in_order.ensures) (ap (λ p. p.1) c.in_order.ensures) in
    subst (λ (t : ℤ). nat_abs t ≤ 2 ^ 24) (sym (v_plain _ _ o)) o.both.second.few

pub added-requires : goal.added-requires
added-requires c =
    let u = c.in_order.result.0 in
    let v = c.in_order.result.1 in
    let o = ordered c.requires u v (ap (λ p. p.0) c.in_order.ensures) (ap (λ p. p.1) c.in_order.ensures) in
    let big = raised_is u.sig _ c.raised.result (u_plain u v o) c.raised.type_inv c.raised.ensures in
    let small = raised_is v.sig _ c.raised-2.result (v_plain u v o) c.raised-2.type_inv c.raised-2.ensures in
    let low = low_is (v.sig *ℤ pos (2 ^ 36)) _ c.lowered.result _ _ small c.lowered.type_inv c.lowered.ensures c.min-d.ensures in
    let b = big_few u.sig _ o.both.first.few big in
    let l = low_few v.sig _ _ o.both.second.few low in
    (omega arith, omega arith)

pub returns : goal.returns
returns c =
    let u = c.in_order.result.0 in
    let v = c.in_order.result.1 in
    let e = (ap (λ p. p.0) c.in_order.ensures) in
    let f = (ap (λ p. p.1) c.in_order.ensures) in
    let o = ordered c.requires u v e f in
    let big = raised_is u.sig _ c.raised.result (u_plain u v o) c.raised.type_inv c.raised.ensures in
    let small = raised_is v.sig _ c.raised-2.result (v_plain u v o) c.raised-2.type_inv c.raised-2.ensures in
    let low = low_is (v.sig *ℤ pos (2 ^ 36)) _ c.lowered.result _ _ small c.lowered.type_inv c.lowered.ensures c.min-d.ensures in
    record {
      exps = ap (λ n. n.exp) e;
      sums =
          read c.added.result c.added.type_inv ∙ c.added.ensures ∙ ap₂ ◌+ℤ◌ big low
          ∙ ap₂ (λ a b. a.sig *ℤ pos (2 ^ 36) +ℤ shr_z (b.sig *ℤ pos (2 ^ 36)) (2 ^ min (a.exp - b.exp) 61)) e f;
    }
