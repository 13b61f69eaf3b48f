-- `binary32::funnel::cut` meets its contract: zero by itself, else by one shift of the 61 digits that are left of its leading zeros (`cut_large`, `cut_low`).
use mathlib.Core.Path.{◌≡◌, ap, sym, ◌∙◌}
use Prim.Native.Nat.{ℕ, ◌-◌, ◌*◌, ◌%◌, ◌^◌, ◌<◌}
use native.Mathlib.Omega.{arith}
use lib.Count.{count_leading_zeros}
use lib.IntN.{ℤ, pos, nat_abs, ◌*ℤ◌}
use mir.Syntax.{w64}
use mir.Val.{of_z, to_z}
use Rattle.binary32.specs.Steps.{of, Small}
use Rattle.binary32.proofs.Ints.{read_small, shl_read, above}
use Rattle.binary32.proofs.Cutting.{Zeros, zeros_of, wide_short, cut_large, cut_low, cut_zero}
use Rattle.binary32.proofs.funnel.cut.Goals as goal

zeros : (s : ℤ) (a : ℕ) → 0 < nat_abs s → nat_abs s < 2 ^ 61 → a ≡ nat_abs (to_z w64 (of_z w64 s)) → Zeros (nat_abs s) (count_leading_zeros 64 a)
zeros s a p h e = rw (e, read_small s (omega (arith, h))) (zeros_of (nat_abs s) p h)

-- the significand s, shifted up by z - 3 places
record Shifted (s : ℤ) (z : ℕ) : Type 0 where
  some : 0 < nat_abs s
  count : Zeros (nat_abs s) z
  few : nat_abs (s *ℤ pos (2 ^ (z - 3))) < 2 ^ 61
  here : to_z w64 (of_z w64 s * 2 ^ (z - 3) % 2 ^ 64) ≡ s *ℤ pos (2 ^ (z - 3))

shifted : {s : ℤ} {e a : ℕ} → (of_z w64 s ≡ 0 → ⊥) → Small s e → a ≡ nat_abs (to_z w64 (of_z w64 s)) → Shifted s (count_leading_zeros 64 a)
shifted {s} {e} {a} n small ea =
    let p = above s n in
    let o = zeros s a p small.short ea in
    let few = wide_short s e (count_leading_zeros 64 a) p o in
    record { some = p; count = o; few = few; here = shl_read s (count_leading_zeros 64 a - 3) (omega (arith, o.less)) (omega (arith, small.short)) (omega (arith, few)) }

pub returns-then-x-eq0 : goal.returns-then-x-eq0
unfolding of
returns-then-x-eq0 c =
    let x = c.args.x in
    cut_zero x.sig x.exp (sym (read_small x.sig (omega (arith, c.requires.short))) ∙ ap (to_z w64) c.if-x-eq0.true)

pub overflow_sub-wide : goal.overflow_sub-wide
overflow_sub-wide c = (shifted c.if-x-eq0.false c.requires c.unsigned_abs-zeros.ensures.value).count.three

pub split-requires : goal.split-requires
split-requires c =
    let s = shifted c.if-x-eq0.false c.requires c.unsigned_abs-zeros.ensures.value in
    rw s.here (s.few, omega arith)

pub returns-then-top-ge-FULL : goal.returns-then-top-ge-FULL
unfolding of
returns-then-top-ge-FULL c =
    let x = c.args.x in
    let s = shifted c.if-x-eq0.false c.requires c.unsigned_abs-zeros.ensures.value in
    cut_large x.sig _ x.exp _ c.split.result s.some s.count c.requires.low s.here c.if-top-ge-FULL.true c.split.ensures

pub split-requires-2 : goal.split-requires-2
split-requires-2 c =
    let s = shifted c.if-x-eq0.false c.requires c.unsigned_abs-zeros.ensures.value in
    rw s.here (s.few, omega (arith, c.min.ensures))

pub returns : goal.returns
unfolding of
returns c =
    let x = c.args.x in
    let s = shifted c.if-x-eq0.false c.requires c.unsigned_abs-zeros.ensures.value in
    cut_low x.sig _ x.exp _ c.split-2.result s.some s.count c.requires.low s.here c.min.result c.if-top-ge-FULL.false c.min.ensures c.split-2.ensures
