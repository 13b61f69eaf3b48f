-- Sums of two numbers taken apart: what `joined` and `plus` give has the roundings of the exact sum; the order of the summands beside it.
use mathlib.Core.Path.{◌≡◌, refl, sym, ap, ap₂, ◌∙◌, subst}
use mathlib.Core.Bool.{Bool, true, false, not}
use mathlib.Core.List.{[], ◌∷◌}
use Prim.Native.Nat.{ℕ, zero, suc, ◌+◌, ◌-◌, ◌*◌, ◌^◌, ◌≤◌, ◌<◌}
use native.Mathlib.Omega.{arith}
use native.Mathlib.Nat.{mul_comm, mul-le-mul}
use lib.Pow.{pow_pos, pow-add, pow_mono}
use lib.Dec.{T, ltb, ltb→lt, nltb→le}
use lib.IntN.{ℤ, pos, negsuc, nat_abs, ◌+ℤ◌, ◌*ℤ◌}
use mir.Syntax.{w64}
use mir.Val.{of_z, to_z}
use Rattle.std.specs.Int.{int_signum}
use Rattle.algebra.proofs.Absolute.{nat_abs_add, nat_abs_mul}
use Rattle.algebra.proofs.Reading.{by_ring}
use Rattle.algebra.proofs.Linear.{reading}
use Rattle.algebra.proofs.Power.{pow_split}
use Rattle.rounding.specs.Format.{binary32}
use Rattle.rounding.specs.Rounding.{up, down, near}
use Rattle.rounding.proofs.DirectedLaws.{up_scale, down_scale}
use Rattle.rounding.proofs.NearestLaws.{near_scale}
use Rattle.binary32.specs.declared.parts.Parts.{Parts}
use Rattle.binary32.specs.Steps.{of, Small, exact, Same, Summands, Larger, choose, earlier, later}
use Rattle.binary32.proofs.Ints.{read_small}
use Rattle.binary32.proofs.Far.{sgn, Agree, sum_far}

-- ---- the scale 2 ^ lift in the exponent, or in the denominator
module _ (K lift i : ℕ) (z : ℤ) (h : lift ≤ K) where
  scales : 2 ^ K ≡ 2 ^ lift * 2 ^ (K - lift)
  scales = pow_split K lift h

  moved : z *ℤ pos (2 ^ (i + lift)) ≡ pos (2 ^ lift) *ℤ (z *ℤ pos (2 ^ i))
  moved = ap (λ x. z *ℤ pos x) (pow-add 2 i lift) ∙ turn
    where
      turn : z *ℤ pos (2 ^ i * 2 ^ lift) ≡ pos (2 ^ lift) *ℤ (z *ℤ pos (2 ^ i))
      turn = by_ring (z ∷ pos (2 ^ i) ∷ pos (2 ^ lift) ∷ []) (search reading depth 20) tt

  lift_up : up binary32 (2 ^ K) (z *ℤ pos (2 ^ (i + lift))) ≡ up binary32 (2 ^ (K - lift)) (z *ℤ pos (2 ^ i))
  lift_up =
      ap₂ (up binary32) scales moved ∙ up_scale binary32 (2 ^ lift) (2 ^ (K - lift)) (pow_pos lift) (pow_pos (K - lift)) (z *ℤ pos (2 ^ i))

  lift_down : down binary32 (2 ^ K) (z *ℤ pos (2 ^ (i + lift))) ≡ down binary32 (2 ^ (K - lift)) (z *ℤ pos (2 ^ i))
  lift_down =
      ap₂ (down binary32) scales moved ∙ down_scale binary32 (2 ^ lift) (2 ^ (K - lift)) (pow_pos lift) (pow_pos (K - lift)) (z *ℤ pos (2 ^ i))

  lift_near : near binary32 (2 ^ K) (z *ℤ pos (2 ^ (i + lift))) ≡ near binary32 (2 ^ (K - lift)) (z *ℤ pos (2 ^ i))
  lift_near =
      ap₂ (near binary32) scales moved ∙ near_scale binary32 (2 ^ lift) (2 ^ (K - lift)) (pow_pos lift) (pow_pos (K - lift)) (z *ℤ pos (2 ^ i))

same_of : (lift i : ℕ) (z X : ℤ) → lift ≤ 149 → Agree (2 ^ (149 - lift)) (z *ℤ pos (2 ^ i)) X → Small z (i + lift)
    → Same (2 ^ (149 - lift)) X (record { sig = z; exp = i + lift })
unfolding exact of
same_of lift i z X h a s = record {
  downs = lift_down 149 lift i z h ∙ a.downs;
  ups = lift_up 149 lift i z h ∙ a.ups;
  nears = lift_near 149 lift i z h ∙ a.nears;
  small = s;
}

-- ---- the two ways of `joined`
spread : (x s : ℤ) (m u v : ℕ) → v ≡ m * u → (x *ℤ pos m +ℤ s) *ℤ pos u ≡ x *ℤ pos v +ℤ s *ℤ pos u
spread x s m u v e = turn ∙ ap (λ n. x *ℤ pos n +ℤ s *ℤ pos u) (sym e)
  where
    turn : (x *ℤ pos m +ℤ s) *ℤ pos u ≡ x *ℤ pos (m * u) +ℤ s *ℤ pos u
    turn = by_ring (x ∷ s ∷ pos m ∷ pos u ∷ []) (search reading depth 20) tt

-- 24 digits, shifted by at most 36 places, and 24 digits more
pub shifted_sum_short : (x y : ℤ) (n : ℕ) → nat_abs x ≤ 2 ^ 24 → nat_abs y ≤ 2 ^ 24 → n ≤ 36
    → (nat_abs (x *ℤ pos (2 ^ n)) < 2 ^ 61) × (nat_abs (x *ℤ pos (2 ^ n) +ℤ y) < 2 ^ 61)
shifted_sum_short x y n hx hy hn =
    let shifted : nat_abs x * 2 ^ n ≤ 2 ^ 24 * 2 ^ 36 = mul-le-mul hx (pow_mono {i = n} {j = 36} hn) in
    let same : nat_abs (x *ℤ pos (2 ^ n)) ≡ nat_abs x * 2 ^ n = nat_abs_mul x (pos (2 ^ n)) in
    (omega arith, omega (arith, nat_abs_add (x *ℤ pos (2 ^ n)) y))

pub sgn_short : (y : ℤ) → nat_abs (sgn y) ≤ 2 ^ 24
sgn_short (pos zero) = omega arith
sgn_short (pos (suc n)) = omega arith
sgn_short (negsuc n) = omega arith

-- what the machine read
pub shifted_sum_read : (x y z : ℤ) (n : ℕ) → nat_abs x ≤ 2 ^ 24 → nat_abs y ≤ 2 ^ 24
    → z ≡ to_z w64 (of_z w64 x) *ℤ pos (2 ^ n) +ℤ to_z w64 (of_z w64 y) → z ≡ x *ℤ pos (2 ^ n) +ℤ y
shifted_sum_read x y z n hx hy e = e ∙ ap₂ (λ u v. u *ℤ pos (2 ^ n) +ℤ v) (read_small x (omega arith)) (read_small y (omega arith))

signum_is : (y : ℤ) → int_signum y ≡ sgn y
signum_is (pos zero) = refl
signum_is (pos (suc n)) = ap pos (omega arith)
signum_is (negsuc n) = refl

pub sgn_read : (y z : ℤ) → nat_abs y ≤ 2 ^ 24 → z ≡ int_signum (to_z w64 (of_z w64 y)) → z ≡ sgn y
sgn_read y z h e = e ∙ ap int_signum (read_small y (omega arith)) ∙ signum_is y

module _ {x y : Parts} {lift : ℕ} (h : Larger x y lift) (z : ℤ) where
  -- not far apart: the sum itself
  pub same_close : x.exp - y.exp ≤ 36 → z ≡ x.sig *ℤ pos (2 ^ (x.exp - y.exp)) +ℤ y.sig
      → Same (2 ^ (149 - lift)) (of x +ℤ of y) (record { sig = z; exp = y.exp + lift })
  unfolding of
  same_close d e =
      same_of lift y.exp z (of x +ℤ of y) h.lifts agree (record { short = short; low = omega (arith, h.order, h.first.low, h.lifts) })
    where
      powers : 2 ^ x.exp ≡ 2 ^ (x.exp - y.exp) * 2 ^ y.exp
      powers = pow_split x.exp y.exp h.order ∙ mul_comm (2 ^ y.exp) (2 ^ (x.exp - y.exp))

      whole : z *ℤ pos (2 ^ y.exp) ≡ of x +ℤ of y
      whole = ap (λ t. t *ℤ pos (2 ^ y.exp)) e ∙ spread x.sig y.sig (2 ^ (x.exp - y.exp)) (2 ^ y.exp) (2 ^ x.exp) powers

      agree : Agree (2 ^ (149 - lift)) (z *ℤ pos (2 ^ y.exp)) (of x +ℤ of y)
      agree = subst (λ t. Agree (2 ^ (149 - lift)) t (of x +ℤ of y)) (sym whole) (record { ups = refl; downs = refl; nears = refl })

      short : nat_abs z < 2 ^ 61
      short = subst (λ t. nat_abs t < 2 ^ 61) (sym e) (shifted_sum_short x.sig y.sig (x.exp - y.exp) h.first.few h.second.few d).1

  -- far apart: x, and y's sign 36 places below
  pub same_apart : 36 < x.exp - y.exp → z ≡ x.sig *ℤ pos (2 ^ 36) +ℤ sgn y.sig
      → Same (2 ^ (149 - lift)) (of x +ℤ of y) (record { sig = z; exp = x.exp - 36 + lift })
  unfolding of
  same_apart d e =
      same_of lift (x.exp - 36) z (of x +ℤ of y) h.lifts agree (record { short = short; low = omega (arith, h.order, h.first.low, h.lifts) })
    where
      whole : z *ℤ pos (2 ^ (x.exp - 36)) ≡ x.sig *ℤ pos (2 ^ x.exp) +ℤ sgn y.sig *ℤ pos (2 ^ (x.exp - 36))
      whole =
          ap (λ t. t *ℤ pos (2 ^ (x.exp - 36))) e
          ∙ spread x.sig (sgn y.sig) (2 ^ 36) (2 ^ (x.exp - 36)) (2 ^ x.exp) (pow_split x.exp 36 (omega arith))

      agree : Agree (2 ^ (149 - lift)) (z *ℤ pos (2 ^ (x.exp - 36))) (of x +ℤ of y)
      agree =
          subst (λ t. Agree (2 ^ (149 - lift)) t (of x +ℤ of y)) (sym whole)
          (sum_far (149 - lift) x.exp y.exp x.sig y.sig (h.first.full (omega arith)) h.second.few (omega arith))

      short : nat_abs z < 2 ^ 61
      short = subst (λ t. nat_abs t < 2 ^ 61) (sym e) (shifted_sum_short x.sig (sgn y.sig) 36 h.first.few (sgn_short y.sig) (omega arith)).1

-- ---- the order of the summands
module _ {x y : Parts} {lift : ℕ} (s : Summands x y lift) where
  larger : (t : Bool) → (T t → x.exp < y.exp) → (T (not t) → y.exp ≤ x.exp) → Larger (choose t x y) (choose t y x) lift
  larger true l g = let o : x.exp < y.exp = l tt in record { first = s.second; second = s.first; lifts = s.lifts; order = omega arith }
  larger false l g = record { first = s.first; second = s.second; lifts = s.lifts; order = g tt }

  pub in_order : (p : Parts × Parts) → p ≡ (earlier x y, later x y) → Larger p.0 p.1 lift
  unfolding earlier later
  in_order p e = subst (λ (q : Parts × Parts). Larger q.0 q.1 lift) (sym e) (larger (ltb x.exp y.exp) (ltb→lt x.exp y.exp) (nltb→le x.exp y.exp))

turned : (x y : Parts) (t : Bool) → of (choose t x y) +ℤ of (choose t y x) ≡ of x +ℤ of y
turned x y true = turn (of y) (of x)
  where
    turn : (u v : ℤ) → u +ℤ v ≡ v +ℤ u
    turn u v = by_ring (u ∷ v ∷ []) (search reading depth 20) tt
turned x y false = refl

pub sum_ordered : (D : ℕ) (x y r : Parts) (p : Parts × Parts) → p ≡ (earlier x y, later x y) → Same D (of p.0 +ℤ of p.1) r → Same D (of x +ℤ of y) r
unfolding earlier later
sum_ordered D x y r p e s = subst (λ X. Same D X r) (ap (λ (q : Parts × Parts). of q.0 +ℤ of q.1) e ∙ turned x y (ltb x.exp y.exp)) s
