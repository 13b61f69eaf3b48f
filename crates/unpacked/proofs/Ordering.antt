-- The order of two summands: the one with the larger exponent first.
use mathlib.Core.Path.{◌≡◌, refl, sym, ap₂, ◌∙◌, subst}
use mathlib.Core.Bool.{Bool, true, false, not}
use mathlib.Core.List.{[], ◌∷◌}
use Prim.Native.Nat.{◌≤◌, ◌<◌}
use native.Mathlib.Omega.{arith}
use lib.Dec.{T, ltb, ltb→lt, nltb→le}
use lib.IntN.{ℤ, ◌+ℤ◌}
use Rattle.algebra.proofs.Reading.{by_ring}
use Rattle.algebra.proofs.Linear.{reading}
use Rattle.unpacked.specs.declared.Number.{Number}
use Rattle.unpacked.specs.Number.{worth}
use Rattle.unpacked.specs.Cuts.{Summands, choose, earlier, later}

-- the summands in order
pub record Ordered (x y : Number) : Type 0 where
  pub both : Summands x y
  pub order : y.exp ≤ x.exp

module _ {x y : Number} (s : Summands x y) where
  in_order : (t : Bool) → (T t → x.exp < y.exp) → (T (not t) → y.exp ≤ x.exp) → Ordered (choose t x y) (choose t y x)
  in_order true l g =
      let o : x.exp < y.exp = l tt in
      record { both = record { first = s.second; second = s.first; first_high = s.second_high; second_high = s.first_high }; order = omega arith }
  in_order false l g = record { both = s; order = g tt }

  pub ordered : (u v : Number) → u ≡ earlier x y → v ≡ later x y → Ordered u v
  unfolding earlier later
  ordered u v eu ev =
      subst (λ p. Ordered p v) (sym eu)
      (subst (λ p. Ordered (earlier x y) p) (sym ev) (in_order (ltb x.exp y.exp) (ltb→lt x.exp y.exp) (nltb→le x.exp y.exp)))

turned : (x y : Number) (t : Bool) → worth (choose t x y) +ℤ worth (choose t y x) ≡ worth x +ℤ worth y
turned x y true = turn (worth y) (worth x)
  where
    turn : (u v : ℤ) → u +ℤ v ≡ v +ℤ u
    turn u v = by_ring (u ∷ v ∷ []) (search reading depth 20) tt
turned x y false = refl

pub sum_ordered : (x y u v : Number) → u ≡ earlier x y → v ≡ later x y → worth u +ℤ worth v ≡ worth x +ℤ worth y
unfolding earlier later
sum_ordered x y u v eu ev = ap₂ (λ a b. worth a +ℤ worth b) eu ev ∙ turned x y (ltb x.exp y.exp)
