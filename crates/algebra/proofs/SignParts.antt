-- The two parts of an integer: x is pp x - nn x, one of the two being 0, so an order of integers is one of naturals.
use mathlib.Core.Path.{◌≡◌, refl}
use Prim.Native.Nat.{ℕ, zero, suc, ◌+◌, ◌≤◌, ◌<◌}
use native.Mathlib.Omega.{arith}
use lib.Dec.{leb→le, le→leb, ltb→lt, lt→ltb}
use lib.IntN.{ℤ, pos, negsuc, neg_ℤ, ◌-ℤ◌, +ℤ_idl, +ℤ_idr}
use lib.Signed.{le_z_yes, lt_z_yes}
use Rattle.algebra.specs.Order.{◌≼◌, ◌≺◌}

abbrev pub pp : ℤ → ℕ
pp (pos n) = n
pp (negsuc n) = 0

abbrev pub nn : ℤ → ℕ
nn (pos n) = 0
nn (negsuc n) = suc n

pub parts : (x : ℤ) → pos (pp x) -ℤ pos (nn x) ≡ x
parts (pos n) = +ℤ_idr (pos n)
parts (negsuc n) = +ℤ_idl (negsuc n)

pub le_parts : (a b : ℤ) → a ≼ b → pp a + nn b ≤ pp b + nn a
le_parts (pos a) (pos b) h = omega (arith, leb→le a b h.le)
le_parts (pos a) (negsuc b) h = absurd h.le
le_parts (negsuc a) (pos b) h = omega arith
le_parts (negsuc a) (negsuc b) h = omega (arith, leb→le b a h.le)

pub parts_le : (a b : ℤ) → pp a + nn b ≤ pp b + nn a → a ≼ b
parts_le (pos a) (pos b) h = le_z_yes (le→leb a b (omega arith))
parts_le (pos a) (negsuc b) h = absurd (no a b h)
  where
    no : (a b : ℕ) → a + suc b ≤ 0 + 0 → ⊥
    no a b h = omega arith
parts_le (negsuc a) (pos b) h = le_z_yes tt
parts_le (negsuc a) (negsuc b) h = le_z_yes (le→leb b a (omega arith))

pub lt_parts : (a b : ℤ) → a ≺ b → pp a + nn b < pp b + nn a
lt_parts (pos a) (pos b) h = omega (arith, ltb→lt a b h.lt)
lt_parts (pos a) (negsuc b) h = absurd h.lt
lt_parts (negsuc a) (pos b) h = omega arith
lt_parts (negsuc a) (negsuc b) h = omega (arith, ltb→lt b a h.lt)

pub parts_lt : (a b : ℤ) → pp a + nn b < pp b + nn a → a ≺ b
parts_lt (pos a) (pos b) h = lt_z_yes (lt→ltb a b (omega arith))
parts_lt (pos a) (negsuc b) h = absurd (no a b h)
  where
    no : (a b : ℕ) → a + suc b < 0 + 0 → ⊥
    no a b h = omega arith
parts_lt (negsuc a) (pos b) h = lt_z_yes tt
parts_lt (negsuc a) (negsuc b) h = lt_z_yes (lt→ltb b a (omega arith))

pub neg_parts : (a : ℤ) → (pp (neg_ℤ a) ≡ nn a) × (nn (neg_ℤ a) ≡ pp a)
neg_parts (pos zero) = (refl, refl)
neg_parts (pos (suc n)) = (refl, refl)
neg_parts (negsuc n) = (refl, refl)
