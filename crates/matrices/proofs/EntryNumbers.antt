-- The bounds of an entry that is accepted are numbers of the format, so that their patterns stand for them.
use mathlib.Core.Path.{◌≡◌, ap}
use mathlib.Core.Option.{Option, none, some, bind, none-ne-some, some-injective}
use Prim.Native.Nat.{ℕ}
use lib.Dec.{lit<}
use lib.IntN.{ℤ, ◌+ℤ◌, ◌-ℤ◌}
use Rattle.rounding.specs.Format.{binary32, Num}
use Rattle.rounding.specs.Rounding.{up, down}
use Rattle.enclosure.specs.Arithmetic.{of}
use Rattle.enclosure.specs.Cell.{Cell}
use Rattle.enclosure.specs.Methods.{Method, classical, three, four, five, seven, Range, total, ends, entry₁, entry}
use Rattle.binary32.proofs.Held.{Fits}
use Rattle.binary32.proofs.Numbers.{down_fits, up_fits}
use Rattle.matrices.specs.Matrix.{Matrix}
use Rattle.matrices.specs.Entries.{entry_of}
use Rattle.matrices.proofs.Fitting.{sum_fits}

pub record Numbers (e : Range) : Type 0 where
  pub lower : Num binary32 e.lower
  pub upper : Num binary32 e.upper

-- two partial results that make a range are its bounds
both_numbers : (x y : Option ℤ) (e : Range) → Fits x → Fits y → (bind x λ l. bind y λ u. some (record { lower = l; upper = u })) ≡ some e → Numbers e
unfolding bind Fits
both_numbers none y e f g h = absurd (none-ne-some e h)
both_numbers (some l) none e f g h = absurd (none-ne-some e h)
both_numbers (some l) (some u) e f g h =
    let s = some-injective (record { lower = l; upper = u }) e h in
    record { lower = f e.lower (ap (λ r. some r.lower) s); upper = g e.upper (ap (λ r. some r.upper) s) }

ends_numbers : (R S T : Option ℤ) (e : Range) → ends (of binary32) R S T ≡ some e → Numbers e
unfolding ends bind
ends_numbers none S T e h = absurd (none-ne-some e h)
ends_numbers (some r) none T e h = absurd (none-ne-some e h)
ends_numbers (some r) (some s) none e h = absurd (none-ne-some e h)
ends_numbers (some r) (some s) (some t) e h = both_numbers (down binary32 1 (s -ℤ r)) (up binary32 1 (t +ℤ r)) e (down_fits 1 (lit< tt) (s -ℤ r)) (up_fits 1 (lit< tt) (t +ℤ r)) h

-- of any cells
pub numbers_of : (m : Method) (k : ℕ) (a b : ℕ → Cell) (e : Range) → entry (of binary32) m k a b ≡ some e → Numbers e
unfolding entry entry₁ total
numbers_of classical k a b e h = both_numbers _ _ e (sum_fits down (down_fits 1 (lit< tt)) _ k) (sum_fits up (up_fits 1 (lit< tt)) _ k) h
numbers_of three k a b e h = ends_numbers _ _ _ e h
numbers_of four k a b e h = ends_numbers _ _ _ e h
numbers_of five k a b e h = ends_numbers _ _ _ e h
numbers_of seven k a b e h = ends_numbers _ _ _ e h

-- of two matrices
pub entry_numbers : (m : Method) (k n : ℕ) (A B : Matrix) (i j : ℕ) (e : Range) → entry_of m k n A B i j ≡ some e → Numbers e
unfolding entry_of
entry_numbers m k n A B i j e = numbers_of m k _ _ e
