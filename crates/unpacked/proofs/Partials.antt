-- Sums of a number and a partial result: what is added, with no limit, and then limited, is the sum rounded once, or none.
use mathlib.Core.Path.{◌≡◌, sym, ap, subst, ◌∙◌}
use mathlib.Core.List.{[], ◌∷◌}
use mathlib.Core.Option.{Option, none, some, bind}
use Prim.Native.Nat.{ℕ, ◌+◌, ◌*◌, ◌^◌, ◌≤◌, ◌<◌}
use native.Mathlib.Omega.{arith}
use lib.Dec.{lit≤}
use lib.IntN.{ℤ, pos, neg_ℤ, nat_abs, ◌+ℤ◌}
use Rattle.algebra.specs.Order.{◌≼◌, ◌≺◌}
use Rattle.algebra.proofs.Absolute.{≼_abs, neg_≼_abs}
use Rattle.algebra.proofs.Linear.{reading, le, lt, lin_lt}
use Rattle.algebra.proofs.Natural.{of_le, to_lt}
use Rattle.algebra.proofs.Order.{≼_trans}
use Rattle.rounding.specs.Format.{binary32, MAX}
use Rattle.rounding.specs.Rounding.{down, near}
use Rattle.rounding.proofs.Directed.{down_below}
use Rattle.rounding.proofs.Nearest.{near_refused_iff}
use Rattle.unpacked.specs.declared.Number.{Number}
use Rattle.unpacked.specs.Number.{worth, IsNumber, Part, Is, Holds}
use Rattle.unpacked.specs.Cuts.{Summands, SumDown, SumNear, limited, limited_near}
use Rattle.unpacked.proofs.Packing.{exp_high}

few : (e : ℕ) → e ≤ 653 → e ≤ 4000
few e h = omega arith

fewer : (e : ℕ) → e ≤ 2000 → e ≤ 4000
fewer e h = omega arith

pub summands : (s y : Number) → IsNumber s → Part y → Summands s y
summands s y p q = record { first = p.normal; second = q.normal; first_high = few s.exp (exp_high s p); second_high = fewer y.exp q.high }

above : (s : Number) → IsNumber s → worth s ≼ pos (MAX binary32)
above s p = ≼_trans (≼_abs (worth s)) (of_le p.within)

-- ---- rounded down
down_plus : (s y q : Number) (t : Option ℤ) → IsNumber s → Is t y → SumDown s y q → limited (worth q) ≡ bind t λ v. down binary32 1 (worth s +ℤ v)
unfolding bind
down_plus s y q (some v) p h d = sym d.downs ∙ ap (λ a. down binary32 1 (worth s +ℤ a)) h.0
down_plus s y q none p h d = sym d.downs ∙ down_below binary32 1 (omega arith) below
  where
    below : worth s +ℤ worth y ≺ neg_ℤ (pos (MAX binary32 * 1))
    below = lin_lt (worth s ∷ worth y ∷ pos (MAX binary32) ∷ []) (le (above s p) ∷ lt h.0 ∷ []) (search reading depth 20) (omega arith)

pub down_plus_holds : (s y q r : Number) → IsNumber s → SumDown s y q → Holds (limited (worth q)) r → (t : Option ℤ) → Holds t y
    → Holds (bind t λ v. down binary32 1 (worth s +ℤ v)) r
down_plus_holds s y q r p d h t i = subst (λ m. Holds m r) (down_plus s y q t p i.is d) h

-- ---- to nearest
top_max : 2 ^ 253 ≤ MAX binary32
unfolding MAX
top_max = lit≤ tt

refused : (M T a : ℕ) → T ≤ M → 2 * M < a → 2 * (M * 1) + T * 1 ≤ 2 * a
refused M T a h l = omega arith

near_plus : (s y q : Number) (t : Option ℤ) → IsNumber s → Is t y → SumNear s y q → limited_near (worth q) ≡ bind t λ v. near binary32 1 (worth s +ℤ v)
unfolding bind
near_plus s y q (some v) p h d = sym d.nears ∙ ap (λ a. near binary32 1 (worth s +ℤ a)) h.0
near_plus s y q none p h d =
    sym d.nears ∙ (near_refused_iff binary32 1 (omega arith) (worth s +ℤ worth y)).1 (refused (MAX binary32) (2 ^ 253) (nat_abs (worth s +ℤ worth y)) top_max (to_lt large))
  where
    large : pos (2 * MAX binary32) ≺ pos (nat_abs (worth s +ℤ worth y))
    large = lin_lt (worth s ∷ worth y ∷ pos (MAX binary32) ∷ pos (nat_abs (worth s +ℤ worth y)) ∷ []) (le (above s p) ∷ lt h.0 ∷ le (neg_≼_abs (worth s +ℤ worth y)) ∷ []) (search reading depth 20) (omega arith)

pub near_plus_holds : (s y q r : Number) → IsNumber s → SumNear s y q → Holds (limited_near (worth q)) r → (t : Option ℤ) → Holds t y
    → Holds (bind t λ v. near binary32 1 (worth s +ℤ v)) r
near_plus_holds s y q r p d h t i = subst (λ m. Holds m r) (near_plus s y q t p i.is d) h
