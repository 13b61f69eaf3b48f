-- Laws of the input's parts: the digit, and what stands behind it. Assumes nothing.
use mathlib.Core.Path.{◌≡◌, refl, ap}
use mathlib.Core.Bool.{Bool, true, false, cond}
use mathlib.Core.List.{List, [], ◌∷◌}
use Prim.Native.Nat.{ℕ, ◌-◌, ◌<◌, min}
use native.Mathlib.Omega.{arith}
use lib.Dec.{ltb}
use lib.ListN.{length, drop}
use lib.Seq.{drop-nil}
use borrow.Author.Tests.{ltb-false}
use Rattle.print_product.specs.Input.{digit_value}

-- ---- the method

pub digit_small : (b : ℕ) → digit_value b < 10
unfolding digit_value
digit_small b = go (ltb b 48) (ltb 57 b) refl
  where
    go : (s t : Bool) → ltb 57 b ≡ t → cond s 0 (cond t 0 (b - 48)) < 10
    go true t e = omega arith
    go false true e = omega arith
    go false false e = omega (arith, ltb-false 57 b e)

-- ---- the sheets

pub behind_digit : (s : List ℕ) (k : ℕ) → k ≡ min (length s) 1 → drop k s ≡ drop 1 s
behind_digit [] k e = drop-nil k
behind_digit (x ∷ s) k e = let one : k ≡ 1 = omega arith in ap (λ n. drop n (x ∷ s)) one
