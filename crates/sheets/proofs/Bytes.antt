-- Laws of a sheet's bytes: zeros, and the wear of a class sheet's cell. Assumes nothing.
use mathlib.Core.Path.{◌≡◌, refl, sym, ap}
use mathlib.Core.Bool.{Bool, true, false, cond}
use mathlib.Core.List.{List}
use Prim.Native.Nat.{ℕ, ◌+◌, ◌*◌, ◌≤◌, ◌<◌}
use native.Mathlib.Omega.{arith}
use lib.Dec.{eqb}
use lib.ListN.{length, get_or, take, drop}
use borrow.Author.Tests.{eqb-true, eqb-false}
use Rattle.std.specs.List.{list_all}
use Rattle.sheets.specs.AllFrom.{all_from}
use Rattle.sheets.specs.Layout.{u32_at, blank, record_of}
use Rattle.sheets.proofs.AllFrom.{all_listed}

pub blank_listed : (s : List ℕ) (p n : ℕ) → p + n ≤ length s → list_all (λ b. eqb b 0) (take n (drop p s)) ≡ blank s p n
unfolding blank
blank_listed s p n h = all_listed (λ b. eqb b 0) s n p h

-- ---- the wear of a class sheet's cell: byte 12 where bytes 13 to 15 are zero, else above 255

no : false ≡ true → ⊥
no e = let z : ◌≡◌ {A = ℕ} 0 1 = cc in absurd (omega arith)

four_bytes : (a b c d : ℕ) (t u v : Bool) → eqb b 0 ≡ t → eqb c 0 ≡ u → eqb d 0 ≡ v
    → (cond t (cond u (cond v true false) false) false ≡ true → a + 256 * b + 65536 * c + 16777216 * d ≡ a)
    × (cond t (cond u (cond v true false) false) false ≡ false → 255 < a + 256 * b + 65536 * c + 16777216 * d)
four_bytes a b c d true true true j k l = (λ e. omega (arith, eqb-true b 0 j, eqb-true c 0 k, eqb-true d 0 l), λ e. absurd (no (sym e)))
four_bytes a b c d true true false j k l = (λ e. absurd (no e), λ e. let n : d ≡ 0 → ⊥ = eqb-false d 0 l in omega arith)
four_bytes a b c d true false v j k l = (λ e. absurd (no e), λ e. let n : c ≡ 0 → ⊥ = eqb-false c 0 k in omega arith)
four_bytes a b c d false u v j k l = (λ e. absurd (no e), λ e. let n : b ≡ 0 → ⊥ = eqb-false b 0 j in omega arith)

pub class_bytes : (s : List ℕ) (i : ℕ)
    → (blank s (16 * i + 13) 3 ≡ true → (record_of s i).wear ≡ get_or s (16 * i + 12) 0) × (blank s (16 * i + 13) 3 ≡ false → 255 < (record_of s i).wear)
unfolding all_from blank record_of u32_at
class_bytes s i =
    let at : (k m : ℕ) → k ≡ m → get_or s k 0 ≡ get_or s m 0 = λ k m e. ap (λ (j : ℕ). get_or s j 0) e in
    rw (at (16 * i + 12 + 1) (16 * i + 13) (omega arith), at (16 * i + 12 + 2) (16 * i + 13 + 1) (omega arith), at (16 * i + 12 + 3) (16 * i + 13 + 1 + 1) (omega arith))
    (four_bytes _ _ _ _ _ _ _ refl refl refl)
