-- The number 1 is the classical method, and the other methods look at midpoints and radii alone.
use mathlib.Core.Path.{◌≡◌, refl, sym, subst}
use Prim.Native.Nat.{ℕ}
use Rattle.enclosure.specs.Methods.{classical}
use Rattle.matrices.specs.declared.methods.Method.{Method}
use Rattle.matrices.specs.declared.methods.Method.TheVariants.{Classical, Three, Four, Five, Seven}
use Rattle.matrices.specs.Checks.{method_of, chosen}
use Rattle.matrices.specs.Methods.{meant}
use Rattle.products.proofs.EntryExt.{ByMidRad, is_three, is_four, is_five, is_seven}

pub chosen_1 : (n : ℕ) → n ≡ 1 → classical ≡ chosen n
unfolding method_of
chosen_1 n e = subst (λ (k : ℕ). classical ≡ chosen k) (sym e) refl

pub by_mid_rad : (m : Method) → (m ≡ Classical → ⊥) → ByMidRad (meant m)
unfolding meant
by_mid_rad Classical other = absurd (other refl)
by_mid_rad Three other = is_three
by_mid_rad Four other = is_four
by_mid_rad Five other = is_five
by_mid_rad Seven other = is_seven

-- the last of the four
pub last : (m : Method) → (m ≡ Classical → ⊥) → (m ≡ Three → ⊥) → (m ≡ Four → ⊥) → (m ≡ Five → ⊥) → m ≡ Seven
last Classical f g h i = absurd (f refl)
last Three f g h i = absurd (g refl)
last Four f g h i = absurd (h refl)
last Five f g h i = absurd (i refl)
last Seven f g h i = refl
