-- Method 3's factors: a test of a pattern against (k + 2) × 2^-24, and what passing it says.
use mathlib.Core.Path.{◌≡◌, refl, ap, ◌∙◌}
use mathlib.Core.Bool.{Bool, true, false}
use mathlib.Core.Option.{some}
use Prim.Native.Nat.{ℕ}
use lib.Dec.{T}
use lib.Signed.{le_z, le_z_yes}
use Rattle.algebra.proofs.Order.{≼_antisym}
use Rattle.binary32.specs.Number.{value_of, finite, held}
use Rattle.binary32.proofs.Held.{held_finite}
use Rattle.products.specs.Derived.{factor_of, raised_factor}
use Rattle.algebra.proofs.Table.{both, both_left, both_right}

-- p is finite, and its value is neither above nor below the factor
unfoldable pub right : ℕ → ℕ → Bool
right k p = both (finite p) (both (le_z (value_of p) (factor_of k)) (le_z (factor_of k) (value_of p)))

is_true : (t : Bool) → T t → t ≡ true
is_true true h = refl
is_true false h = absurd h

pub right_held : (k p : ℕ) → T (right k p) → held p ≡ raised_factor k
unfolding right raised_factor
right_held k p t =
    let r = both_right (finite p) (both (le_z (value_of p) (factor_of k)) (le_z (factor_of k) (value_of p))) t in
    let le = both_left (le_z (value_of p) (factor_of k)) (le_z (factor_of k) (value_of p)) r in
    let ge = both_right (le_z (value_of p) (factor_of k)) (le_z (factor_of k) (value_of p)) r in
    held_finite p (is_true (finite p) (both_left (finite p) _ t)) ∙ ap some (≼_antisym (le_z_yes le) (le_z_yes ge))
