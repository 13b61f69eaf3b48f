-- A number between two bounds, as the code tests it: the two tests in one.
use mathlib.Core.Path.{◌≡◌, sym, subst}
use mathlib.Core.Bool.{Bool, true, false, not, cond}
use mathlib.Core.Logic.{◌⊎◌, inl, inr}
use Prim.Native.Nat.{ℕ, ◌≤◌, ◌<◌}
use lib.Dec.{T, ltb, ltb→lt, nltb→le}

module _ (e a b : ℕ) where
  pub range_yes : cond (ltb e a) false (ltb e b) ≡ true → (a ≤ e) × (e < b)
  range_yes h = go (ltb e a) (ltb e b) (nltb→le e a) (ltb→lt e b) h
    where
      go : (s t : Bool) → (T (not s) → a ≤ e) → (T t → e < b) → cond s false t ≡ true → (a ≤ e) × (e < b)
      go true t n y i = absurd (subst (λ x. cond x (Unit {0}) ⊥) (sym i) tt)
      go false true n y i = (n tt, y tt)
      go false false n y i = absurd (subst (λ x. cond x (Unit {0}) ⊥) (sym i) tt)

  pub range_no : cond (ltb e a) false (ltb e b) ≡ false → (e < a) ⊎ (b ≤ e)
  range_no h = go (ltb e a) (ltb e b) (ltb→lt e a) (nltb→le e b) h
    where
      go : (s t : Bool) → (T s → e < a) → (T (not t) → b ≤ e) → cond s false t ≡ false → (e < a) ⊎ (b ≤ e)
      go true t y n i = inl (y tt)
      go false true y n i = absurd (subst (λ x. cond x ⊥ (Unit {0})) (sym i) tt)
      go false false y n i = inr (n tt)
