-- A test that passes where the first of two does, or else the second.
use mathlib.Core.Path.{◌≡◌, refl, sym, ap, ◌∙◌}
use mathlib.Core.Bool.{Bool, true, false, cond}
use mathlib.Core.Logic.{◌⊎◌, inl, inr}

pub or_first : (s t : Bool) → cond s true t ≡ false → s ≡ false
or_first true t e = e
or_first false t e = refl

pub or_second : (s t : Bool) → cond s true t ≡ false → t ≡ false
or_second s t e = sym (ap (λ x. cond x true t) (or_first s t e)) ∙ e

pub or_cases : (s t : Bool) → cond s true t ≡ true → (s ≡ true) ⊎ (t ≡ true)
or_cases true t e = inl refl
or_cases false t e = inr e

-- the answer after each test
pub or_here : (s t : Bool) → s ≡ true → true ≡ cond s true t
or_here s t e = sym (ap (λ x. cond x true t) e)

pub or_next : (s t u : Bool) → s ≡ false → u ≡ t → u ≡ cond s true t
or_next s t u e f = f ∙ sym (ap (λ x. cond x true t) e)
