-- An accepted chain of two steps: both were accepted.
use mathlib.Core.Path.{◌≡◌, refl}
use mathlib.Core.Option.{Option, none, some, bind, none-ne-some}

-- `bind m f` gave b: m gave `value`, and then f did
pub record Bound {A B : Type 0} (m : Option A) (f : A → Option B) (b : B) : Type 0 where
  pub value : A
  pub first : m ≡ some value
  pub then : f value ≡ some b

pub bound : {A B : Type 0} (m : Option A) (f : A → Option B) {b : B} → bind m f ≡ some b → Bound m f b
unfolding bind
bound none f {b} h = absurd (none-ne-some b h)
bound (some a) f h = record { value = a; first = refl; then = h }
