-- Entries that agree on all places are written alike: what counts is the entries below the number of cells. So are those by one method under two names.
use mathlib.Core.Path.{◌≡◌, ap, ◌∙◌, subst}
use mathlib.Core.List.{List}
use mathlib.Core.Option.{Option}
use Prim.Native.Nat.{ℕ, ◌*◌, ◌<◌, ◌≤◌}
use native.Mathlib.Omega.{arith}
use Rattle.enclosure.specs.Methods.{Method, Range}
use Rattle.matrices.specs.Lists.{front}
use Rattle.products.specs.MidRad.{entry_from}
use Rattle.matrices.specs.Entries.{refused, lower_of, upper_of, stop_of}
use Rattle.products.specs.Written.{Found, place_of, Written}
use Rattle.matrices.proofs.Firsts.{first_le, first_ext}
use Rattle.matrices.proofs.Fronts.{front_ext}

module _ (E E' : ℕ → Option Range) (m n : ℕ) (same : (c : ℕ) → c < m * n → E c ≡ E' c) where
  stop_ext : stop_of E (m * n) ≡ stop_of E' (m * n)
  unfolding stop_of
  stop_ext = first_ext (λ c. refused (E c)) (λ c. refused (E' c)) (m * n) (λ c h. ap refused (same c h))

  stop_within : stop_of E (m * n) ≤ m * n
  unfolding stop_of
  stop_within = first_le (λ c. refused (E c)) (m * n)

  bound_ext : (bound : Option Range → ℕ) (d : List ℕ) → front (stop_of E (m * n)) (λ c. bound (E c)) d ≡ front (stop_of E' (m * n)) (λ c. bound (E' c)) d
  bound_ext bound d =
      front_ext (λ c. bound (E c)) (λ c. bound (E' c)) (stop_of E (m * n)) d (λ c h. ap bound (same c (omega (arith, stop_within))))
      ∙ ap (λ s. front s (λ c. bound (E' c)) d) stop_ext

  pub written_ext : {lo up lo' up' : List ℕ} {r : Found} → Written E m n lo up r lo' up' → Written E' m n lo up r lo' up'
  written_ext {lo = lo} {up = up} w =
      record { place = w.place ∙ ap (place_of m n) stop_ext; lowers = w.lowers ∙ bound_ext lower_of lo; uppers = w.uppers ∙ bound_ext upper_of up }

-- by one method under two names
pub written_by : {x y : Method} (m k n : ℕ) (ma ra mb rb lo up lo' up' : List ℕ) (r : Found) → x ≡ y
    → Written (entry_from x k n ma ra mb rb) m n lo up r lo' up' → Written (entry_from y k n ma ra mb rb) m n lo up r lo' up'
written_by m k n ma ra mb rb lo up lo' up' r e w = subst (λ z. Written (entry_from z k n ma ra mb rb) m n lo up r lo' up') e w
