-- An entry looks at its first k pairs of cells alone; by methods 3, 4, 5 and 7 it looks at their midpoints and radii alone.
use mathlib.Core.Path.{◌≡◌, refl, ap, ap₂, ◌∙◌}
use mathlib.Core.Option.{Option, none, some, bind}
use Prim.Native.Nat.{ℕ, ◌<◌}
use lib.IntN.{ℤ, pos, ◌+ℤ◌, ◌-ℤ◌}
use Rattle.enclosure.specs.Arithmetic.{Arithmetic}
use Rattle.enclosure.specs.Cell.{Cell}
use Rattle.enclosure.specs.Methods.{Method, classical, three, four, five, seven, entry, entry₁, ends, radius₃, radius₄, radius₅, radius₇, size₅, error₅, error_bound, centre, centre₇, total}
use Rattle.enclosure.specs.Methods.{least_term, greatest_term, inner_term, outer_term, raised_term, shared_term, mid_term, part_term, mid_size_term, part_size_term, largest_term}
use Rattle.enclosure.proofs.Sums.{sum_ext}

pub bind_each : {A B : Type 0} (m : Option A) {f g : A → Option B} → ((v : A) → f v ≡ g v) → bind m f ≡ bind m g
unfolding bind
bind_each none h = refl
bind_each (some v) h = h v

bind_ext : {A B : Type 0} {m n : Option A} {f g : A → Option B} → m ≡ n → ((v : A) → f v ≡ g v) → bind m f ≡ bind n g
bind_ext {m = m} {g = g} e h = bind_each m h ∙ ap (λ x. bind x g) e

module _ (A : Arithmetic) (k : ℕ) (a b a' b' : ℕ → Cell) (same-a : (l : ℕ) → l < k → a l ≡ a' l) (same-b : (l : ℕ) → l < k → b l ≡ b' l) where
  open A use {up, down, near, tiny}

  total_ext : (way : ℕ → ℤ → Option ℤ) (term : Cell → Cell → Option ℤ) (s : ℤ) → total A k a b way term s ≡ total A k a' b' way term s
  unfolding total
  total_ext way term s = sum_ext (way 1) (λ l. term (a l) (b l)) (λ l. term (a' l) (b' l)) s k (λ l h. ap₂ term (same-a l h) (same-b l h))

  radius₄_ext : radius₄ A k a b ≡ radius₄ A k a' b'
  unfolding radius₄
  radius₄_ext = bind_ext (total_ext up (inner_term A) (pos 0)) (total_ext up (outer_term A))

  radius₇_ext : radius₇ A k a b ≡ radius₇ A k a' b'
  unfolding radius₇
  radius₇_ext = bind_ext radius₄_ext (total_ext up (shared_term A))

  radius₃_ext : radius₃ A k a b ≡ radius₃ A k a' b'
  unfolding radius₃
  radius₃_ext = bind_ext (total_ext up (raised_term A k) (pos 0)) (λ s. bind_each (up 1 (s +ℤ pos tiny)) (total_ext up (outer_term A)))

  centre_ext : (way : ℕ → ℤ → Option ℤ) → centre A k a b way ≡ centre A k a' b' way
  unfolding centre
  centre_ext way = total_ext way (mid_term A way) (pos 0)

  centre₇_ext : (way : ℕ → ℤ → Option ℤ) → centre₇ A k a b way ≡ centre₇ A k a' b' way
  unfolding centre₇
  centre₇_ext way = bind_ext (centre_ext way) (total_ext way (part_term A way))

  size₅_ext : size₅ A k a b ≡ size₅ A k a' b'
  unfolding size₅
  size₅_ext = bind_ext (total_ext near (mid_size_term A) (pos 0)) (total_ext near (part_size_term A))

  error₅_ext : error₅ A k a b ≡ error₅ A k a' b'
  unfolding error₅
  error₅_ext = ap (λ m. bind m (error_bound A k)) size₅_ext

  radius₅_ext : radius₅ A k a b ≡ radius₅ A k a' b'
  unfolding radius₅
  radius₅_ext =
      bind_ext (total_ext up (largest_term A) (pos 0))
      (λ s. bind_ext size₅_ext (λ g. bind_each (up 1 (s -ℤ g)) (λ t. bind_ext error₅_ext (λ e. refl))))

  ends_ext : {r r' s s' t t' : Option ℤ} → r ≡ r' → s ≡ s' → t ≡ t' → ends A r s t ≡ ends A r' s' t'
  ends_ext {r} {r'} {s} {s'} {t} {t'} e f g = ap₂ (λ x y. ends A x y t) e f ∙ ap (ends A r' s') g

  pub entry_ext : (method : Method) → entry A method k a b ≡ entry A method k a' b'
  unfolding entry entry₁
  entry_ext classical = bind_ext (total_ext down (least_term A) (pos 0)) (λ l. bind_ext (total_ext up (greatest_term A) (pos 0)) (λ u. refl))
  entry_ext three = ends_ext radius₃_ext (centre_ext near) (centre_ext near)
  entry_ext four = ends_ext radius₄_ext (centre_ext down) (centre_ext up)
  entry_ext five = ends_ext radius₅_ext (centre₇_ext near) (centre₇_ext near)
  entry_ext seven = ends_ext radius₇_ext (centre₇_ext down) (centre₇_ext up)

-- ---- midpoints and radii

-- the methods that look at no bound
pub data ByMidRad : Method → Type 0 where
  is_three : ByMidRad three
  is_four : ByMidRad four
  is_five : ByMidRad five
  is_seven : ByMidRad seven

-- a cell without its bounds
abbrev pub bare : Cell → Cell
bare x = record { low = pos 0; high = pos 0; mid = x.mid; rad = x.rad }

pub entry_bare : (A : Arithmetic) (method : Method) (k : ℕ) (a b : ℕ → Cell) → ByMidRad method → entry A method k a b ≡ entry A method k (λ l. bare (a l)) (λ l. bare (b l))
unfolding entry radius₃ radius₄ radius₅ radius₇ size₅ error₅ centre centre₇ total inner_term outer_term raised_term shared_term mid_term part_term mid_size_term part_size_term largest_term
entry_bare A _ k a b is_three = refl
entry_bare A _ k a b is_four = refl
entry_bare A _ k a b is_five = refl
entry_bare A _ k a b is_seven = refl
