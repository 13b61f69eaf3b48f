-- The answer of a product, and the lent slices afterwards, for all arguments. Definitions only.
use Rattle.std.specs.Prelude.{◌≡◌, cond, List, ℕ, ◌*◌, ◌/◌, ◌%◌, ltb, eqb}
use Rattle.std.proofs.Math.Option.{Option}
use Rattle.enclosure.specs.Methods.{Range}
use Rattle.refusals.specs.declared.reason.Reason.TheVariants.{TooLarge}
use Rattle.refusals.specs.Refusal.{of_cell}
use Rattle.refusals.specs.Answer.{Answer, refuses, done, then, unless_refused}
use Rattle.intervals.specs.Slices.{zeros}
use Rattle.matrices.specs.Lists.{front}
use Rattle.matrices.specs.Matrix.{mid_at, rad_at}
use Rattle.matrices.specs.Entries.{entry_at, stop_of, lower_of, upper_of}
use Rattle.matrices.specs.Checks.{Given, called, chosen, check_of}

-- the entry at each position
abbrev pub entries : Given → ℕ → Option Range
entries g = entry_at (chosen g.method) g.a_columns g.b_columns g.A g.B

-- the number of cells of the result
abbrev pub cells : Given → ℕ
cells g = g.a_rows * g.b_columns

-- how many entries come before the first refused one
abbrev pub stop : Given → ℕ
stop g = stop_of (entries g) (cells g)

-- the answer: the refusal of a check, or refusal 5 with the row and column of the first refused entry, or done
unfoldable pub product_of : Given → Answer (Unit {0})
product_of g = then (check_of g) (cond (ltb (stop g) (cells g)) (refuses (of_cell TooLarge 3 (stop g / g.b_columns) (stop g % g.b_columns))) done)

-- ---- the lent slices afterwards: a refusal by a check leaves them as they were

-- a result slice, which held d: its cells are the entries, or zeros after refusal 5
unfoldable pub result_after : Given → (Option Range → ℕ) → List ℕ → List ℕ
result_after g bound d = unless_refused (check_of g) (cond (ltb (stop g) (cells g)) (zeros (cells g) d) (front (cells g) (λ c. bound (entries g c)) d)) d

-- a work slice, which held d: its cells are midpoints or radii, after refusal 5 too; method 1 leaves them as they were
unfoldable pub work_after : Given → ℕ → (ℕ → ℕ) → List ℕ → List ℕ
work_after g count converted d = unless_refused (check_of g) (cond (eqb g.method 1) d (front count converted d)) d

-- the answer of `product`, and the slices that it leaves
pub record Left (g : Given) (ma ra mb rb lo up : List ℕ) (r : Answer (Unit {0})) (ma' ra' mb' rb' lo' up' : List ℕ) : Type 0 where
  pub answer : r ≡ product_of g
  pub a_mids : ma' ≡ work_after g (g.a_rows * g.a_columns) (mid_at g.A) ma
  pub a_rads : ra' ≡ work_after g (g.a_rows * g.a_columns) (rad_at g.A) ra
  pub b_mids : mb' ≡ work_after g (g.b_rows * g.b_columns) (mid_at g.B) mb
  pub b_rads : rb' ≡ work_after g (g.b_rows * g.b_columns) (rad_at g.B) rb
  pub lowers : lo' ≡ result_after g lower_of lo
  pub uppers : up' ≡ result_after g upper_of up

-- the same, by the arguments of a call
abbrev pub Leaves : (method ar ac br bc : ℕ) (al au bl bu ma ra mb rb lo up : List ℕ) (r : Answer (Unit {0})) (ma' ra' mb' rb' lo' up' : List ℕ) → Type 0
Leaves method ar ac br bc al au bl bu ma ra mb rb lo up = Left (called method ar ac br bc al au bl bu ma ra mb rb lo up) ma ra mb rb lo up
