-- The requirements and the results of the functions that compute the entries, and the end of a product. Definitions only, for private functions.
use Rattle.std.specs.Prelude.{◌≡◌, cond, List, ℕ, ◌*◌, ◌/◌, ◌%◌, ◌≤◌, ◌<◌, length, ltb, Option as Maybe, Some, None}
use Rattle.std.proofs.Math.Option.{Option}
use Rattle.enclosure.specs.Methods.{Range}
use Rattle.refusals.specs.declared.reason.Reason.TheVariants.{TooLarge}
use Rattle.refusals.specs.Refusal.{of_cell}
use Rattle.refusals.specs.Answer.{Answer, refuses, done}
use Rattle.intervals.specs.Slices.{zeros}
use Rattle.matrices.specs.Lists.{front}
use Rattle.matrices.specs.Matrix.{Matrix, AllFine}
use Rattle.matrices.specs.Entries.{lower_of, upper_of, stop_of}
use Rattle.products.specs.declared.sums.Place.{Place}

-- sizes up to 32, slices that are at least as long as their cells, and cells without fault
pub record Sizes (m k n : ℕ) (A B : Matrix) (lo up : ℕ) : Type 0 where
  pub rows : m ≤ 32
  pub inner : k ≤ 32
  pub columns : n ≤ 32
  pub positive : 0 < n
  pub a_lowers : m * k ≤ length A.lowers
  pub a_uppers : m * k ≤ length A.uppers
  pub b_lowers : k * n ≤ length B.lowers
  pub b_uppers : k * n ≤ length B.uppers
  pub lowers : m * n ≤ lo
  pub uppers : m * n ≤ up
  pub a_fine : AllFine A (m * k)
  pub b_fine : AllFine B (k * n)

-- the place of the first refused entry by rows, if there is one
abbrev pub Found : Type 0
Found = Maybe Place

-- the row and column of entry number `stop` of m by n, or None where `stop` is past the last one
abbrev pub place_of : ℕ → ℕ → ℕ → Found
place_of m n stop = cond (ltb stop (m * n)) (Some (record { row = stop / n; column = stop % n })) None

-- the entries before the first refused one are written, the cells from there on are as they were, and r is its row and column
pub record Written (E : ℕ → Option Range) (m n : ℕ) (lo up : List ℕ) (r : Found) (lo' up' : List ℕ) : Type 0 where
  pub place : r ≡ place_of m n (stop_of E (m * n))
  pub lowers : lo' ≡ front (stop_of E (m * n)) (λ c. lower_of (E c)) lo
  pub uppers : up' ≡ front (stop_of E (m * n)) (λ c. upper_of (E c)) up

-- ---- the end of a product: where an entry is refused, all cells of the result are set to 0

abbrev pub answer_at : Found → Answer (Unit {0})
answer_at None = done
answer_at (Some p) = refuses (of_cell TooLarge 3 p.row p.column)

abbrev pub cleared_at : Found → ℕ → List ℕ → List ℕ
cleared_at None count d = d
cleared_at (Some p) count d = zeros count d

-- a row and a column below 32
abbrev pub InReach : Found → Type 0
InReach None = Unit {0}
InReach (Some p) = (p.row < 32) × (p.column < 32)

-- the answer of `finish`, and the result slices afterwards
pub record Finished (place : Found) (count : ℕ) (lo up : List ℕ) (r : Answer (Unit {0})) (lo' up' : List ℕ) : Type 0 where
  pub answer : r ≡ answer_at place
  pub lowers : lo' ≡ cleared_at place count lo
  pub uppers : up' ≡ cleared_at place count up
