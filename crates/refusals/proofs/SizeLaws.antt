-- Laws of refusals 1 and 2: what passing the tests of sizes and lengths tells. Assumes nothing.
use mathlib.Core.Path.{◌≡◌, sym, subst}
use mathlib.Core.Bool.{true}
use Prim.Native.Nat.{ℕ, ◌*◌, ◌≤◌}
use native.Mathlib.Nat.{mul-le-mul}
use lib.Dec.{T, leb, leb→le}
use Rattle.refusals.specs.declared.reason.Reason.TheVariants.{WrongSize, ShortSlice}
use Rattle.refusals.specs.Refusal.{of_matrix}
use Rattle.refusals.specs.Answer.{done}
use Rattle.refusals.specs.Sizes.{sized, check_size, check_lengths, check_fit}
use Rattle.refusals.proofs.Answers.{unless_tells, and_tells, then_tells}

is_le : (a b : ℕ) → leb a b ≡ true → a ≤ b
is_le a b e = leb→le a b (subst T (sym e) tt)

-- ---- 1
module _ (rows columns : ℕ) where
  pub size_tells : (matrix : ℕ) → check_size matrix rows columns ≡ done → (1 ≤ rows) × (rows ≤ 32) × (1 ≤ columns) × (columns ≤ 32)
  unfolding check_size
  size_tells matrix e =
      let a = and_tells (leb 1 rows) _ (unless_tells (sized rows columns) (of_matrix WrongSize matrix) e) in
      let b = and_tells (leb rows 32) _ a.1 in
      let c = and_tells (leb 1 columns) _ b.1 in
      (is_le 1 rows a.0, is_le rows 32 b.0, is_le 1 columns c.0, is_le columns 32 c.1)

-- ---- 2
module _ (matrix cells lowers uppers : ℕ) where
  pub lengths_tell : check_lengths matrix cells lowers uppers ≡ done → (cells ≤ lowers) × (cells ≤ uppers)
  unfolding check_lengths
  lengths_tell e =
      let s = and_tells (leb cells lowers) (leb cells uppers) (unless_tells _ (of_matrix ShortSlice matrix) e) in
      (is_le cells lowers s.0, is_le cells uppers s.1)

-- ---- both
pub small : (i j : ℕ) → i ≤ 32 → j ≤ 32 → i * j ≤ 1024
small i j hi hj = mul-le-mul hi hj

-- what passing 1 and 2 tells
pub record Fitting (r c l u : ℕ) : Type 0 where
  pub some_row : 1 ≤ r
  pub rows : r ≤ 32
  pub some_column : 1 ≤ c
  pub columns : c ≤ 32
  pub lowers : r * c ≤ l
  pub uppers : r * c ≤ u

pub fit_tells : (matrix rows columns lowers uppers : ℕ) → check_fit matrix rows columns lowers uppers ≡ done → Fitting rows columns lowers uppers
unfolding check_fit
fit_tells matrix rows columns lowers uppers e =
    let t = then_tells (check_size matrix rows columns) _ tt e in
    let s = size_tells rows columns matrix t.0.1 in
    let l = lengths_tell matrix (rows * columns) lowers uppers t.1 in
    record { some_row = s.0; rows = s.1; some_column = s.2; columns = s.3; lowers = l.0; uppers = l.1 }
