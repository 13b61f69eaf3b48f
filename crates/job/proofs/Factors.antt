-- Laws of a factor that stands in the front of two arrays: read from a sheet, or the product of two. Assumes nothing.
use mathlib.Core.Path.{◌≡◌, sym, ap, ap₂, subst, ◌∙◌}
use mathlib.Core.List.{List, ◌++◌}
use Prim.Native.Nat.{ℕ, ◌*◌, ◌≤◌}
use lib.ListN.{length, take}
use lib.Seq.{take_at}
use Rattle.refusals.specs.Answer.{Answer, gives, refuses, naming}
use Rattle.sheets.specs.declared.Sizes.{Sizes}
use Rattle.sheets.specs.declared.chain.Cell.{Cell}
use Rattle.sheets.specs.Layout.{rows_of, columns_of}
use Rattle.sheets.specs.Reading.{sizes, read_of, matrix_of, slice_after, lowers_after, uppers_after}
use Rattle.sheets.proofs.Answers.{done_tells}
use Rattle.sheets.proofs.Putting.{matrix_length}
use Rattle.job.specs.Factor.{Factor, matrix_in, sheet_read, read_as, in_front, in_arrays, Few}

-- ---- an answer in the arrays, where the code's answer o is v
pub arrays_by : (lo up : List ℕ) {o v : Answer Sizes} {A : Answer Factor} → in_arrays o lo up ≡ A → o ≡ v → in_arrays v lo up ≡ A
arrays_by lo up e f = sym (ap (λ z. in_arrays z lo up) f) ∙ e

pub few_is : {o : Answer Sizes} {z : Sizes} → o ≡ gives z → Few o → z.rows * z.columns ≤ 1024
few_is e f = subst Few e f

pub factor_is : {r c r' c' : ℕ} {l u l' u' : List ℕ} → r ≡ r' → c ≡ c' → l ≡ l' → u ≡ u'
    → ◌≡◌ {A = Factor} (record { rows = r; columns = c; lowers = l; uppers = u }) (record { rows = r'; columns = c'; lowers = l'; uppers = u' })
factor_is p q m n = rw (p, q, m, n)

-- the first n patterns of an array that has x, n patterns, in front
pub front_is : (n : ℕ) (x y l : List ℕ) → length x ≡ n → l ≡ x ++ y → take n l ≡ x
front_is n x y l h e = ap (take n) e ∙ take_at x y n h

-- ---- a sheet that is read
front_bounds : (b : Cell → ℕ) (s d d' : List ℕ) (r c : ℕ) → rows_of s ≡ r → columns_of s ≡ c → d' ≡ slice_after b s (gives (sizes r c)) d → take (r * c) d' ≡ matrix_of b s
unfolding slice_after
front_bounds b s d d' r c p q e = front_is (r * c) (matrix_of b s) _ d' (matrix_length b s ∙ ap₂ ◌*◌ p q) e

module _ (p : ℕ) (s : List ℕ) {l u : ℕ} (m : l ≡ 1024) (n : u ≡ 1024) where
  answered : {o : Answer Sizes} → o ≡ read_of s l u → sheet_read s ≡ o
  answered e = ap₂ (read_of s) (sym m) (sym n) ∙ sym e

  -- the code's answer o, and the same with its refusals named
  pub read_named : (o o' : Answer Sizes) (lo up : List ℕ) {lo' up' : List ℕ} → o ≡ read_of s l u → o' ≡ naming p o → lo' ≡ lowers_after s o lo → up' ≡ uppers_after s o up
      → in_arrays o' lo' up' ≡ read_as p s
  unfolding read_as
  read_named (refuses x) o' lo up e f g h = rw (f, answered e)
  read_named (gives z) o' lo up {lo'} {up'} e f g h =
      let t = done_tells s 1024 1024 z.rows z.columns (answered e) in
      let k : in_front z.rows z.columns lo' up' ≡ matrix_in s =
      factor_is (sym t.rows) (sym t.columns) (front_bounds _ s lo lo' z.rows z.columns t.rows t.columns g) (front_bounds _ s up up' z.rows z.columns t.rows t.columns h) in
      rw (f, answered e) (ap gives k)
