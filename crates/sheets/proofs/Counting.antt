-- Laws of the cells' records, one cell after the other. Assumes nothing.
use mathlib.Core.Path.{◌≡◌, refl, sym, subst}
use mathlib.Core.List.{List, ◌++◌, append_assoc, append-nil}
use Prim.Native.Nat.{ℕ, zero, suc, ◌+◌, ◌-◌, ◌*◌, ◌/◌, ◌%◌, ◌≤◌, ◌<◌}
use native.Mathlib.Nat.{add-zero, add-suc, div-lt_iff_lt-mul}
use native.Mathlib.Numerals.{add-one}
use native.Mathlib.Omega.{arith}
use lib.ListN.{length, take, length-append}
use Rattle.sheets.specs.Sheet.{over, cell_at, tally, count_to, next_of, cell_bytes, records_to}
use Rattle.sheets.proofs.CellBytes.{tally_le, cell_length}
use Rattle.sheets.proofs.Fronts.{Front, front_more}

module _ (lo up : List ℕ) where
  pub count_none : 0 ≡ count_to lo up 0
  unfolding count_to
  count_none = refl

  pub count_mono : (p y : ℕ) → count_to lo up p ≤ count_to lo up (p + y)
  unfolding count_to
  count_mono p zero = simp add-zero (omega arith)
  count_mono p (suc y) = rw add-suc (omega (arith, count_mono p y))

  pub count_room : (p m : ℕ) → p < m → count_to lo up p + tally (cell_at lo up p) ≤ count_to lo up m
  unfolding count_to
  count_room p m h =
      let y : suc p + (m - suc p) ≡ m = omega arith in
      let g : count_to lo up (suc p) ≤ count_to lo up (suc p + (m - suc p)) = count_mono (suc p) (m - suc p) in
      subst (λ (t : ℕ). count_to lo up p + tally (cell_at lo up p) ≤ count_to lo up t) y g

  pub count_le : (p : ℕ) → count_to lo up p ≤ p
  unfolding count_to
  count_le zero = omega arith
  count_le (suc p) = omega (arith, count_le p, tally_le (cell_at lo up p))

module _ (columns total : ℕ) (lo up : List ℕ) where
  pub records_length : (p : ℕ) → length (records_to columns total lo up p) ≡ 16 * count_to lo up p
  unfolding records_to count_to
  records_length zero = refl
  records_length (suc p) =
      simp (length-append, records_length p, cell_length) (omega arith)

  -- one cell more, where k records are written
  pub cells_more : (p k m n : ℕ) (d out out' : List ℕ) (f : List ℕ) → k ≡ count_to lo up p → m ≡ 16 * (k + 1) → n ≡ k + tally (cell_at lo up p)
      → out' ≡ over m (cell_bytes (next_of total (k + 1)) (p / columns) (p % columns) (cell_at lo up p)) out
      → m + 16 * tally (cell_at lo up p) ≤ length d
      → Front m (f ++ records_to columns total lo up p) d out
      → (n ≡ count_to lo up (p + 1)) × Front (16 * (n + 1)) (f ++ records_to columns total lo up (p + 1)) d out'
  unfolding records_to count_to
  cells_more p k m n d out out' f e g h o r w =
      let b : List ℕ = cell_bytes (next_of total (k + 1)) (p / columns) (p % columns) (cell_at lo up p) in
      let len : length b ≡ 16 * tally (cell_at lo up p) = cell_length _ _ _ (cell_at lo up p) in
      let v : Front (m + length b) (f ++ records_to columns total lo up p ++ b) d (over m b out) = front_more m (f ++ records_to columns total lo up p) d out b (omega arith) w in
      let q : m + length b ≡ 16 * (n + 1) = omega arith in
      let s : p + 1 ≡ suc p = add-one p in
      (rw (s, ← e) h, rw (s, ← e, o, ← q, ← append_assoc) v)

  pub start : (out : List ℕ) → Front (16 * (0 + 1)) (take 16 out ++ records_to columns total lo up 0) out out
  unfolding records_to
  start out = record { long = refl; front = sym (append-nil (take 16 out)); rest = refl }

pub div_lt : (p c m : ℕ) → 0 < c → p < m * c → p / c < m
div_lt p c m h k = (div-lt_iff_lt-mul h).1 k

pub mod_lt : (p c : ℕ) → 0 < c → p % c < c
mod_lt p c h = native.Mathlib.Nat.mod-lt p h
