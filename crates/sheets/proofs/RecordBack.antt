-- The written sheet, field by field: each record's fields are those that it was made of. Assumes nothing.
use mathlib.Core.Path.{◌≡◌, refl, sym, ap, subst, ◌∙◌}
use mathlib.Core.Bool.{Bool, true, false, cond}
use mathlib.Core.List.{List, [], ◌++◌, append_assoc, append-nil}
use Prim.Native.Nat.{ℕ, zero, suc, ◌+◌, ◌-◌, ◌*◌, ◌/◌, ◌%◌, ◌≤◌, ◌<◌}
use native.Mathlib.Nat.{add-zero, add-suc}
use native.Mathlib.Omega.{arith}
use lib.Dec.{eqb, ltb}
use lib.ListN.{length, get_or, length-append}
use lib.Seq.{get_or-append-add}
use borrow.Author.Tests.{eq-eqb, ltb-true}
use Rattle.std.specs.Prelude.{Some}
use Rattle.refusals.specs.Answer.{gives}
use Rattle.sheets.specs.declared.amount.Kind.TheVariants.{Classes, Amounts}
use Rattle.sheets.specs.declared.layout.Record.{Record}
use Rattle.sheets.specs.AllFrom.{all_from}
use Rattle.sheets.specs.Kind.{byte_of, kind_of}
use Rattle.sheets.specs.Layout.{u16_at, u32_at, blank, record_of, count_of, first_of, rows_of, columns_of}
use Rattle.sheets.specs.Cell.{HandedIn}
use Rattle.sheets.specs.Sheet.{record_bytes, head_bytes, cell_at, count_to, next_of, cell_bytes, records_to, sheet_of}
use Rattle.sheets.proofs.CellBytes.{record_length}
use Rattle.sheets.proofs.Counting.{count_le, records_length}
use Rattle.sheets.proofs.CellBack.{Back, cell_back}

-- ---- one record

at : (a e : List ℕ) (m j k : ℕ) → length a ≡ m → k ≡ m + j → get_or (a ++ e) k 0 ≡ get_or e j 0
at a e m j k h g = rw (g, ← h) (get_or-append-add a e j 0)

abbrev pub fields_of : ℕ → ℕ → ℕ → ℕ → ℕ → Record
fields_of x r c l u = record { next = x; row = r; column = c; lower = l; upper = u; wear = 0 }

four : (l : ℕ) → l < 4294967296 → l % 256 + 256 * (l / 256 % 256) + 65536 * (l / 65536 % 256) + 16777216 * (l / 16777216 % 256) ≡ l
four l h =
    let h1 : l / 65536 ≡ l / 256 / 256 = omega arith in
    let h2 : l / 16777216 ≡ l / 65536 / 256 = omega arith in
    let h3 : l / 16777216 < 256 = omega arith in
    go (l / 256) (l / 65536) (l / 16777216) h1 h2 h3 refl
  where
    go : (a b c : ℕ) → b ≡ a / 256 → c ≡ b / 256 → c < 256 → l / 256 ≡ a → l % 256 + 256 * (a % 256) + 65536 * (b % 256) + 16777216 * (c % 256) ≡ l
    go a b c e f g k = omega arith

pub record_back : (a d : List ℕ) (i x r c l u : ℕ) → length a ≡ 16 * i → x < 65536 → l < 4294967296 → u < 4294967296
    → record_of (a ++ (record_bytes x r c l u ++ d)) i ≡ fields_of x r c l u
unfolding record_of u16_at u32_at record_bytes
record_back a d i x r c l u h hx hl hu =
    let e : List ℕ = record_bytes x r c l u ++ d in
    let f : (j k : ℕ) → k ≡ 16 * i + j → get_or (a ++ e) k 0 ≡ get_or e j 0 = λ j k g. at a e (16 * i) j k h g in
    let e0 : x % 256 + 256 * (x / 256 % 256) ≡ x = omega arith in
    let e1 : l % 256 + 256 * (l / 256 % 256) + 65536 * (l / 65536 % 256) + 16777216 * (l / 16777216 % 256) ≡ l = four l hl in
    let e2 : u % 256 + 256 * (u / 256 % 256) + 65536 * (u / 65536 % 256) + 16777216 * (u / 16777216 % 256) ≡ u = four u hu in
    rw (
      f 0 (16 * i) (omega arith),
      f 1 (16 * i + 1) (omega arith),
      f 2 (16 * i + 2) (omega arith),
      f 3 (16 * i + 3) (omega arith),
      f 4 (16 * i + 4) (omega arith),
      f 5 (16 * i + 4 + 1) (omega arith),
      f 6 (16 * i + 4 + 2) (omega arith),
      f 7 (16 * i + 4 + 3) (omega arith),
      f 8 (16 * i + 8) (omega arith),
      f 9 (16 * i + 8 + 1) (omega arith),
      f 10 (16 * i + 8 + 2) (omega arith),
      f 11 (16 * i + 8 + 3) (omega arith),
      f 12 (16 * i + 12) (omega arith),
      f 13 (16 * i + 12 + 1) (omega arith),
      f 14 (16 * i + 12 + 2) (omega arith),
      f 15 (16 * i + 12 + 3) (omega arith),
      e0,
      e1,
      e2,
    )

-- ---- where a cell's record stands

pub records_split : (columns total : ℕ) (lo up : List ℕ) (p y : ℕ)
    → (d : List ℕ) × (records_to columns total lo up (suc p + y)
    ≡ records_to columns total lo up p ++ (cell_bytes (next_of total (count_to lo up p + 1)) (p / columns) (p % columns) (cell_at lo up p) ++ d))
unfolding records_to
records_split columns total lo up p zero =
    ([], rw add-zero (ap (λ (l : List ℕ). records_to columns total lo up p ++ l) (sym (append-nil _))))
records_split columns total lo up p (suc y) =
    let h = records_split columns total lo up p y in
    let b : List ℕ = cell_bytes (next_of total (count_to lo up (suc p + y) + 1)) ((suc p + y) / columns) ((suc p + y) % columns) (cell_at lo up (suc p + y)) in
    (h.0 ++ b, rw (add-suc (suc p) y) (ap (λ (l : List ℕ). l ++ b) h.1 ∙ simp append_assoc))

pub next_small : (t j : ℕ) → t ≤ 1024 → next_of t j < 65536
unfolding next_of
next_small t j h = go (ltb j t) refl
  where
    go : (b : Bool) → ltb j t ≡ b → cond b (j + 1) 0 < 65536
    go true g = let l : j < t = ltb-true _ _ g in omega arith
    go false g = omega arith

pub head_blank : (rows columns : ℕ) (lo up : List ℕ) → count_to lo up (rows * columns) ≤ 1024 → blank (sheet_of rows columns lo up) 7 9 ≡ true
unfolding all_from blank sheet_of record_bytes
head_blank rows columns lo up h =
    let n : ℕ = count_to lo up (rows * columns) + 1 + 65536 * 1 in
    rw (eq-eqb (n / 16777216 % 256) 0 (omega arith))

module _ (rows columns : ℕ) (lo up : List ℕ) (few : rows * columns ≤ 1024) where
  -- the record of the cell at position p
  pub record_at_position : (p x y : ℕ) → p < rows * columns → cell_at lo up p ≡ gives (Some (x, y))
      → record_of (sheet_of rows columns lo up) (count_to lo up p + 1) ≡ fields_of (next_of (count_to lo up (rows * columns)) (count_to lo up p + 1)) (p / columns) (p % columns) x y
  unfolding sheet_of cell_bytes
  record_at_position p x y h e =
      let n : ℕ = rows * columns in
      let t : ℕ = count_to lo up n in
      let s = records_split columns t lo up p (n - suc p) in
      let m : suc p + (n - suc p) ≡ n = omega arith in
      let hd : List ℕ = head_bytes (next_of t 0) rows columns (t + 1) in
      let k : ℕ = next_of t (count_to lo up p + 1) in
      let g : records_to columns t lo up n ≡ records_to columns t lo up p ++ (record_bytes k (p / columns) (p % columns) x y ++ s.0) =
      subst (λ (v : ℕ). records_to columns t lo up v ≡ records_to columns t lo up p ++ (record_bytes k (p / columns) (p % columns) x y ++ s.0)) m
      (s.1 ∙ ap (λ (b : HandedIn). records_to columns t lo up p ++ (cell_bytes k (p / columns) (p % columns) b ++ s.0)) e) in
      let a : hd ++ records_to columns t lo up n ≡ (hd ++ records_to columns t lo up p) ++ (record_bytes k (p / columns) (p % columns) x y ++ s.0) = ap (λ (l : List ℕ). hd ++ l) g ∙ sym (append_assoc hd _ _) in
      let len : length (hd ++ records_to columns t lo up p) ≡ 16 * (count_to lo up p + 1) =
      length-append hd (records_to columns t lo up p) ∙ rw (record_length (next_of t 0) rows columns (t + 1 + 65536 * 1) 0, records_length columns t lo up p) (omega arith) in
      let tl : t ≤ n = count_le lo up n in
      let q : Back (get_or lo p 0) (get_or up p 0) x y = cell_back (get_or lo p 0) (get_or up p 0) x y e in
      rw a (record_back (hd ++ records_to columns t lo up p) s.0 (count_to lo up p + 1) k (p / columns) (p % columns) x y len (next_small t (count_to lo up p + 1) (omega arith)) q.lower_fits q.upper_fits)

  -- ---- the head

  pub count_back : count_of (sheet_of rows columns lo up) ≡ count_to lo up (rows * columns) + 1
  unfolding sheet_of record_bytes u16_at
  count_back = let t : count_to lo up (rows * columns) ≤ rows * columns = count_le lo up (rows * columns) in omega arith

  pub byte_back : get_or (sheet_of rows columns lo up) 6 0 ≡ byte_of Amounts
  unfolding sheet_of record_bytes
  byte_back = let t : count_to lo up (rows * columns) ≤ rows * columns = count_le lo up (rows * columns) in omega arith

  pub kind_back : kind_of (sheet_of rows columns lo up) ≡ Amounts
  kind_back = ap (λ (n : ℕ). cond (eqb n (byte_of Classes)) Classes Amounts) byte_back

  pub kind_told : eqb (get_or (sheet_of rows columns lo up) 6 0) (byte_of (kind_of (sheet_of rows columns lo up))) ≡ true
  kind_told = ap (λ (n : ℕ). eqb n (byte_of (cond (eqb n (byte_of Classes)) Classes Amounts))) byte_back

  pub first_back : first_of (sheet_of rows columns lo up) ≡ next_of (count_to lo up (rows * columns)) 0
  unfolding sheet_of record_bytes u16_at
  first_back =
      let t : count_to lo up (rows * columns) ≤ rows * columns = count_le lo up (rows * columns) in
      let h : next_of (count_to lo up (rows * columns)) 0 < 65536 = next_small (count_to lo up (rows * columns)) 0 (omega arith) in
      omega arith

  pub rows_back : rows_of (sheet_of rows columns lo up) ≡ rows
  unfolding sheet_of record_bytes
  rows_back = refl

  pub columns_back : columns_of (sheet_of rows columns lo up) ≡ columns
  unfolding sheet_of record_bytes
  columns_back = refl
