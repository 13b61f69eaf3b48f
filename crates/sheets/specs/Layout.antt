-- A coupling sheet as a list of bytes. Definitions only.
use Rattle.std.specs.Prelude.{Bool, false, cond, List, ℕ, ◌+◌, ◌*◌, ◌%◌, leb, eqb, length, get_or}
use Rattle.sheets.specs.declared.layout.Record.{Record}
use Rattle.sheets.specs.AllFrom.{all_from}
use Rattle.sheets.specs.Kind.{byte_of, kind_of}

-- the little-endian numbers of two and of four bytes at byte p
unfoldable pub u16_at : List ℕ → ℕ → ℕ
u16_at s p = get_or s p 0 + 256 * get_or s (p + 1) 0

unfoldable pub u32_at : List ℕ → ℕ → ℕ
u32_at s p = get_or s p 0 + 256 * get_or s (p + 1) 0 + 65536 * get_or s (p + 2) 0 + 16777216 * get_or s (p + 3) 0

-- whether the n bytes from p on are zero
unfoldable pub blank : List ℕ → ℕ → ℕ → Bool
blank s = all_from (λ i. eqb (get_or s i 0) 0)

-- record i, read as a cell: next, row, column, the two bounds, and bytes 12 to 15 as one number, the wear, whose meaning depends on the sheet's kind
unfoldable pub record_of : List ℕ → ℕ → Record
record_of s i = record {
  next = u16_at s (16 * i);
  row = get_or s (16 * i + 2) 0;
  column = get_or s (16 * i + 3) 0;
  lower = u32_at s (16 * i + 4);
  upper = u32_at s (16 * i + 8);
  wear = u32_at s (16 * i + 12);
}

-- the head: index of the first cell, rows, columns, number of records; its kind is in Kind
abbrev pub first_of : List ℕ → ℕ
first_of s = u16_at s 0

abbrev pub rows_of : List ℕ → ℕ
rows_of s = get_or s 2 0

abbrev pub columns_of : List ℕ → ℕ
columns_of s = get_or s 3 0

abbrev pub count_of : List ℕ → ℕ
count_of s = u16_at s 4

-- whether the length is a multiple of 16 from 16 to 16,400 and fits the record count
unfoldable pub whole : List ℕ → Bool
whole s = cond (eqb (length s % 16) 0) (cond (leb 16 (length s)) (cond (leb (length s) 16400) (eqb (16 * count_of s) (length s)) false) false) false

-- whether length and head pass refusal 6: the sheet is whole, byte 6 is that of a kind, and the rest of the head is zero
unfoldable pub framed : List ℕ → Bool
framed s = cond (whole s) (cond (eqb (get_or s 6 0) (byte_of (kind_of s))) (blank s 7 9) false) false
