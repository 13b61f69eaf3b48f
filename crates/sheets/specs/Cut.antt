-- Sheets back to back: where the first one ends. Definitions only.
use Rattle.std.specs.Prelude.{cond, List, ℕ, ◌*◌, min, ltb, length}
use Rattle.sheets.specs.Layout.{count_of}

-- the length of the first sheet in s, which others follow: 16 × its record count, or all of s where s is shorter or ends before the count
unfoldable pub first_length : List ℕ → ℕ
first_length s = cond (ltb (length s) 6) (length s) (min (16 * count_of s) (length s))
