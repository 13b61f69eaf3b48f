-- Laws of the buffer that a write leaves, and of the part that it hands back. Assumes nothing.
use mathlib.Core.Path.{◌≡◌, sym, ap, subst, ◌∙◌}
use mathlib.Core.List.{List, [], ◌++◌}
use Prim.Native.Nat.{ℕ, ◌+◌, ◌-◌, ◌*◌, ◌/◌}
use native.Mathlib.Omega.{arith}
use lib.ListN.{length, take, drop, length-append}
use lib.Seq.{take_at, drop_at, drop-drop}
use Rattle.refusals.specs.declared.Refusal.{Refusal}
use Rattle.refusals.specs.Answer.{Answer, gives, refuses}
use Rattle.sheets.specs.Sheet.{head_bytes, over, count_to, next_of, records_to, sheet_of}
use Rattle.sheets.specs.Writing.{write_of, out_after, front_of}
use Rattle.sheets.proofs.Rooms.{Granted, bytes_tell}
use Rattle.sheets.proofs.CellBytes.{record_length}
use Rattle.sheets.proofs.Counting.{records_length}

pub sheet_length : (rows columns : ℕ) (lo up : List ℕ) → length (sheet_of rows columns lo up) ≡ 16 * (count_to lo up (rows * columns) + 1)
unfolding sheet_of
sheet_length rows columns lo up =
    let t : ℕ = count_to lo up (rows * columns) in
    length-append (head_bytes (next_of t 0) rows columns (t + 1)) (records_to columns t lo up (rows * columns))
    ∙ rw (record_length (next_of t 0) rows columns (t + 1 + 65536 * 1) 0, records_length columns t lo up (rows * columns)) (omega arith)

module _ (rows columns n : ℕ) (lo up d : List ℕ) (a : Granted rows columns lo up (length d) n) where
  -- the head, then the cells' records
  pub put_done : (total x : ℕ) (out₁ out₂ : List ℕ) → total ≡ n / 16 - 1 → x ≡ next_of total 0 → out₁ ≡ over 0 (head_bytes x rows columns (total + 1)) d
      → out₂ ≡ take 16 out₁ ++ records_to columns total lo up (rows * columns) ++ drop (16 * (total + 1)) out₁ → out₂ ≡ out_after rows columns lo up (gives n) d
  unfolding out_after sheet_of over
  put_done total x out₁ out₂ t g h k =
      let c : total ≡ count_to lo up (rows * columns) = omega (arith, a.bytes) in
      let m : 16 * (total + 1) ≡ n = omega (arith, a.bytes) in
      let b : List ℕ = head_bytes x rows columns (total + 1) in
      let l : length b ≡ 16 = record_length x rows columns (total + 1 + 65536 * 1) 0 in
      let j : out₁ ≡ b ++ drop 16 d = h ∙ rw l in
      let o : drop n out₁ ≡ drop n d = let s : 16 + (n - 16) ≡ n = omega (arith, a.bytes) in
      rw j (subst (λ (y : ℕ). drop y (b ++ drop 16 d) ≡ drop y d) s (sym (drop-drop (n - 16) 16 (b ++ drop 16 d)) ∙ rw (drop_at b (drop 16 d) 16 l) (drop-drop (n - 16) 16 d))) in
      let i : take 16 out₁ ≡ b = rw j (take_at b (drop 16 d) 16 l) in
      k ∙ rw (i, m, o, g, c)

  pub part_length : n ≡ length (sheet_of rows columns lo up)
  part_length = a.bytes ∙ sym (sheet_length rows columns lo up)

  pub part_is : (out : List ℕ) → out ≡ out_after rows columns lo up (gives n) d → take n out ≡ sheet_of rows columns lo up
  unfolding out_after
  part_is out e = ap (take n) e ∙ take_at (sheet_of rows columns lo up) (drop n d) n (sym part_length)

-- ---- the part that is handed back, where the code answers w

module _ (rows columns : ℕ) (lo up d : List ℕ) (w : Answer ℕ) (e : w ≡ write_of rows columns lo up (length d)) where
  pub part_refused : (r : Refusal) → w ≡ refuses r → [] ≡ front_of rows columns lo up (write_of rows columns lo up (length d))
  unfolding front_of
  part_refused r f = ap (front_of rows columns lo up) (sym f ∙ e)

  module _ (n : ℕ) (f : w ≡ gives n) (out : List ℕ) (g : out ≡ out_after rows columns lo up w d) where
    a : Granted rows columns lo up (length d) n
    a = bytes_tell rows columns lo up (length d) n (sym e ∙ f)

    sheet : take n out ≡ sheet_of rows columns lo up
    sheet = part_is rows columns n lo up d a out (g ∙ ap (λ (v : Answer ℕ). out_after rows columns lo up v d) f)

    pub part_done : take n out ≡ front_of rows columns lo up (write_of rows columns lo up (length d))
    unfolding front_of
    part_done = sheet ∙ ap (front_of rows columns lo up) (sym f ∙ e)

    pub part_size : n ≡ length (take n out)
    part_size = part_length rows columns n lo up d a ∙ sym (ap length sheet)
