-- Laws of a buffer that is written from the front, piece by piece. Assumes nothing.
use mathlib.Core.Path.{◌≡◌, sym, ◌∙◌}
use mathlib.Core.List.{List, ◌++◌}
use Prim.Native.Nat.{ℕ, ◌+◌, ◌≤◌}
use native.Mathlib.Omega.{arith}
use lib.ListN.{length, take, drop, length-append, length-drop}
use lib.Seq.{paste, take_at, drop_at, drop-drop, length-take-le, take_all}
use Rattle.sheets.specs.Sheet.{over}

-- `out` begins with the m bytes f, and goes on as `d` does
pub record Front (m : ℕ) (f d out : List ℕ) : Type 0 where
  pub long : length out ≡ length d
  pub front : take m out ≡ f
  pub rest : drop m out ≡ drop m d

pub over_length : (m : ℕ) (b out : List ℕ) → m + length b ≤ length out → length (over m b out) ≡ length out
unfolding over
over_length m b out h =
    let e : length (take m out) ≡ m = length-take-le m out (omega arith) in
    simp (length-append, length-drop, e) (omega arith)

pub front_more : (m : ℕ) (f d out b : List ℕ) → m + length b ≤ length d → Front m f d out → Front (m + length b) (f ++ b) d (over m b out)
unfolding over
front_more m f d out b h w =
    let n : length (take m out) ≡ m = length-take-le m out (omega (arith, w.long)) in
    let k : length (take m out ++ b) ≡ m + length b = simp (length-append, n) in
    record {
      long = over_length m b out (omega (arith, w.long)) ∙ w.long;
      front = take_at (take m out ++ b) (drop (m + length b) out) (m + length b) k ∙ rw w.front;
      rest = drop_at (take m out ++ b) (drop (m + length b) out) (m + length b) k
          ∙ sym (drop-drop (length b) m out) ∙ rw w.rest (drop-drop (length b) m d);
    }

-- the loop that puts sixteen bytes in, at its end
pub put_ends : (d out b b' : List ℕ) (at j : ℕ) → out ≡ paste d at b j → j ≡ 16 → b ≡ b' → length b' ≡ 16 → out ≡ over at b' d
unfolding over
put_ends d out b b' at j e f g h = e ∙ rw (f, g, h, take_all 16 b' (omega arith))
