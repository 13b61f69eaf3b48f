-- Laws of putting the chain's cells in their positions. Assumes nothing.
use mathlib.Core.Path.{◌≡◌, refl, ap, ◌∙◌}
use mathlib.Core.List.{List, [], ◌∷◌, ◌++◌}
use Prim.Native.Nat.{ℕ, zero, suc, ◌+◌, ◌*◌, ◌≤◌, ◌<◌}
use native.Mathlib.Omega.{arith}
use lib.ListN.{length, set, length-set, length-replicate}
use lib.Seq.{set-append_left}
use Rattle.refusals.specs.Answer.{Answer}
use Rattle.sheets.specs.declared.layout.Record.{Record}
use Rattle.sheets.specs.declared.chain.Cell.{Cell}
use Rattle.sheets.specs.Layout.{rows_of, columns_of}
use Rattle.sheets.specs.Wear.{fixed_amounts}
use Rattle.sheets.specs.Chain.{Walk, stopped, more, walk, chain_of}
use Rattle.sheets.specs.Reading.{put_in, matrix_of}
use Rattle.sheets.proofs.Walking.{visit_position, turn}

module _ (b : Cell → ℕ) where
  pub put_none : (w : Walk) (v : Answer (Unit {0})) (a : List ℕ) → w ≡ stopped v → put_in b a w.cells ≡ a
  unfolding put_in
  put_none w v a e = rw e

  pub put_more : (w : Walk) (c : Cell) (w' : Walk) (a : List ℕ) → w ≡ more c w' → put_in b (set a c.position (b c)) w'.cells ≡ put_in b a w.cells
  unfolding put_in
  put_more w c w' a e = rw e

  -- the cells of a walk are put in front of what lies past the matrix
  pub put_front : (rule : Record → Answer ℕ) (s : List ℕ) (rows columns t i l : ℕ) (a d : List ℕ) → length a ≡ rows * columns
      → put_in b (a ++ d) (walk rule s rows columns t i l).cells ≡ put_in b a (walk rule s rows columns t i l).cells ++ d
  unfolding walk put_in
  put_front rule s rows columns zero i l a d n = refl
  put_front rule s rows columns (suc t) i l a d n =
      turn rule s rows columns (λ w. put_in b (a ++ d) w.cells ≡ put_in b a w.cells ++ d) t i l
      (λ z. refl)
      (λ x z e. refl)
      (λ c z e.
      let j : (l ≤ c.position) × (c.position < rows * columns) = visit_position rule s rows columns i l c e in
      ap (λ (x : List ℕ). put_in b x (walk rule s rows columns t c.next (c.position + 1)).cells) (set-append_left a d c.position (b c) (omega arith))
      ∙ put_front rule s rows columns t c.next (c.position + 1) (set a c.position (b c)) d (length-set a c.position (b c) ∙ n))

  -- a matrix has as many bounds as cells
  put_length : (cs : List Cell) (a : List ℕ) → length (put_in b a cs) ≡ length a
  unfolding put_in
  put_length [] a = refl
  put_length (c ∷ cs) a = put_length cs (set a c.position (b c)) ∙ length-set a c.position (b c)

  pub matrix_length : (s : List ℕ) → length (matrix_of b s) ≡ rows_of s * columns_of s
  matrix_length s = put_length (chain_of fixed_amounts s).cells _ ∙ length-replicate (rows_of s * columns_of s) 0
