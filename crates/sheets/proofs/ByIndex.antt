-- What a read gives, cell by cell: at the position of a cell of the chain its record's bounds, widened; [0, 0] at every other position. Assumes nothing.
use mathlib.Core.Path.{◌≡◌, refl, sym, subst, ◌∙◌}
use mathlib.Core.Bool.{Bool, true, false}
use mathlib.Core.List.{List, [], ◌∷◌}
use mathlib.Core.Logic.{◌⊎◌, inl, inr, ⊎_elim}
use Prim.Native.Nat.{ℕ, zero, suc, ◌+◌, ◌*◌, ◌≤◌, ◌<◌}
use native.Mathlib.Omega.{arith}
use lib.Dec.{ltb}
use lib.ListN.{length, get_or, set, replicate, length-set, length-replicate, get_or-replicate, get_or-eq_default}
use lib.Seq.{get_or-set_same, get_or-set_other}
use borrow.Author.Tests.{ltb-true, ltb-false}
use Rattle.refusals.specs.Answer.{Answer, gives}
use Rattle.refusals.proofs.Answers.{both_tell}
use Rattle.binary32.specs.Operations.{sub_down, add_up}
use Rattle.sheets.specs.declared.layout.Record.{Record}
use Rattle.sheets.specs.declared.chain.Cell.{Cell}
use Rattle.sheets.specs.Kind.{kind_of}
use Rattle.sheets.specs.Layout.{record_of, count_of, rows_of, columns_of, first_of}
use Rattle.sheets.specs.Amount.{cell_amount}
use Rattle.sheets.specs.Chain.{judge_of, walk, chain_of}
use Rattle.sheets.specs.Reading.{cell_lower, cell_upper, put_in, matrix_by}
use Rattle.sheets.proofs.Judging.{Passed, judge_passed}
use Rattle.sheets.proofs.Walking.{visit_tells, visit_position, turn}

-- c is one of cs
abbrev pub Among : Cell → List Cell → Type 0
Among c [] = ⊥
Among c (d ∷ cs) = (c ≡ d) ⊎ Among c cs

-- the positions of cs rise strictly, from l on, and are below n
abbrev pub Rising : ℕ → ℕ → List Cell → Type 0
Rising n l [] = Unit {0}
Rising n l (c ∷ cs) = (l ≤ c.position) × (c.position < n) × Rising n (c.position + 1) cs

-- ---- cells put in their positions

module _ (b : Cell → ℕ) where
  -- a position where no cell stands
  pub put_other : (cs : List Cell) (a : List ℕ) (q : ℕ) → ((c : Cell) → Among c cs → q ≡ c.position → ⊥) → get_or (put_in b a cs) q 0 ≡ get_or a q 0
  unfolding put_in
  put_other [] a q h = refl
  put_other (c ∷ cs) a q h = put_other cs (set a c.position (b c)) q (λ d k. h d (inr k)) ∙ get_or-set_other a c.position q (b c) 0 (h c (inl refl))

  later : (n l : ℕ) (cs : List Cell) (c : Cell) → Rising n l cs → Among c cs → l ≤ c.position
  later n l [] c r x = elim x [ ]
  later n l (d ∷ cs) c r (inl e) = subst (λ (x : Cell). l ≤ x.position) (sym e) r.0
  later n l (d ∷ cs) c r (inr k) = omega (arith, r.0, later n (d.position + 1) cs c r.2 k)

  -- the position of a cell
  pub put_same : (n l : ℕ) (cs : List Cell) (a : List ℕ) (c : Cell) → length a ≡ n → Rising n l cs → Among c cs → get_or (put_in b a cs) c.position 0 ≡ b c
  unfolding put_in
  put_same n l [] a c e r x = elim x [ ]
  put_same n l (d ∷ cs) a c e r (inl k) =
      subst (λ (x : Cell). get_or (put_in b (set a d.position (b d)) cs) x.position 0 ≡ b x) (sym k)
      (put_other cs (set a d.position (b d)) d.position (λ x m f. let g : d.position + 1 ≤ x.position = later n (d.position + 1) cs x r.2 m in omega arith)
      ∙ get_or-set_same a d.position (b d) 0 (omega (arith, r.1)))
  put_same n l (d ∷ cs) a c e r (inr k) = put_same n (d.position + 1) cs (set a d.position (b d)) c (length-set a d.position (b d) ∙ e) r.2 k

-- ---- the cells of a chain

-- c is record i of the sheet s, widened by the amount that the rule gives
pub record Widens (rule : Record → Answer ℕ) (s : List ℕ) (rows columns i : ℕ) (c : Cell) : Type 0 where
  pub linked : (i ≡ 0 → ⊥) × (i < count_of s)
  pub inside : ((record_of s i).row < rows) × ((record_of s i).column < columns)
  pub position : c.position ≡ (record_of s i).row * columns + (record_of s i).column
  pub amount : ℕ
  pub ruled : rule (record_of s i) ≡ gives amount
  pub lower : sub_down (record_of s i).lower amount ≡ gives c.lower
  pub upper : add_up (record_of s i).upper amount ≡ gives c.upper

module _ (rule : Record → Answer ℕ) (s : List ℕ) (rows columns : ℕ) where
  pub walk_rises : (t i l : ℕ) → Rising (rows * columns) l (walk rule s rows columns t i l).cells
  unfolding walk
  walk_rises zero i l = tt
  walk_rises (suc t) i l =
      turn rule s rows columns (λ w. Rising (rows * columns) l w.cells) t i l (λ z. tt) (λ x z e. tt)
      (λ c z e. let j = visit_position rule s rows columns i l c e in (j.0, j.1, walk_rises t c.next (c.position + 1)))

  pub walk_widens : (t i l : ℕ) (c : Cell) → Among c (walk rule s rows columns t i l).cells → (k : ℕ) × Widens rule s rows columns k c
  unfolding walk
  walk_widens zero i l c = λ h. absurd h
  walk_widens (suc t) i l c =
      turn rule s rows columns (λ w. Among c w.cells → (k : ℕ) × Widens rule s rows columns k c) t i l (λ z h. absurd h) (λ x z e h. absurd h)
      (λ d z e h.
      ⊎_elim (λ (m : c ≡ d). (i, subst (λ (x : Cell). Widens rule s rows columns i x) (sym m) (widens i l d z (visit_tells rule s rows columns i l d e))))
      (λ k. walk_widens t d.next (d.position + 1) c k) h)
    where
      widens : (i l : ℕ) (c : Cell) → (i ≡ 0 → ⊥) → (i < count_of s) × (judge_of rule rows columns l (record_of s i) ≡ gives c) → Widens rule s rows columns i c
      widens i l c z h =
          let p : Passed rule rows columns l (record_of s i) c = judge_passed rule rows columns l (record_of s i) c h.1 in
          let w = both_tell _ _ _ p.outward in
          record { linked = (z, h.0); inside = (p.row, p.column); position = sym p.position; amount = p.amount; ruled = p.ruled; lower = w.0; upper = w.1 }

-- ---- the matrix of any sheet, whatever the amounts

pub record ByIndex (amounts s : List ℕ) : Type 0 where
  -- the chain's cells rise strictly by position, and each is a record, widened
  pub rising : Rising (rows_of s * columns_of s) 0 (chain_of amounts s).cells
  pub widened : (c : Cell) → Among c (chain_of amounts s).cells → (i : ℕ) × Widens (cell_amount (kind_of s) amounts) s (rows_of s) (columns_of s) i c
  -- at a cell's position stand its bounds
  pub lower_at : (c : Cell) → Among c (chain_of amounts s).cells → get_or (matrix_by amounts cell_lower s) c.position 0 ≡ c.lower
  pub upper_at : (c : Cell) → Among c (chain_of amounts s).cells → get_or (matrix_by amounts cell_upper s) c.position 0 ≡ c.upper
  -- at any other position stands [0, 0]
  pub lower_off : (q : ℕ) → ((c : Cell) → Among c (chain_of amounts s).cells → q ≡ c.position → ⊥) → get_or (matrix_by amounts cell_lower s) q 0 ≡ 0
  pub upper_off : (q : ℕ) → ((c : Cell) → Among c (chain_of amounts s).cells → q ≡ c.position → ⊥) → get_or (matrix_by amounts cell_upper s) q 0 ≡ 0

zero_at : (n q : ℕ) → ◌≡◌ {A = ℕ} (get_or (replicate n 0) q 0) 0
zero_at n q = go (ltb q n) refl
  where
    go : (t : Bool) → ltb q n ≡ t → ◌≡◌ {A = ℕ} (get_or (replicate n 0) q 0) 0
    go true e = get_or-replicate n q 0 0 (ltb-true q n e)
    go false e = get_or-eq_default (replicate n 0) 0 (omega (arith, length-replicate {A = ℕ} n 0, ltb-false q n e))

pub by_index : (amounts s : List ℕ) → ByIndex amounts s
unfolding chain_of
by_index amounts s =
    let n : ℕ = rows_of s * columns_of s in
    let r : Rising n 0 (chain_of amounts s).cells = walk_rises (cell_amount (kind_of s) amounts) s (rows_of s) (columns_of s) (n + 1) (first_of s) 0 in
    record {
      rising = r;
      widened = λ c k. walk_widens (cell_amount (kind_of s) amounts) s (rows_of s) (columns_of s) (n + 1) (first_of s) 0 c k;
      lower_at = λ c k. put_same cell_lower n 0 (chain_of amounts s).cells (replicate n 0) c (length-replicate n 0) r k;
      upper_at = λ c k. put_same cell_upper n 0 (chain_of amounts s).cells (replicate n 0) c (length-replicate n 0) r k;
      lower_off = λ q h. put_other cell_lower (chain_of amounts s).cells (replicate n 0) q h ∙ zero_at n q;
      upper_off = λ q h. put_other cell_upper (chain_of amounts s).cells (replicate n 0) q h ∙ zero_at n q;
    }
