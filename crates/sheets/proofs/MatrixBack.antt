-- The written cells, put in their positions, are the matrix by value: minus zero as 0. Assumes nothing.
use mathlib.Core.Path.{◌≡◌, sym, ap, ◌∙◌}
use mathlib.Core.List.{List, [], ◌∷◌, ◌++◌, append-nil}
use Prim.Native.Nat.{ℕ, zero, suc, ◌+◌, ◌<◌}
use native.Mathlib.Numerals.{add-one}
use native.Mathlib.Omega.{arith}
use lib.ListN.{length, get_or, set, take, drop, replicate, length-set}
use lib.Seq.{drop-drop, get_or-drop, take-suc, take-suc-set, drop-set-lt, append_snoc, take_all}
use Rattle.std.specs.Prelude.{Some, None}
use Rattle.refusals.specs.Answer.{gives, refuses}
use Rattle.sheets.specs.declared.chain.Cell.{Cell}
use Rattle.sheets.specs.Cell.{HandedIn, canonical_of}
use Rattle.sheets.specs.Reading.{put_in}
use Rattle.sheets.specs.Sheet.{cell_at, count_to, next_of}
use Rattle.sheets.specs.Trip.{canonicals}
use Rattle.sheets.proofs.WalkBack.{cons_by, cells_from}

-- v is the bound of a cell that was written, as b takes it from a cell of the chain
abbrev pub Holds : (Cell → ℕ) → ℕ → HandedIn → Type 0
Holds b v (gives None) = v ≡ 0
Holds b v (gives (Some (x, y))) = (n p : ℕ) → b (record { next = n; position = p; lower = x; upper = y }) ≡ v
Holds b v (refuses n) = ⊥

module _ (b : Cell → ℕ) (y p x v : ℕ) (l rest : List ℕ) (cs : List Cell) (n : length l ≡ p + suc y) (d : drop p l ≡ replicate (suc y) 0)
    (ih : (l' : List ℕ) → length l' ≡ p + 1 + y → drop (p + 1) l' ≡ replicate y 0 → put_in b l' cs ≡ take (p + 1) l' ++ rest) where
  after : drop (p + 1) l ≡ replicate y 0
  after = sym (drop-drop 1 p l) ∙ ap (drop 1) d

  put_step : (e : HandedIn) → Holds b v e → put_in b l (cons_by x p e cs) ≡ take p l ++ v ∷ rest
  unfolding put_in
  put_step (gives None) h =
      let g : get_or l p 0 ≡ v = ap (λ (k : ℕ). get_or l k 0) (omega arith) ∙ sym (get_or-drop p l 0 0) ∙ ap (λ (k : List ℕ). get_or k 0 0) d ∙ sym h in
      let k : take (p + 1) l ≡ take p l ++ (v ∷ []) = rw (add-one p) (take-suc l p 0 (omega arith) ∙ rw g) in
      ih l (omega arith) after ∙ rw k (append_snoc (take p l) v rest)
  put_step (refuses n) h = absurd h
  put_step (gives (Some (s, t))) h =
      let w : ℕ = b (record { next = x; position = p; lower = s; upper = t }) in
      let k : take (p + 1) (set l p w) ≡ take p l ++ (w ∷ []) = rw (add-one p) (take-suc-set l p w (omega arith)) in
      ih (set l p w) (length-set l p w ∙ omega arith) (drop-set-lt (p + 1) l p w (omega arith) ∙ after)
      ∙ rw k (append_snoc (take p l) w rest) ∙ ap (λ (k : ℕ). take p l ++ k ∷ rest) (h x p)

pub put_back : (b : Cell → ℕ) (total : ℕ) (m lo up : List ℕ) (y p : ℕ) (l : List ℕ) → length l ≡ p + y → drop p l ≡ replicate y 0
    → ((q : ℕ) → q < p + y → Holds b (canonical_of (get_or m q 0)) (cell_at lo up q)) → put_in b l (cells_from total lo up y p) ≡ take p l ++ canonicals m y p
unfolding put_in cells_from canonicals
put_back b total m lo up zero p l n d h = sym (append-nil (take p l) ∙ take_all p l (omega arith))
put_back b total m lo up (suc y) p l n d h =
    put_step b y p (next_of total (count_to lo up p + 1)) (canonical_of (get_or m p 0)) l (canonicals m y (p + 1)) (cells_from total lo up y (p + 1)) n d
    (λ l' n' d'. put_back b total m lo up y (p + 1) l' n' d' (λ q k. h q (omega arith))) (cell_at lo up p) (h p (omega arith))
