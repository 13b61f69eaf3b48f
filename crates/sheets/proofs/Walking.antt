-- Laws of the walk along the chain, turn by turn. Assumes nothing.
use mathlib.Core.Path.{◌≡◌, refl, sym, ap, ap₂, subst, ◌∙◌}
use mathlib.Core.Bool.{Bool, true, false, cond}
use mathlib.Core.List.{List}
use Prim.Native.Nat.{ℕ, zero, suc, ◌+◌, ◌*◌, ◌≤◌, ◌<◌}
use native.Mathlib.Omega.{arith}
use lib.Dec.{eqb, leb}
use borrow.Author.Tests.{le-leb, lt-leb, eq-eqb, ne_eqb, leb-false, eqb-true, eqb-false}
use Rattle.refusals.specs.declared.reason.Reason.TheVariants.{Outside}
use Rattle.refusals.specs.declared.Refusal.{Refusal}
use Rattle.refusals.specs.Answer.{Answer, gives, refuses, done, refuse, and_then, then}
use Rattle.refusals.proofs.Answers.{not_both, then_tells}
use Rattle.sheets.specs.declared.layout.Record.{Record}
use Rattle.sheets.specs.declared.chain.Cell.{Cell}
use Rattle.sheets.specs.Layout.{record_of, count_of}
use Rattle.sheets.specs.Chain.{position_of, worn_cell, judge_of, visit_of, Walk, stopped, more, onward, walk}
use Rattle.sheets.proofs.Judging.{judge_ruled, Passed, judge_passed, judge_tells}

-- what a walk that passes tells of record i, where it is
pub record Passing (rule : Record → Answer ℕ) (s : List ℕ) (rows columns i l : ℕ) : Type 0 where
  pub index : i < count_of s
  pub cell : Cell
  pub passed : Passed rule rows columns l (record_of s i) cell

module _ (rule : Record → Answer ℕ) (s : List ℕ) (rows columns : ℕ) where
  -- ---- the record at an index

  pub visit_past : (i l : ℕ) → count_of s ≤ i → refuse Outside ≡ visit_of rule s rows columns i l
  unfolding visit_of
  visit_past i l h = rw (le-leb (count_of s) i h)

  pub visit_judged : (i l : ℕ) (r : Record) (v : Answer Cell) → i < count_of s → r ≡ record_of s i → v ≡ judge_of rule rows columns l r → v ≡ visit_of rule s rows columns i l
  unfolding visit_of
  visit_judged i l r v h e f = rw (lt-leb (count_of s) i h) (f ∙ ap (judge_of rule rows columns l) e)

  -- a cell that is visited is a record of the sheet
  pub visit_tells : (i l : ℕ) (c : Cell) → visit_of rule s rows columns i l ≡ gives c → (i < count_of s) × (judge_of rule rows columns l (record_of s i) ≡ gives c)
  unfolding visit_of
  visit_tells i l c e = go (leb (count_of s) i) refl e
    where
      go : (b : Bool) → leb (count_of s) i ≡ b → cond b (refuse Outside) (judge_of rule rows columns l (record_of s i)) ≡ gives c
          → (i < count_of s) × (judge_of rule rows columns l (record_of s i) ≡ gives c)
      go true p h = absurd (not_both h)
      go false p h = (leb-false _ _ p, h)

  -- its position is free, and in the matrix
  pub visit_position : (i l : ℕ) (c : Cell) → visit_of rule s rows columns i l ≡ gives c → (l ≤ c.position) × (c.position < rows * columns)
  visit_position i l c e = judge_tells rule rows columns l (record_of s i) c (visit_tells i l c e).1

  -- the record r there, where it passes with the amount w: v is what `passed` says of it
  pub visit_passing : (i l w : ℕ) (r : Record) (v : Answer Cell) → Passing rule s rows columns i l → r ≡ record_of s i
      → gives w ≡ rule r → v ≡ worn_cell columns r w → visit_of rule s rows columns i l ≡ v
  visit_passing i l w r v p q d e =
      let g = p.passed in
      sym (visit_judged i l (record_of s i) v p.index refl
      (e ∙ ap (λ (x : Answer ℕ). and_then x (worn_cell columns r)) d ∙ ap (λ (x : Record). and_then (rule x) (worn_cell columns x)) q
      ∙ judge_ruled rule rows columns l (record_of s i) g.row g.column g.free))

  -- ---- a turn

  pub walk_end : (t i l : ℕ) → i ≡ 0 → walk rule s rows columns t i l ≡ stopped done
  unfolding walk
  walk_end zero i l e = refl
  walk_end (suc t) i l e = rw (eq-eqb i 0 e)

  module _ (t m i l : ℕ) (p : t ≡ suc m) (z : i ≡ 0 → ⊥) where
    -- by the answer j on record i
    pub walk_turn : (j : Answer Cell) → visit_of rule s rows columns i l ≡ j → walk rule s rows columns t i l ≡ onward j (λ c. walk rule s rows columns m c.next (c.position + 1))
    unfolding walk
    walk_turn j e = rw (p, ne_eqb i 0 z, e)

    -- by the verdict v on record i, which is r
    module _ (r : Record) (v : Answer (Unit {0})) (h : i < count_of s) (q : r ≡ record_of s i) (e : v ≡ then (judge_of rule rows columns l r) done) where
      turned : walk rule s rows columns t i l ≡ onward (judge_of rule rows columns l r) (λ c. walk rule s rows columns m c.next (c.position + 1))
      turned = walk_turn _ (sym (visit_judged i l r _ h q refl))

      pub turn_refused : (x : Refusal) → v ≡ refuses x → (walk rule s rows columns t i l).verdict ≡ refuses x
      turn_refused x f = ap (λ (w : Walk). w.verdict) turned ∙ go (judge_of rule rows columns l r) (sym e ∙ f)
        where
          go : (j : Answer Cell) → then j done ≡ refuses x → (onward j (λ c. walk rule s rows columns m c.next (c.position + 1))).verdict ≡ refuses x
          go (gives c) k = absurd (not_both (sym k))
          go (refuses y) k = k

      pub turn_passed : v ≡ done → (c : Cell) × Passed rule rows columns l r c × ((walk rule s rows columns t i l).verdict ≡ (walk rule s rows columns m r.next (position_of columns r + 1)).verdict)
      turn_passed f =
          let k = (then_tells (judge_of rule rows columns l r) done tt (sym e ∙ f)).0 in
          let g = judge_passed rule rows columns l r k.0 k.1 in (
            k.0,
            g,
            ap (λ (w : Walk). w.verdict) (walk_turn (gives k.0) (sym (visit_judged i l r _ h q (sym k.1))))
                ∙ ap₂ (λ (n w : ℕ). (walk rule s rows columns m n (w + 1)).verdict) (sym g.next) (sym g.position),
          )

    pub walk_passing : (walk rule s rows columns t i l).verdict ≡ done → Passing rule s rows columns i l
    walk_passing e = go (visit_of rule s rows columns i l) refl
      where
        go : (j : Answer Cell) → visit_of rule s rows columns i l ≡ j → Passing rule s rows columns i l
        go (refuses x) h = absurd (not_both (sym (ap (λ (w : Walk). w.verdict) (walk_turn (refuses x) h)) ∙ e))
        go (gives c) h =
            let k = visit_tells i l c h in
            record { index = k.0; cell = c; passed = judge_passed rule rows columns l (record_of s i) c k.1 }

  -- the cases of a turn
  pub turn : (P : Walk → Type 0) (m i l : ℕ)
      → (i ≡ 0 → P (stopped done))
      → ((x : Refusal) → (i ≡ 0 → ⊥) → visit_of rule s rows columns i l ≡ refuses x → P (stopped (refuses x)))
      → ((c : Cell) → (i ≡ 0 → ⊥) → visit_of rule s rows columns i l ≡ gives c → P (more c (walk rule s rows columns m c.next (c.position + 1))))
      → P (walk rule s rows columns (suc m) i l)
  unfolding walk
  turn P m i l f g h = go (eqb i 0) (visit_of rule s rows columns i l) refl refl
    where
      go : (a : Bool) (j : Answer Cell) → eqb i 0 ≡ a → visit_of rule s rows columns i l ≡ j
          → P (cond a (stopped done) (onward j (λ c. walk rule s rows columns m c.next (c.position + 1))))
      go true j p e = f (eqb-true _ _ p)
      go false (gives c) p e = h c (eqb-false _ _ p) e
      go false (refuses x) p e = g x (eqb-false _ _ p) e

  -- any number of turns that is large enough gives the same walk: positions rise, so a walk has no more cells than the matrix
  pub enough : (t u i l : ℕ) → l ≤ rows * columns → rows * columns < t + l → rows * columns < u + l → walk rule s rows columns t i l ≡ walk rule s rows columns u i l
  enough zero u i l b h k = let y : 1 ≤ 0 = omega arith in subst (λ (n : ℕ). walk rule s rows columns 0 i l ≡ walk rule s rows columns n i l) (omega arith) refl
  enough (suc t) zero i l b h k = subst (λ (n : ℕ). walk rule s rows columns (suc t) i l ≡ walk rule s rows columns n i l) (omega arith) refl
  enough (suc t) (suc u) i l b h k =
      turn (λ w. w ≡ walk rule s rows columns (suc u) i l) t i l
      (λ z. sym (walk_end (suc u) i l z))
      (λ x z e. sym (walk_turn (suc u) u i l refl z (refuses x) e))
      (λ c z e.
      let j : (l ≤ c.position) × (c.position < rows * columns) = visit_position i l c e in
      ap (more c) (enough t u c.next (c.position + 1) (omega arith) (omega arith) (omega arith)) ∙ sym (walk_turn (suc u) u i l refl z (gives c) e))
