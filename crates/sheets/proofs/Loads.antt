-- Laws of a load: the tests of its eight amounts, a load of another length, the amounts that the code gives, and what a read with it answers and tells. Assumes nothing.
use mathlib.Core.Path.{◌≡◌, sym, ap, ◌∙◌}
use mathlib.Core.List.{List}
use Prim.Native.Nat.{ℕ, ◌+◌}
use native.Mathlib.Omega.{arith}
use lib.ListN.{length}
use lib.Seq.{take_all}
use borrow.Author.Tests.{ne_eqb}
use Rattle.refusals.specs.declared.reason.Reason.{Reason}
use Rattle.refusals.specs.declared.reason.Reason.TheVariants.{WrongLayout}
use Rattle.refusals.specs.Answer.{Judged, gives, refuses, done, refuse, unplaced, and_then}
use Rattle.refusals.proofs.Answers.{gives_injective, next_tells, then_tells, placed_tells}
use Rattle.std.specs.List.{list_all, range_with_len}
use Rattle.binary32.specs.Number.{finite}
use Rattle.binary32.specs.Order.{at_most}
use Rattle.sheets.specs.Wear.{amount_in}
use Rattle.sheets.specs.Load.{patterns_of, all_finite, rising, load_fault, load_of}
use Rattle.sheets.specs.Reading.{sizes, read_by, read_with}
use Rattle.sheets.proofs.AllFrom.{all_ranged, all_listed}
use Rattle.sheets.proofs.Answers.{Accepted, accepted_by}

-- the eight amounts, tested in a row
pub finite_listed : (amounts : List ℕ) → length amounts ≡ 8 → list_all finite amounts ≡ all_finite amounts
unfolding all_finite
finite_listed amounts h =
    ap (list_all finite) (sym (take_all 8 amounts (omega arith))) ∙ all_listed finite amounts 8 0 (omega arith)

pub rising_ranged : (amounts : List ℕ) → list_all (λ c. at_most (amount_in amounts c) (amount_in amounts (c + 1))) (range_with_len 0 7) ≡ rising amounts
unfolding rising
rising_ranged amounts = all_ranged (λ c. at_most (amount_in amounts c) (amount_in amounts (c + 1))) 7 0

-- a load of any other length is damaged
pub load_short : (d : List ℕ) → (length d ≡ 32 → ⊥) → refuses WrongLayout ≡ load_of d
unfolding load_fault load_of
load_short d h = rw (ne_eqb (length d) 32 h)

-- ---- a load that the code answers with v

module _ (d : List ℕ) (v : Judged (List ℕ)) (e : v ≡ load_of d) where
  pub with_refused : (s : List ℕ) (l u : ℕ) (n : Reason) → v ≡ refuses n → refuse n ≡ read_with d s l u
  unfolding read_with
  with_refused s l u n h = ap (λ (o : Judged (List ℕ)). and_then (unplaced o) (λ x. read_by x s l u)) (sym h ∙ e)

  pub with_loaded : (s : List ℕ) (l u : ℕ) (amounts : List ℕ) → v ≡ gives amounts → read_by amounts s l u ≡ read_with d s l u
  unfolding read_with
  with_loaded s l u amounts h = ap (λ (o : Judged (List ℕ)). and_then (unplaced o) (λ x. read_by x s l u)) (sym h ∙ e)

  pub loaded_is : (amounts : List ℕ) → v ≡ gives amounts → amounts ≡ patterns_of d
  unfolding load_of
  loaded_is amounts h = sym (gives_injective (then_tells (load_fault d) _ amounts (sym e ∙ h)).1)

-- what a read with a load tells that is not refused: the load has no fault, and the sheet is accepted
pub with_tells : (d s : List ℕ) (l u r c : ℕ) → read_with d s l u ≡ gives (sizes r c) → (load_fault d ≡ done) × Accepted (patterns_of d) s l u r c
unfolding read_with load_of
with_tells d s l u r c e =
    let a = next_tells (unplaced (load_of d)) (λ x. read_by x s l u) (sizes r c) e in
    let f = then_tells (load_fault d) (gives (patterns_of d)) a.0 (placed_tells _ _ _ (load_of d) a.0 a.1) in
    (f.0.1, accepted_by (patterns_of d) s l u r c (ap (λ (x : List ℕ). read_by x s l u) (gives_injective f.1) ∙ a.2))
