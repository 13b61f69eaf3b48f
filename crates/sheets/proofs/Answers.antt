-- Laws of a read's answer: the answer by its checks, what it tells, and what `read` leaves. Assumes nothing.
use mathlib.Core.Path.{◌≡◌, sym, ap, ◌∙◌}
use mathlib.Core.Bool.{true}
use mathlib.Core.List.{List}
use Prim.Native.Nat.{ℕ, ◌+◌, ◌*◌, ◌≤◌}
use lib.ListN.{length, drop, replicate, length-replicate}
use Rattle.refusals.specs.declared.reason.Reason.TheVariants.{WrongLayout}
use Rattle.refusals.specs.Refusal.{of_matrix}
use Rattle.refusals.specs.Answer.{Answer, gives, done, unless, then}
use Rattle.refusals.specs.Sizes.{check_fit}
use Rattle.refusals.proofs.Answers.{then_tells, unless_tells}
use Rattle.refusals.proofs.SizeLaws.{Fitting, fit_tells}
use Rattle.intervals.specs.Slices.{cleared}
use Rattle.intervals.proofs.Clearing.{cleared_front}
use Rattle.sheets.specs.declared.amount.Kind.{Kind}
use Rattle.sheets.specs.declared.Sizes.{Sizes}
use Rattle.sheets.specs.declared.chain.Cell.{Cell}
use Rattle.sheets.specs.Kind.{kind_of}
use Rattle.sheets.specs.Layout.{framed, rows_of, columns_of, first_of}
use Rattle.sheets.specs.Wear.{fixed_amounts}
use Rattle.sheets.specs.Amount.{cell_amount}
use Rattle.sheets.specs.Chain.{Walk, walk, chain_of}
use Rattle.sheets.specs.Reading.{sizes, read_by, read_of, put_in, slice_by}
use Rattle.sheets.proofs.Putting.{put_front}

pub chain_is : (amounts s : List ℕ) (k : Kind) (r c i : ℕ) → k ≡ kind_of s → r ≡ rows_of s → c ≡ columns_of s → i ≡ first_of s
    → walk (cell_amount k amounts) s r c (r * c + 1) i 0 ≡ chain_of amounts s
unfolding chain_of
chain_is amounts s k r c i d e f g = rw (d, e, f, g)

module _ (amounts : List ℕ) (s : List ℕ) (l u : ℕ) where
  -- 6 has passed: by the answer z on 1 and 2
  pub read_fit : (r c : ℕ) (z : Answer (Unit {0})) → framed s ≡ true → r ≡ rows_of s → c ≡ columns_of s → z ≡ check_fit 0 r c l u
      → then z (then (chain_of amounts s).verdict (gives (sizes r c))) ≡ read_by amounts s l u
  read_fit r c z h p q e = rw (h, ← p, ← q, ← e)

  -- and by the answer w on the chain
  pub read_followed : (k : Kind) (r c i : ℕ) (z w : Answer (Unit {0})) → framed s ≡ true → k ≡ kind_of s → r ≡ rows_of s → c ≡ columns_of s → z ≡ check_fit 0 r c l u
      → i ≡ first_of s → w ≡ (walk (cell_amount k amounts) s r c (r * c + 1) i 0).verdict → then z (then w (gives (sizes r c))) ≡ read_by amounts s l u
  read_followed k r c i z w h o p q e n g =
      ap (λ (v : Answer (Unit {0})). then z (then v (gives (sizes r c)))) (g ∙ ap (λ (y : Walk). y.verdict) (chain_is amounts s k r c i o p q n)) ∙ read_fit r c z h p q e

-- what a read that is not refused tells
pub record Accepted (amounts s : List ℕ) (l u r c : ℕ) : Type 0 where
  pub frame : framed s ≡ true
  pub rows : rows_of s ≡ r
  pub columns : columns_of s ≡ c
  pub sized : Fitting r c l u
  pub passed : (chain_of amounts s).verdict ≡ done

pub accepted_by : (amounts : List ℕ) (s : List ℕ) (l u r c : ℕ) → read_by amounts s l u ≡ gives (sizes r c) → Accepted amounts s l u r c
accepted_by amounts s l u r c e =
    let a = then_tells (unless (framed s) (of_matrix WrongLayout 0)) _ (sizes r c) e in
    let b = then_tells (check_fit 0 (rows_of s) (columns_of s) l u) _ (sizes r c) a.1 in
    let d = then_tells (chain_of amounts s).verdict (gives (sizes (rows_of s) (columns_of s))) (sizes r c) b.1 in
    let p : ◌≡◌ {A = Sizes} (sizes (rows_of s) (columns_of s)) (sizes r c) = cc in
    let m : rows_of s ≡ r = ap (λ (x : Sizes). x.rows) p in
    let n : columns_of s ≡ c = ap (λ (x : Sizes). x.columns) p in
    record { frame = unless_tells _ _ a.0.1; rows = m; columns = n; sized = rw (m, n) at (fit_tells 0 (rows_of s) (columns_of s) l u b.0.1); passed = d.0.1 }

-- a plain read
pub done_tells : (s : List ℕ) (l u r c : ℕ) → read_of s l u ≡ gives (sizes r c) → Accepted fixed_amounts s l u r c
unfolding read_of
done_tells s l u r c e = accepted_by fixed_amounts s l u r c e

pub accepted_walk : (amounts s : List ℕ) (l u : ℕ) (k : Kind) (r c i : ℕ) → Accepted amounts s l u r c → k ≡ kind_of s → i ≡ first_of s
    → walk (cell_amount k amounts) s r c (r * c + 1) i 0 ≡ chain_of amounts s
accepted_walk amounts s l u k r c i a m n = chain_is amounts s k r c i m (sym a.rows) (sym a.columns) n

-- ---- what is left

-- the slice d, cleared, then filled with the chain's cells
pub slice_done : (amounts : List ℕ) (b : Cell → ℕ) (s d d₁ d₂ : List ℕ) (l u : ℕ) (k : Kind) (r c i : ℕ) → Accepted amounts s l u r c → k ≡ kind_of s → i ≡ first_of s → r * c ≤ length d
    → d₁ ≡ cleared (r * c) d → d₂ ≡ put_in b d₁ (walk (cell_amount k amounts) s r c (r * c + 1) i 0).cells → d₂ ≡ slice_by amounts b s (gives (sizes r c)) d
slice_done amounts b s d d₁ d₂ l u k r c i a m n h p q =
    q ∙ rw (a.rows, a.columns, ← accepted_walk amounts s l u k r c i a m n, p, cleared_front (r * c) d h)
    (put_front b (cell_amount k amounts) s r c (r * c + 1) i 0 (replicate (r * c) 0) (drop (r * c) d) (length-replicate (r * c) 0))
