-- Laws of what reader and writer answer: its number fits 32 bits; and of what a refused conversion leaves. Assumes nothing.
use mathlib.Core.Path.{◌≡◌, ap, ◌∙◌}
use Prim.Native.Nat.{ℕ, ◌≤◌}
use Rattle.std.specs.Prelude.{Result}
use Rattle.refusals.specs.declared.reason.Reason.{Reason}
use Rattle.refusals.specs.Refusal.{of_matrix, code_of}
use Rattle.refusals.specs.Answer.{Answer, Judged, gives, refuses, unplaced, coded}
use Rattle.refusals.proofs.SizeLaws.{Fitting}
use Rattle.sheets.specs.declared.Sizes.{Sizes}
use Rattle.sheets.specs.Reading.{sizes}
use Rattle.coupling.specs.Cells.{SmallSizes, Short}
use Rattle.coupling.specs.Conversions.{first_after, second_after}

-- a length that is written is short, where the code's answer w is o
pub short : (w : Answer ℕ) {o : Answer ℕ} → w ≡ o → ((n : ℕ) → gives n ≡ o → n ≤ 16400) → Short w
short (gives n) e h = h n e
short (refuses x) e h = tt

-- sizes that are read are small, where the code's answer a is o
pub small_sizes : (a : Answer Sizes) {o : Answer Sizes} {l u : ℕ} → a ≡ o → ((r c : ℕ) → gives (sizes r c) ≡ o → Fitting r c l u) → SmallSizes a
small_sizes (gives z) e h = let f = h z.rows z.columns e in (f.rows, f.columns)
small_sizes (refuses x) e h = tt

-- where a call is refused with x, r and two words that stay as they were are what its answer a asks for; `whole` makes of a the answer with matrix, row and column
pub words_kept : {E : Type 0} {x : E} {a : Result (ℕ × ℕ) E} {r : ℕ} (whole : Result (ℕ × ℕ) E → Answer (ℕ × ℕ)) (d e : ℕ)
    → r ≡ coded (λ _. 0) (whole (refuses x)) → refuses x ≡ a
    → (r ≡ coded (λ _. 0) (whole a)) × ((d ≡ first_after a d) × (e ≡ second_after a e))
words_kept whole d e k h = (k ∙ ap (λ z. coded (λ _. 0) (whole z)) h, (ap (λ z. first_after z d) h, ap (λ z. second_after z e) h))

-- the same of a conversion, whose answer (`midrad_of`, `bounds_of`) has a reason alone: matrix, row and column are zero
pub conversion_kept : {x : Reason} {a : Judged (ℕ × ℕ)} {r : ℕ} (d e : ℕ) → r ≡ code_of (of_matrix x 0) → refuses x ≡ a
    → (r ≡ coded (λ _. 0) (unplaced a)) × ((d ≡ first_after a d) × (e ≡ second_after a e))
conversion_kept d e k h = words_kept unplaced d e k h
