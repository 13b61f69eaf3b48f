-- Laws of the text for the job's answer, and of the input that it is for. Assumes nothing.
use mathlib.Core.Path.{◌≡◌, refl, sym, ap, ap₂, ◌∙◌}
use mathlib.Core.List.{List, ◌++◌}
use Prim.Native.Nat.{ℕ, zero, suc, ◌-◌, ◌*◌, ◌/◌, ◌%◌, ◌≤◌, min}
use native.Mathlib.Omega.{arith}
use lib.ListN.{length, take, drop, length-append}
use lib.Seq.{get_or-take}
use Rattle.refusals.specs.Answer.{Answer, gives}
use Rattle.sheets.specs.Cut.{first_length}
use Rattle.sheets.proofs.Cuts.{rest_is}
use Rattle.job.specs.Factor.{Factor, in_front}
use Rattle.job.specs.Job.{job_product}
use Rattle.print_product.specs.Lines.{product_line, cell_line}
use Rattle.print_product.specs.Input.{method_in}
use Rattle.print_product.specs.Printed.{cell_lines, product_text, answer_text, sheets_text, printed_of}
use Rattle.print_product.proofs.InputLaws.{behind_digit}

-- ---- a product: its text is made of the front of the arrays in which it stands
front_lines : (columns n p : ℕ) (lo up : List ℕ) → p ≤ n → cell_lines columns lo up p ≡ cell_lines columns (take n lo) (take n up) p
unfolding cell_lines
front_lines columns n zero lo up h = refl
front_lines columns n (suc p) lo up h =
    ap₂ ◌++◌ (front_lines columns n p lo up (omega arith))
    (ap₂ (cell_line (p / columns) (p % columns)) (sym (get_or-take n lo p 0 (omega arith))) (sym (get_or-take n up p 0 (omega arith))))

pub product_text_is : (method r c : ℕ) (lo up : List ℕ) {A : Answer Factor} → gives (in_front r c lo up) ≡ A → product_text method r c lo up ≡ answer_text method A
product_text_is method r c lo up e = ap (λ l. product_line method r c ++ l) (front_lines c (r * c) (r * c) lo up (omega arith)) ∙ ap (answer_text method) e

-- ---- the input: what stands from a place on

pub sheets_text_is : (method : ℕ) (s : List ℕ) (m k : ℕ) {a b : List ℕ} → m ≡ method → k ≡ first_length s → a ≡ take k s → b ≡ drop k s → answer_text method (job_product m a b) ≡ sheets_text method s
unfolding sheets_text
sheets_text_is method s m k d e f g = rw d (ap₂ (λ a b. answer_text method (job_product method a b)) (f ∙ ap (λ n. take n s) e) (g ∙ ap (λ n. drop n s) e))

pub printed_is : (s : List ℕ) (m k : ℕ) → m ≡ method_in s → k ≡ min (length s) 1 → sheets_text m (take (length s - k) (drop k s)) ≡ printed_of s
unfolding printed_of
printed_is s m k e f = ap₂ sheets_text e (rest_is s k ∙ behind_digit s k f)

-- the text is no longer than its buffer
pub printed_fits : (s d out : List ℕ) (r : ℕ) → (r ≡ length (printed_of s)) × (out ≡ printed_of s ++ drop (length (printed_of s)) d) → r ≤ length out
printed_fits s d out r e = omega (arith, e.0, ap length e.1, length-append (printed_of s) (drop (length (printed_of s)) d))
