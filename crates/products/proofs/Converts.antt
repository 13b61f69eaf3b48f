-- The conversion of a cell without a fault: its midpoint and its radius, and no refusal.
use mathlib.Core.Path.{◌≡◌, refl, sym, ap, ◌∙◌}
use Prim.Native.Nat.{ℕ}
use Rattle.refusals.specs.declared.reason.Reason.{Reason}
use Rattle.refusals.specs.Answer.{Judged, gives, refuses, done}
use Rattle.refusals.proofs.Answers.{gives_injective, not_both, then_gives}
use Rattle.intervals.specs.Conversion.{midrad_of}
use Rattle.matrices.specs.Matrix.{Matrix, lower_at, upper_at, mid_at, rad_at, fault_at}

-- at position c of X, whose conversion gives z
module _ (X : Matrix) (c : ℕ) (fine : fault_at X c ≡ done) {z : Judged (ℕ × ℕ)} (e : z ≡ midrad_of (lower_at X c) (upper_at X c)) where
  is : z ≡ gives (mid_at X c, rad_at X c)
  unfolding midrad_of
  is = e ∙ sym (then_gives (fault_at X c) tt _ _ fine refl)

  pub fine_given : (p : ℕ × ℕ) → z ≡ gives p → (p.0 ≡ mid_at X c) × (p.1 ≡ rad_at X c)
  fine_given p f = let q = gives_injective (sym f ∙ is) in (ap (λ (x : ℕ × ℕ). x.0) q, ap (λ (x : ℕ × ℕ). x.1) q)

  pub fine_refused : (x : Reason) → z ≡ refuses x → ⊥
  fine_refused x f = not_both (sym f ∙ is)
