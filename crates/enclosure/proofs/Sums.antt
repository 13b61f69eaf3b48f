-- Running sums of rounded terms: what an accepted one was made of, and that the terms alone decide it.
use mathlib.Core.Path.{◌≡◌, refl, ap₂}
use mathlib.Core.Option.{Option, some, bind, some-injective}
use Prim.Native.Nat.{ℕ, zero, suc, ◌<◌}
use native.Mathlib.Omega.{arith}
use lib.IntN.{ℤ, ◌+ℤ◌}
use Rattle.enclosure.specs.Sums.{sum}
use Rattle.enclosure.proofs.Accepted.{bound}

-- the last turn of an accepted sum
pub record Step (add : ℤ → Option ℤ) (f : ℕ → Option ℤ) (s : ℤ) (n : ℕ) (v : ℤ) : Type 0 where
  pub before : ℤ
  pub term : ℤ
  pub ran : sum add f s n ≡ some before
  pub got : f n ≡ some term
  pub added : add (before +ℤ term) ≡ some v

module _ (add : ℤ → Option ℤ) (f : ℕ → Option ℤ) (s : ℤ) where
  pub sum_start : {v : ℤ} → sum add f s 0 ≡ some v → s ≡ v
  unfolding sum
  sum_start {v} h = some-injective s v h

  pub sum_step : (n : ℕ) {v : ℤ} → sum add f s (suc n) ≡ some v → Step add f s n v
  unfolding sum
  sum_step n h =
      let c = bound (sum add f s n) (λ u. bind (f n) λ t. add (u +ℤ t)) h in
      let d = bound (f n) (λ t. add (c.value +ℤ t)) c.then in
      record { before = c.value; term = d.value; ran = c.first; got = d.first; added = d.then }

-- the same terms, the same sum
pub sum_ext : (add : ℤ → Option ℤ) (f g : ℕ → Option ℤ) (s : ℤ) (n : ℕ) → ((l : ℕ) → l < n → f l ≡ g l) → sum add f s n ≡ sum add g s n
unfolding sum
sum_ext add f g s zero h = refl
sum_ext add f g s (suc n) h = ap₂ (λ m t. bind m λ u. bind t λ t. add (u +ℤ t)) (sum_ext add f g s n (λ l i. h l (omega arith))) (h n (omega arith))
