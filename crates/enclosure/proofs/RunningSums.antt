-- Method 1's sums from pair to pair: over no pairs they are [0, 0], one pair more is one step, and once either is refused the entry is.
-- For every arithmetic and any number of pairs.
use mathlib.Core.Path.{◌≡◌, refl, ap, ◌∙◌, subst}
use mathlib.Core.Option.{Option, none, some, bind}
use Prim.Native.Nat.{ℕ, zero, suc, ◌+◌, ◌-◌, ◌≤◌}
use native.Mathlib.Omega.{arith}
use lib.IntN.{ℤ, ◌+ℤ◌}
use Rattle.enclosure.specs.Arithmetic.{Arithmetic}
use Rattle.enclosure.specs.Cell.{Cell}
use Rattle.enclosure.specs.Sums.{sum}
use Rattle.enclosure.specs.Methods.{Range, classical, least_term, greatest_term, total, entry₁, entry}
use Rattle.enclosure.specs.RunningSums.{zero_range, add_pair}

-- two sums that make a range, or none
abbrev pub both : Option ℤ → Option ℤ → Option Range
both m n = bind m λ u. bind n λ v. some (record { lower = u; upper = v })

pub both_none : (m : Option ℤ) → both m none ≡ none
unfolding bind
both_none none = refl
both_none (some u) = refl

module _ (A : Arithmetic) (a b : ℕ → Cell) where
  open A use {up, down}

  -- the lower and the upper sum over the first l pairs; none where either is refused
  abbrev sums : ℕ → Option Range
  sums l = entry A classical l a b

  pub sums_start : sums 0 ≡ some zero_range
  unfolding entry entry₁ total sum bind
  sums_start = refl

  -- a sum with the term t, rounded by `add`
  abbrev plus : (ℤ → Option ℤ) → Option ℤ → ℤ → Option ℤ
  plus add t v = bind t λ w. add (v +ℤ w)

  -- one pair more, where the sums so far are m and n and the pair's terms are s and t
  step : (m n s t : Option ℤ) → both (bind m (plus (down 1) s)) (bind n (plus (up 1) t)) ≡ bind (both m n) λ r. both (plus (down 1) s r.lower) (plus (up 1) t r.upper)
  unfolding bind
  step none n s t = refl
  step (some u) none s t = both_none (plus (down 1) s u)
  step (some u) (some v) s t = refl

  pub sums_more : (l : ℕ) → sums (suc l) ≡ bind (sums l) λ s. add_pair A s (a l) (b l)
  unfolding entry entry₁ total sum add_pair
  sums_more l = step _ _ (least_term A (a l) (b l)) (greatest_term A (a l) (b l))

  -- a refusal stays
  later : (l d k : ℕ) → k ≡ l + d → sums l ≡ none → sums k ≡ none
  unfolding bind
  later l zero k q e =
      let q' : l ≡ k = omega arith in
      subst (λ m. sums m ≡ none) q' e
  later l (suc d) zero q e = absurd (omega arith)
  later l (suc d) (suc k) q e = sums_more k ∙ ap (λ r. bind r λ s. add_pair A s (a k) (b k)) (later l d k (omega arith) e)

  pub sums_stay : (l k : ℕ) → l ≤ k → sums l ≡ none → sums k ≡ none
  sums_stay l k h = later l (k - l) k (omega arith)
