-- A list that is filled one cell after the other: what holds of each cell below c, and of what is stored at c, holds below c + 1.
use mathlib.Core.Path.{◌≡◌, sym, subst}
use mathlib.Core.List.{List}
use Prim.Native.Nat.{ℕ, ◌+◌, ◌<◌}
use native.Mathlib.Omega.{arith}
use borrow.Author.Count.{below_more}
use lib.ListN.{length, get_or, set}
use lib.Seq.{get_or-set_same, get_or-set_other}

differ : (a c : ℕ) → a < c → a ≡ c → ⊥
differ a c t e = omega arith

module _ {X : Type 0} (P : ℕ → X → Type 0) (d : X) (xs : List X) (c : ℕ) (v : X) where
  pub put_more : c < length xs → ((a : ℕ) → a < c → P a (get_or xs a d)) → P c v → (a : ℕ) → a < c + 1 → P a (get_or (set xs c v) a d)
  put_more h below here =
      below_more (λ a. P a (get_or (set xs c v) a d)) c
      (λ a t. subst (P a) (sym (get_or-set_other xs c a v d (differ a c t))) (below a t))
      (subst (P c) (sym (get_or-set_same xs c v d h)) here)

-- of patterns
module _ (P : ℕ → ℕ → Type 0) (xs : List ℕ) (c v : ℕ) where
  pub stored_more : c < length xs → ((a : ℕ) → a < c → P a (get_or xs a 0)) → P c v → (a : ℕ) → a < c + 1 → P a (get_or (set xs c v) a 0)
  stored_more = put_more P 0 xs c v
