-- Laws of a test at each of several places: what passing all of them tells, and the places of a range and of a list. Assumes nothing.
use mathlib.Core.Path.{◌≡◌, refl, ap, ◌∙◌, subst}
use mathlib.Core.Bool.{Bool, true, false, cond, ◌&&◌}
use mathlib.Core.List.{List}
use Prim.Native.Nat.{ℕ, zero, suc, ◌+◌, ◌≤◌, ◌<◌}
use native.Mathlib.Omega.{arith}
use lib.Dec.{eqb}
use lib.ListN.{length, get_or, take, drop}
use borrow.Author.Tests.{eqb-true, eqb-false}
use Rattle.std.specs.List.{list_all, range_with_len}
use Rattle.std.proofs.lemmas.List.{drop_more}
use Rattle.refusals.proofs.Answers.{and_tells}
use Rattle.binary32.proofs.Held.{and_both}
use Rattle.sheets.specs.AllFrom.{all_from}

both : (a b c : Bool) → b ≡ c → (a && b) ≡ cond a c false
both true b c e = e
both false b c e = refl

module _ (test : ℕ → Bool) where
  pub all_tells : (n i : ℕ) → all_from test i n ≡ true → (j : ℕ) → i ≤ j → j < i + n → test j ≡ true
  unfolding all_from
  all_tells zero i t j h k = absurd (omega arith)
  all_tells (suc n) i t j h k = let a = and_tells (test i) _ t in go (eqb i j) refl a.0 (all_tells n (i + 1) a.1)
    where
      go : (b : Bool) → eqb i j ≡ b → test i ≡ true → ((j : ℕ) → i + 1 ≤ j → j < i + 1 + n → test j ≡ true) → test j ≡ true
      go true e f g = subst (λ (x : ℕ). test x ≡ true) (eqb-true i j e) f
      go false e f g = let z : i ≡ j → ⊥ = eqb-false i j e in g j (omega arith) (omega arith)

  pub all_are : (n i : ℕ) → ((j : ℕ) → i ≤ j → j < i + n → test j ≡ true) → all_from test i n ≡ true
  unfolding all_from
  all_are zero i h = refl
  all_are (suc n) i h = and_both _ _ (h i (omega arith) (omega arith)) (all_are n (i + 1) (λ j k l. h j (omega arith) (omega arith)))

  -- the places of a range
  pub all_ranged : (n i : ℕ) → list_all test (range_with_len i n) ≡ all_from test i n
  unfolding all_from
  all_ranged zero i = refl
  all_ranged (suc n) i = both (test i) _ _ (all_ranged n (i + 1))

  -- the numbers of the list from position i on
  pub all_listed : (l : List ℕ) (n i : ℕ) → i + n ≤ length l → list_all test (take n (drop i l)) ≡ all_from (λ j. test (get_or l j 0)) i n
  unfolding all_from
  all_listed l zero i h = refl
  all_listed l (suc n) i h =
      ap (λ (x : List ℕ). list_all test (take (suc n) x)) (drop_more l i 0 (omega arith)) ∙ both (test (get_or l i 0)) _ _ (all_listed l n (i + 1) (omega arith))
