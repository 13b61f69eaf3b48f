-- The first index at which a test holds: as long as none was met it is the number of indices passed, and where one is met it stays there.
use mathlib.Core.Path.{◌≡◌, refl, sym, ap, ap₂, subst, ◌∙◌}
use mathlib.Core.Bool.{Bool, true, false, not, cond}
use Prim.Native.Nat.{ℕ, zero, suc, ◌+◌, ◌-◌, ◌≤◌, ◌<◌}
use native.Mathlib.Numerals.{add-one}
use native.Mathlib.Omega.{arith}
use lib.Dec.{T, ltb, ltb→lt, nltb→le}
use borrow.Author.Tests.{lt-ltb, le-ltb}
use Rattle.matrices.specs.Lists.{first}

module _ (test : ℕ → Bool) where
  pub first_none : first test 0 ≡ 0
  unfolding first
  first_none = refl

  at : (c : ℕ) (t : Bool) → first test c ≡ c → test c ≡ t → first test (suc c) ≡ cond t c (suc c)
  unfolding first
  at c t e g =
      ap₂ (λ s u. cond s (first test c) (cond u c (suc c))) (le-ltb (first test c) c (omega arith)) g

  -- one index more, at which the test fails
  pub first_more : (c : ℕ) → first test c ≡ c → test c ≡ false → first test (c + 1) ≡ c + 1
  first_more c e g = rw (add-one c) (at c false e g)

  stays : (c y : ℕ) → first test c ≡ c → test c ≡ true → first test (suc c + y) ≡ c
  unfolding first
  stays c zero e g = subst (λ n. first test n ≡ c) (plus_zero (suc c)) (at c true e g)
    where
      plus_zero : (n : ℕ) → n ≡ n + 0
      plus_zero n = omega arith
  stays c (suc y) e g =
      let r : first test (suc c + y) ≡ c = stays c y e g in
      let s : suc (suc c + y) ≡ suc c + suc y = omega arith in
      subst (λ n. first test n ≡ c) s (ap (λ t. cond t (first test (suc c + y)) (cond (test (suc c + y)) (suc c + y) (suc (suc c + y)))) (lt-ltb (first test (suc c + y)) (suc c + y) (omega arith)) ∙ r)

  -- an index at which it holds, with none before
  pub first_here : (c n : ℕ) → first test c ≡ c → test c ≡ true → c < n → first test n ≡ c
  first_here c n h g l =
      let y : suc c + (n - suc c) ≡ n = omega arith in
      subst (λ t. first test t ≡ c) y (stays c (n - suc c) h g)

  -- where one is met, the test holds there
  pub first_holds : (n : ℕ) → first test n < n → test (first test n) ≡ true
  unfolding first
  first_holds zero h = absurd (none h)
    where
      none : zero < zero → ⊥
      none h = omega arith
  first_holds (suc n) h = go (ltb (first test n) n) (test n) (λ t. first_holds n (ltb→lt (first test n) n t)) refl h
    where
      go : (t u : Bool) → (T t → test (first test n) ≡ true) → test n ≡ u → cond t (first test n) (cond u n (suc n)) < suc n
          → test (cond t (first test n) (cond u n (suc n))) ≡ true
      go true u f g h = f tt
      go false true f g h = g
      go false false f g h = absurd (none h)
        where
          none : suc n < suc n → ⊥
          none h = omega arith

  pub first_le : (n : ℕ) → first test n ≤ n
  unfolding first
  first_le zero = omega arith
  first_le (suc n) = go (ltb (first test n) n) (test n) (first_le n)
    where
      go : (t u : Bool) → first test n ≤ n → cond t (first test n) (cond u n (suc n)) ≤ suc n
      go true u h = omega arith
      go false true h = omega arith
      go false false h = omega arith

  -- where none is met among n, none is met among fewer
  back : (n : ℕ) → first test (suc n) ≡ suc n → first test n ≡ n
  unfolding first
  back n e = go (ltb (first test n) n) (test n) (ltb→lt (first test n) n) (nltb→le (first test n) n) (first_le n) e
    where
      go : (t u : Bool) → (T t → first test n < n) → (T (not t) → n ≤ first test n) → first test n ≤ n → cond t (first test n) (cond u n (suc n)) ≡ suc n → first test n ≡ n
      go true u f g h e = absurd (no (f tt) e)
        where
          no : first test n < n → first test n ≡ suc n → ⊥
          no l e = omega arith
      go false u f g h e = let k : n ≤ first test n = g tt in omega arith

  prefix : (y k : ℕ) → first test (k + y) ≡ k + y → first test k ≡ k
  prefix zero k e =
      let s : k + 0 ≡ k = omega arith in
      subst (λ n. first test n ≡ n) s e
  prefix (suc y) k e =
      let s : k + suc y ≡ suc (k + y) = omega arith in
      prefix y k (back (k + y) (subst (λ n. first test n ≡ n) s e))

  -- the test fails at every index before it
  pub first_before : (n : ℕ) → first test n ≡ n → (c : ℕ) → c < n → test c ≡ false
  first_before n e c h = go (test c) refl
    where
      reached : first test c ≡ c
      reached =
          let s : c + (n - c) ≡ n = omega arith in
          prefix (n - c) c (subst (λ m. first test m ≡ m) (sym s) e)

      go : (t : Bool) → test c ≡ t → t ≡ false
      go false g = refl
      go true g = absurd (no (first_here c n reached g h))
        where
          no : first test n ≡ c → ⊥
          no k = omega arith

-- tests that agree below n
pub first_ext : (f g : ℕ → Bool) (n : ℕ) → ((c : ℕ) → c < n → f c ≡ g c) → first f n ≡ first g n
unfolding first
first_ext f g zero e = refl
first_ext f g (suc n) e =
    ap₂ (λ s t. cond (ltb s n) s (cond t n (suc n))) (first_ext f g n (λ c h. e c (omega arith))) (e n (omega arith))
