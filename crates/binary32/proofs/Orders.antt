-- Comparing keys is comparing values.
use mathlib.Core.Path.{◌≡◌, refl, sym, ap, ◌∙◌, subst}
use mathlib.Core.Bool.{Bool, true, false}
use Prim.Native.Nat.{ℕ, ◌%◌, ◌^◌, ◌≤◌}
use native.Mathlib.Omega.{arith}
use lib.Dec.{T, leb}
use lib.IntN.{pos, neg_ℤ}
use lib.Signed.{le_z, le_z_yes}
use Rattle.algebra.specs.Order.{◌≼◌}
use Rattle.algebra.proofs.Order.{≼_refl}
use Rattle.algebra.proofs.Natural.{of_le, to_le}
use Rattle.rounding.specs.Format.{binary32}
use Rattle.rounding.specs.Pattern.{val}
use Rattle.rounding.proofs.Pattern.{val_le, val_le_back, val_injective}
use Rattle.rounding.proofs.Sign.{neg_le, of_neg_le, pos_le_neg, neg_le_pos}
use Rattle.binary32.specs.Number.{signed_by, value_of}
use Rattle.binary32.specs.Order.{key_of, at_most}

-- ---- tests

pub same_test : (a b : Bool) → (T a → T b) → (T b → T a) → a ≡ b
same_test true true f g = refl
same_test true false f g = absurd (f tt)
same_test false true f g = absurd (g tt)
same_test false false f g = refl

-- ---- keys and values, for a change of magnitudes that keeps their order and zero
signed_order : (s t : Bool) (m n M N : ℕ) → (m ≤ n → M ≤ N) → (n ≤ m → N ≤ M) → (m ≡ 0 → M ≡ 0) → (n ≡ 0 → N ≡ 0)
    → signed_by s m ≼ signed_by t n → signed_by s M ≼ signed_by t N
signed_order false false m n M N grows falls z w h = of_le (grows (to_le h))
signed_order true false m n M N grows falls z w h = neg_le_pos M N
signed_order false true m n M N grows falls z w h =
    let n₀ : n ≡ 0 = pos_le_neg h in
    let m₀ : m ≤ 0 = to_le (subst (λ k. pos m ≼ neg_ℤ (pos k)) n₀ h) in
    let N₀ : N ≡ 0 = w n₀ in
    let M₀ : M ≡ 0 = z (omega arith) in
    subst (λ k. pos M ≼ neg_ℤ (pos k)) (sym N₀) (subst (λ k. pos k ≼ pos 0) (sym M₀) (≼_refl (pos 0)))
signed_order true true m n M N grows falls z w h = neg_le (falls (of_neg_le h))

pub val_zero : val binary32 0 ≡ 0
unfolding val
val_zero = refl

pub key_order : (a b : ℕ) → le_z (key_of a) (key_of b) ≡ at_most a b
unfolding key_of value_of
key_order a b = same_test (le_z (key_of a) (key_of b)) (at_most a b) (λ t. (up (le_z_yes t)).le) (λ t. (back (le_z_yes t)).le)
  where
    m : ℕ
    m = a % 2 ^ 31

    n : ℕ
    n = b % 2 ^ 31

    none_left : {k : ℕ} → val binary32 k ≡ 0 → k ≡ 0
    none_left e = val_injective binary32 (e ∙ sym val_zero)

    up : key_of a ≼ key_of b → value_of a ≼ value_of b
    up h =
        signed_order (leb (2 ^ 31) a) (leb (2 ^ 31) b) m n (val binary32 m) (val binary32 n) (val_le binary32) (val_le binary32)
        (λ e. ap (val binary32) e ∙ val_zero) (λ e. ap (val binary32) e ∙ val_zero) h

    back : value_of a ≼ value_of b → key_of a ≼ key_of b
    back h =
        signed_order (leb (2 ^ 31) a) (leb (2 ^ 31) b) (val binary32 m) (val binary32 n) m n
        (val_le_back binary32) (val_le_back binary32) none_left none_left h

-- ---- the test and the order of values
pub at_most_tells : (a b : ℕ) → at_most a b ≡ true → value_of a ≼ value_of b
at_most_tells a b e = le_z_yes (subst T (sym e) tt)

pub at_most_is : (a b : ℕ) → value_of a ≼ value_of b → at_most a b ≡ true
at_most_is a b h = go (at_most a b) h.le
  where
    go : (t : Bool) → T t → t ≡ true
    go true h = refl
    go false h = absurd h
