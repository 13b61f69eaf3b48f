-- ℤ as an ordered commutative ring: laws of ≼ and ≺, products of facts, monotony, cancelling a positive factor.
-- What is linear is `lin_le`'s and its kin's, by `omega`; the product of two facts is `h ⊠ k`.
use mathlib.Core.Path.{◌≡◌, sym}
use mathlib.Core.List.{[], ◌∷◌}
use mathlib.Core.Logic.{◌⊎◌, inl, inr, ⊎_elim}
use mathlib.Core.Bool.{Bool, true, false, not}
use Prim.Native.Nat.{ℕ, ◌*◌}
use native.Mathlib.Omega.{arith}
use lib.Dec.{T, leb, nleb→lt}
use lib.IntN.{ℤ, pos, negsuc, neg_ℤ, ◌+ℤ◌, ◌*ℤ◌, ◌-ℤ◌}
use lib.Signed.{le_z_yes, lt_z_yes}
use Rattle.algebra.specs.Order.{◌≼◌, ◌≺◌}
use Rattle.algebra.proofs.SignParts.{parts_lt, parts_le}
use Rattle.algebra.proofs.Linear.{reading, le, lt, eq, lin_le, lin_eq, lin_absurd}

-- ---- order
pub ≼_refl : (a : ℤ) → a ≼ a
≼_refl a = lin_le (a ∷ []) [] (search reading depth 9) (omega arith)

pub ≼_trans : {a b c : ℤ} → a ≼ b → b ≼ c → a ≼ c
≼_trans {a} {b} {c} h k = lin_le (a ∷ b ∷ c ∷ []) (le h ∷ le k ∷ []) (search reading depth 9) (omega arith)

pub ≼_antisym : {a b : ℤ} → a ≼ b → b ≼ a → a ≡ b
≼_antisym {a} {b} h k = lin_eq (a ∷ b ∷ []) (le h ∷ le k ∷ []) (search reading depth 9) (omega arith)

pub ≼_of_≡ : {a b : ℤ} → a ≡ b → a ≼ b
≼_of_≡ {a} {b} h = lin_le (a ∷ b ∷ []) (eq h ∷ []) (search reading depth 9) (omega arith)

pub ≼_of_≺ : {a b : ℤ} → a ≺ b → a ≼ b
≼_of_≺ {a} {b} h = lin_le (a ∷ b ∷ []) (lt h ∷ []) (search reading depth 9) (omega arith)

-- a case split: `⊎_elim (λ h. ..) (λ h. ..) (≼_or_≺ a b)`
pub ≼_or_≺ : (a b : ℤ) → (a ≼ b) ⊎ (b ≺ a)
≼_or_≺ (pos a) (pos b) = go (leb a b) (λ t. le_z_yes t) (λ t. parts_lt (pos b) (pos a) (omega (arith, nleb→lt a b t)))
  where
    go : (t : Bool) → (T t → pos a ≼ pos b) → (T (not t) → pos b ≺ pos a) → (pos a ≼ pos b) ⊎ (pos b ≺ pos a)
    go true f g = inl (f tt)
    go false f g = inr (g tt)
≼_or_≺ (pos a) (negsuc b) = inr (lt_z_yes tt)
≼_or_≺ (negsuc a) (pos b) = inl (le_z_yes tt)
≼_or_≺ (negsuc a) (negsuc b) = go (leb b a) (λ t. le_z_yes t) (λ t. parts_lt (negsuc b) (negsuc a) (omega (arith, nleb→lt b a t)))
  where
    go : (t : Bool) → (T t → negsuc a ≼ negsuc b) → (T (not t) → negsuc b ≺ negsuc a) → (negsuc a ≼ negsuc b) ⊎ (negsuc b ≺ negsuc a)
    go true f g = inl (f tt)
    go false f g = inr (g tt)

pub ≼_total : (a b : ℤ) → (a ≼ b) ⊎ (b ≼ a)
≼_total a b = ⊎_elim (λ h. inl h) (λ h. inr (≼_of_≺ h)) (≼_or_≺ a b)

-- ---- products of facts
pub nonneg : (n : ℕ) → pos 0 ≼ pos n
nonneg n = parts_le (pos 0) (pos n) (omega arith)

pub mul_nonneg : {a b : ℤ} → pos 0 ≼ a → pos 0 ≼ b → pos 0 ≼ a *ℤ b
mul_nonneg {a = pos a} {b = pos b} h k = nonneg (a * b)
mul_nonneg {a = pos a} {b = negsuc b} h k = absurd k.le
mul_nonneg {a = negsuc a} {b = b} h k = absurd h.le

pub gap_nonneg : {a b : ℤ} → a ≼ b → pos 0 ≼ b -ℤ a
gap_nonneg {a} {b} h = lin_le (a ∷ b ∷ []) (le h ∷ []) (search reading depth 9) (omega arith)

-- from a ≼ b and c ≼ d: 0 ≼ (b - a) * (d - c)
infixl 7 ◌⊠◌
pub ◌⊠◌ : {a b c d : ℤ} → a ≼ b → c ≼ d → pos 0 ≼ (b -ℤ a) *ℤ (d -ℤ c)
h ⊠ k = mul_nonneg (gap_nonneg h) (gap_nonneg k)

-- ---- monotony
pub add_mono : {a b c d : ℤ} → a ≼ b → c ≼ d → a +ℤ c ≼ b +ℤ d
add_mono {a} {b} {c} {d} h k = lin_le (a ∷ b ∷ c ∷ d ∷ []) (le h ∷ le k ∷ []) (search reading depth 12) (omega arith)

pub neg_mono : {a b : ℤ} → a ≼ b → neg_ℤ b ≼ neg_ℤ a
neg_mono {a} {b} h = lin_le (a ∷ b ∷ []) (le h ∷ []) (search reading depth 12) (omega arith)

pub mul_mono_right : {a b c : ℤ} → pos 0 ≼ c → a ≼ b → a *ℤ c ≼ b *ℤ c
mul_mono_right {a} {b} {c} p h = lin_le (a ∷ b ∷ c ∷ []) (le (p ⊠ h) ∷ []) (search reading depth 12) (omega arith)

-- ---- strict facts
pub ≺_step : {a b : ℤ} → a ≺ b → a +ℤ pos 1 ≼ b
≺_step {a} {b} h = lin_le (a ∷ b ∷ []) (lt h ∷ []) (search reading depth 9) (omega arith)

pub not_≺ : {a b : ℤ} → a ≼ b → b ≺ a → ⊥
not_≺ {a} {b} h k = lin_absurd (a ∷ b ∷ []) (le h ∷ lt k ∷ []) (search reading depth 9) (omega arith)

-- ---- a positive factor is cancelled
pub cancel_le : {a b c : ℤ} → pos 0 ≺ c → c *ℤ a ≼ c *ℤ b → a ≼ b
cancel_le {a} {b} {c} p h = ⊎_elim (λ k. k) (λ k. absurd (no k)) (≼_or_≺ a b)
  where
    no : b ≺ a → ⊥
    no k = lin_absurd (a ∷ b ∷ c ∷ []) (le h ∷ lt p ∷ le (≺_step p ⊠ ≺_step k) ∷ lt k ∷ []) (search reading depth 14) (omega arith)

pub cancel_lt : {a b c : ℤ} → pos 0 ≺ c → c *ℤ a ≺ c *ℤ b → a ≺ b
cancel_lt {a} {b} {c} p h = ⊎_elim (λ k. absurd (no k)) (λ k. k) (≼_or_≺ b a)
  where
    no : b ≼ a → ⊥
    no k = lin_absurd (a ∷ b ∷ c ∷ []) (lt h ∷ le (≼_of_≺ p ⊠ k) ∷ []) (search reading depth 14) (omega arith)

pub cancel_eq : {a b c : ℤ} → pos 0 ≺ c → c *ℤ a ≡ c *ℤ b → a ≡ b
cancel_eq p h = ≼_antisym (cancel_le p (≼_of_≡ h)) (cancel_le p (≼_of_≡ (sym h)))
