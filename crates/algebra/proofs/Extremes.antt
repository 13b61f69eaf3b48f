-- Laws of the lesser and the greater of two integers.
use mathlib.Core.Path.{◌≡◌, refl, sym}
use mathlib.Core.Logic.{⊎_elim}
use mathlib.Core.Bool.{Bool, true, false, not, cond}
use lib.Dec.{T, T_not}
use lib.IntN.{ℤ}
use lib.Signed.{le_z, le_z_yes}
use Rattle.algebra.specs.Order.{◌≼◌}
use Rattle.algebra.specs.Extremes.{minℤ, maxℤ}
use Rattle.algebra.proofs.Order.{≼_trans, ≼_of_≡, ≼_of_≺, ≼_or_≺}

le_z_no : (a b : ℤ) → T (not (le_z a b)) → b ≼ a
le_z_no a b t = ⊎_elim (λ h. absurd (T_not (le_z a b) t h.le)) ≼_of_≺ (≼_or_≺ a b)

-- the split at a proof
pub min_split : {G : Type 0} (a b : ℤ) → (a ≼ b → minℤ a b ≡ a → G) → (b ≼ a → minℤ a b ≡ b → G) → G
unfolding minℤ
min_split {G} a b f g = go (le_z a b) (λ t. le_z_yes t) (le_z_no a b) f g
  where
    go : (t : Bool) → (T t → a ≼ b) → (T (not t) → b ≼ a) → (a ≼ b → cond t a b ≡ a → G) → (b ≼ a → cond t a b ≡ b → G) → G
    go true p q f g = f (p tt) refl
    go false p q f g = g (q tt) refl

pub max_split : {G : Type 0} (a b : ℤ) → (a ≼ b → maxℤ a b ≡ b → G) → (b ≼ a → maxℤ a b ≡ a → G) → G
unfolding maxℤ
max_split {G} a b f g = go (le_z a b) (λ t. le_z_yes t) (le_z_no a b) f g
  where
    go : (t : Bool) → (T t → a ≼ b) → (T (not t) → b ≼ a) → (a ≼ b → cond t b a ≡ b → G) → (b ≼ a → cond t b a ≡ a → G) → G
    go true p q f g = f (p tt) refl
    go false p q f g = g (q tt) refl

pub min_≼_l : (a b : ℤ) → minℤ a b ≼ a
min_≼_l a b = min_split a b (λ h e. ≼_of_≡ e) (λ h e. ≼_trans (≼_of_≡ e) h)

pub min_≼_r : (a b : ℤ) → minℤ a b ≼ b
min_≼_r a b = min_split a b (λ h e. ≼_trans (≼_of_≡ e) h) (λ h e. ≼_of_≡ e)

pub ≼_max_l : (a b : ℤ) → a ≼ maxℤ a b
≼_max_l a b = max_split a b (λ h e. ≼_trans h (≼_of_≡ (sym e))) (λ h e. ≼_of_≡ (sym e))

pub ≼_max_r : (a b : ℤ) → b ≼ maxℤ a b
≼_max_r a b = max_split a b (λ h e. ≼_of_≡ (sym e)) (λ h e. ≼_trans h (≼_of_≡ (sym e)))

pub ≼_min : {a b c : ℤ} → c ≼ a → c ≼ b → c ≼ minℤ a b
≼_min {a} {b} h k = min_split a b (λ p e. ≼_trans h (≼_of_≡ (sym e))) (λ p e. ≼_trans k (≼_of_≡ (sym e)))

pub max_≼ : {a b c : ℤ} → a ≼ c → b ≼ c → maxℤ a b ≼ c
max_≼ {a} {b} h k = max_split a b (λ p e. ≼_trans (≼_of_≡ e) k) (λ p e. ≼_trans (≼_of_≡ e) h)
