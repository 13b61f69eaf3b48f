-- Bit patterns without sign: the values `val n` grow with the pattern n, so that no number has two; the pattern of c * 2 ^ j is
-- j * 2 ^ (prec - 1) + c, also where a rounding carried to c = 2 ^ prec; the numbers are the patterns below `limit`. Assumes nothing.
use mathlib.Core.Path.{◌≡◌, refl, sym, ap, ap₂, ◌∙◌, subst}
use mathlib.Core.Bool.{Bool, true, false}
use mathlib.Core.Logic.{◌↔◌, ◌⊎◌, inl, inr, ⊎_elim}
use Prim.Native.Nat.{ℕ, zero, suc, ◌+◌, ◌-◌, ◌*◌, ◌/◌, ◌%◌, ◌^◌, ◌≤◌, ◌<◌, min}
use native.Mathlib.Omega.{arith, min_cases}
use native.Mathlib.Nat.{le_antisymm, le_of_eq, lt_of_not-le, not-le_of_lt, eq-or-lt_of_le, mod-lt, pow-succ', mul-pos, div-add-mod'}
use lib.Arith.{digits_div, digits_mod}
use lib.Pow.{pow_pos}
use lib.Dec.{leb, T, leb→le, ltb, le→leb, ltb→lt, lt→ltb}
use Rattle.rounding.specs.Format.{Format, half, MAX, Form}
use Rattle.rounding.specs.Pattern.{value, val, limit}
use Rattle.rounding.proofs.Compare.{cmp_split}
use Rattle.rounding.proofs.Grid.{prec_half, half_pos}

module _ (f : Format) where
  pub val_at : (e : ℕ) {m : ℕ} → m < half f → val f (e * half f + m) ≡ value (half f) e m
  unfolding val
  val_at e {m} h = ap₂ (value (half f)) (digits_div e h) (digits_mod e h)

  -- ---- the pattern of a shifted significand
  pub val_pattern : (j c : ℕ) → c ≤ 2 ^ f.prec → (j ≡ 0) ⊎ (half f ≤ c) → val f (j * half f + c) ≡ c * 2 ^ j
  val_pattern j c h s =
      cmp_split c (half f) (λ l. subnormal l s) (λ e. normal (le_of_eq (sym e)) (omega (arith, prec_half f, half_pos f)))
      (λ g. ⊎_elim carried (normal (omega arith)) (eq-or-lt_of_le h))
    where
      subnormal : c < half f → (j ≡ 0) ⊎ (half f ≤ c) → val f (j * half f + c) ≡ c * 2 ^ j
      subnormal l (inl e) = ap (λ x. val f (x * half f + c)) e ∙ val_at 0 l ∙ unshifted
        where
          unshifted : c ≡ c * 2 ^ j
          unshifted = omega (arith, ap (λ x. c * 2 ^ x) e)
      subnormal l (inr g) = absurd (not-le_of_lt l g)

      normal : half f ≤ c → c < 2 ^ f.prec → val f (j * half f + c) ≡ c * 2 ^ j
      normal g l =
          let e₁ : j * half f + c ≡ suc j * half f + (c - half f) = omega arith in
          let e₂ : half f + (c - half f) ≡ c = omega arith in
          ap (val f) e₁ ∙ val_at (suc j) (omega (arith, prec_half f)) ∙ ap (λ x. x * 2 ^ j) e₂

      carried : c ≡ 2 ^ f.prec → val f (j * half f + c) ≡ c * 2 ^ j
      carried e =
          let e₁ : j * half f + c ≡ suc (suc j) * half f + 0 = omega (arith, prec_half f) in
          let e₂ : (half f + 0) * 2 ^ suc j ≡ c * 2 ^ j =
          omega (arith, ap (λ x. half f * x) (pow-succ' 2 j), ap (λ x. x * 2 ^ j) (e ∙ prec_half f)) in
          ap (val f) e₁ ∙ val_at (suc (suc j)) (half_pos f) ∙ e₂

  -- ---- values grow with patterns
  next : (e m : ℕ) → m < half f → value (half f) e m < val f (suc (e * half f + m))
  next e m h = ⊎_elim (λ (k : suc m ≡ half f). carry e k) (λ (k : suc m < half f). inside e k) (eq-or-lt_of_le h)
    where
      grows : (e : ℕ) → value (half f) e m < value (half f) e (suc m)
      grows zero = omega arith
      grows (suc e) = omega (arith, pow_pos e)

      inside : (e : ℕ) → suc m < half f → value (half f) e m < val f (suc (e * half f + m))
      inside e k =
          let s : suc (e * half f + m) ≡ e * half f + suc m = omega arith in
          subst (λ x. value (half f) e m < x) (sym (ap (val f) s ∙ val_at e k)) (grows e)

      over : (e : ℕ) → suc m ≡ half f → value (half f) e m < value (half f) (suc e) 0
      over zero k = omega arith
      over (suc e) k = omega (arith, ap (λ x. (half f + 0) * x) (pow-succ' 2 e), ap (λ x. x * 2 ^ e) k, pow_pos e)

      carry : (e : ℕ) → suc m ≡ half f → value (half f) e m < val f (suc (e * half f + m))
      carry e k =
          let s : suc (e * half f + m) ≡ suc e * half f + 0 = omega arith in
          subst (λ x. value (half f) e m < x) (sym (ap (val f) s ∙ val_at (suc e) (half_pos f))) (over e k)

  pub val_step : (n : ℕ) → val f n < val f (suc n)
  val_step n = subst (λ x. val f x < val f (suc x)) fields (subst (λ y. y < val f (suc (e * half f + m))) (sym (val_at e small)) (next e m small))
    where
      e : ℕ
      e = n / half f

      m : ℕ
      m = n % half f

      fields : e * half f + m ≡ n
      fields = div-add-mod' n (half f)

      small : m < half f
      small = mod-lt n (half_pos f)

  val_climb : (k m n : ℕ) → n ≡ m + suc k → val f m < val f n
  val_climb zero m n e =
      let s : n ≡ suc m = omega arith in
      subst (λ x. val f m < val f x) (sym s) (val_step m)
  val_climb (suc k) m n e =
      let s : n ≡ suc (m + suc k) = omega arith in
      subst (λ x. val f m < val f x) (sym s) (omega (arith, val_climb k m (m + suc k) refl, val_step (m + suc k)))

  pub val_lt : {m n : ℕ} → m < n → val f m < val f n
  val_lt {m} {n} h = val_climb (n - suc m) m n (omega arith)

  pub val_le : {m n : ℕ} → m ≤ n → val f m ≤ val f n
  val_le {m} {n} h = ⊎_elim (λ e. le_of_eq (ap (val f) e)) (λ l. omega (arith, val_lt l)) (eq-or-lt_of_le h)

  pub val_le_back : {m n : ℕ} → val f m ≤ val f n → m ≤ n
  val_le_back {m} {n} h = omega (arith, lt_of_not-le (λ (l : suc n ≤ m). not-le_of_lt (val_lt l) h))

  pub val_injective : {m n : ℕ} → val f m ≡ val f n → m ≡ n
  val_injective {m} {n} e = le_antisymm (val_le_back (le_of_eq e)) (val_le_back (le_of_eq (sym e)))

  -- ---- every pattern is a number without upper limit, and those below `limit` are the numbers
  pub val_form : (n : ℕ) → Form f (val f n)
  unfolding val
  val_form n = go (n / half f) (n % half f) (mod-lt n (half_pos f))
    where
      go : (e m : ℕ) → m < half f → Form f (value (half f) e m)
      go zero m h = record { significand = m; shift = 0; few = omega (arith, prec_half f); is = omega arith }
      go (suc e) m h = record { significand = half f + m; shift = e; few = omega (arith, prec_half f); is = refl }

  -- the last pattern is that of the largest number
  last : ℕ
  last = f.top * half f + (2 ^ f.prec - 1)

  last_suc : suc last ≡ limit f
  unfolding last
  last_suc = omega (arith, prec_half f, half_pos f)

  last_max : val f last ≡ MAX f
  unfolding last MAX
  last_max = val_pattern f.top (2 ^ f.prec - 1) (omega arith) (inr (omega (arith, prec_half f, half_pos f)))

  pub val_max : (n : ℕ) → (val f n ≤ MAX f) ↔ (n < limit f)
  val_max n = (to, from)
    where
      to : val f n ≤ MAX f → n < limit f
      to h = omega (arith, last_suc, val_le_back {m = n} {n = last} (omega (arith, last_max)))

      from : n < limit f → val f n ≤ MAX f
      from h = omega (arith, last_max, val_le {m = n} {n = last} (omega (arith, last_suc)))

  -- the same as tests
  pub fits_same : (n : ℕ) → leb (val f n) (MAX f) ≡ ltb n (limit f)
  fits_same n = tests (leb (val f n) (MAX f)) (ltb n (limit f))
      (λ t. lt→ltb n (limit f) ((val_max n).0 (leb→le (val f n) (MAX f) t)))
      (λ t. le→leb (val f n) (MAX f) ((val_max n).1 (ltb→lt n (limit f) t)))
    where
      tests : (a b : Bool) → (T a → T b) → (T b → T a) → a ≡ b
      tests true true f g = refl
      tests true false f g = absurd (f tt)
      tests false true f g = absurd (g tt)
      tests false false f g = refl

  -- the lesser of a value and the largest number
  pub val_min : (n : ℕ) → min (val f n) (MAX f) ≡ val f (min n (limit f - 1))
  val_min n = min_cases n (limit f - 1) (min (val f n) (MAX f) ≡ val f (min n (limit f - 1)))
      (λ h e. small ((val_max n).1 (omega (arith, limit_pos))) ∙ sym (ap (val f) e))
      (λ h e. large (subst (λ x. x ≤ val f n) at_last (val_le h)) ∙ sym (ap (val f) e ∙ at_last))
    where
      limit_pos : 0 < limit f
      limit_pos = mul-pos (omega arith) (half_pos f)

      at_last : val f (limit f - 1) ≡ MAX f
      at_last = ap (val f) before ∙ last_max
        where
          before : limit f - 1 ≡ last
          before = omega (arith, last_suc)

      small : val f n ≤ MAX f → min (val f n) (MAX f) ≡ val f n
      small h = omega arith

      large : MAX f ≤ val f n → min (val f n) (MAX f) ≡ MAX f
      large h = omega arith
