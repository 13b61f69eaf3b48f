-- What a number taken apart is worth is a number of binary32; its pattern.
use mathlib.Core.Path.{◌≡◌, refl, sym, ap, ◌∙◌, subst}
use mathlib.Core.Bool.{Bool, true, false, cond}
use mathlib.Core.List.{[], ◌∷◌}
use mathlib.Core.Logic.{◌⊎◌, inl, inr, ⊎_elim}
use Prim.Native.Nat.{ℕ, suc, ◌+◌, ◌-◌, ◌*◌, ◌/◌, ◌^◌, ◌≤◌, ◌<◌, min}
use native.Mathlib.Omega.{arith, by_contra}
use native.Mathlib.Nat.{one-mul, div-le_self, mul-le-mul_left, mul_comm, mul-one, mul-div_cancel, mul-pos, eq-zero-or-pos, eq_of_mul-eq-mul_left, not-suc-le-zero}
use lib.Pow.{pow_pos}
use lib.Dec.{T, leb}
use lib.IntN.{ℤ, pos, negsuc, nat_abs, ◌*ℤ◌}
use lib.Signed.{lt_z}
use borrow.Author.Tests.{le-leb, lt-leb, le-ltb, ltb-true}
use Rattle.algebra.proofs.Linear.{reading, eq, lin_absurd}
use Rattle.algebra.proofs.Power.{pow_split}
use Rattle.rounding.specs.Format.{binary32, MAX, Form, Num}
use Rattle.rounding.proofs.Grid.{form_of}
use Rattle.rounding.specs.Pattern.{encode}
use Rattle.rounding.proofs.Pattern.{val_pattern}
use Rattle.rounding.proofs.Encoding.{encode_val}
use Rattle.binary32.specs.Number.{pattern_of}
use Rattle.unpacked.specs.declared.Number.{Number}
use Rattle.unpacked.specs.Number.{worth, Normal, IsNumber}
use Rattle.unpacked.specs.Cuts.{fields_of}
use Rattle.unpacked.proofs.Worths.{worth_abs, fits_beyond}
use Rattle.unpacked.proofs.FarShifts.{le_or_lt, capped}

-- ---- the two ways of `fields`
pub fields_high : (m exp : ℕ) → 400 ≤ exp → (exp - 400) * 2 ^ 23 + m ≡ fields_of m exp
unfolding fields_of
fields_high m exp h = sym (ap (λ t. cond t ((exp - 400) * 2 ^ 23 + m) (m / 2 ^ (400 - exp))) (le-leb 400 exp h))

fields_low : (m exp : ℕ) → exp < 400 → m / 2 ^ (400 - exp) ≡ fields_of m exp
unfolding fields_of
fields_low m exp h = sym (ap (λ t. cond t ((exp - 400) * 2 ^ 23 + m) (m / 2 ^ (400 - exp))) (lt-leb 400 exp h))

-- the code shifts by 61 places at most: all digits are gone then
pub fields_capped : (m exp : ℕ) → m ≤ 2 ^ 24 → exp < 400 → m / 2 ^ min (400 - exp) 61 ≡ fields_of m exp
fields_capped m exp h l = ap nat_abs (capped (pos m) (400 - exp) (omega arith)) ∙ fields_low m exp l

-- m * 2 ^ j has the encode j * 2 ^ 23 + m
encode_of : (j m : ℕ) → m ≤ 2 ^ 24 → (j ≡ 0) ⊎ (2 ^ 23 ≤ m) → encode binary32 (m * 2 ^ j) ≡ j * 2 ^ 23 + m
encode_of j m h s = ap (encode binary32) (sym (val_pattern binary32 j m h s)) ∙ encode_val binary32 (j * 2 ^ 23 + m)

-- over plain numbers: a * 2 ^ 400 = s * 2 ^ e
module _ (a s e : ℕ) (h : a * 2 ^ 400 ≡ s * 2 ^ e) where
  over : 400 ≤ e → a ≡ s * 2 ^ (e - 400)
  over l = eq_of_mul-eq-mul_left (2 ^ 400) (pow_pos 400) a (s * 2 ^ (e - 400)) (mul_comm (2 ^ 400) a ∙ h ∙ ap (λ x. s * x) (pow_split e 400 l) ∙ turn (2 ^ 400) (2 ^ (e - 400)))
    where
      turn : (u v : ℕ) → s * (u * v) ≡ u * (s * v)
      turn u v = omega arith

  under : e ≤ 400 → s ≡ a * 2 ^ (400 - e)
  under l = eq_of_mul-eq-mul_left (2 ^ e) (pow_pos e) s (a * 2 ^ (400 - e)) (mul_comm (2 ^ e) s ∙ sym h ∙ ap (λ x. a * x) (pow_split 400 e l) ∙ turn (2 ^ e) (2 ^ (400 - e)))
    where
      turn : (u v : ℕ) → a * (u * v) ≡ u * (a * v)
      turn u v = omega arith

at_most : (a k : ℕ) → 0 < k → a ≤ a * k
at_most a k p = omega (arith, mul-le-mul_left a p)

pub encode_is : (x : Number) → Normal x → encode binary32 (nat_abs (worth x)) ≡ fields_of (nat_abs x.sig) x.exp
encode_is x n = ⊎_elim high low (le_or_lt 400 x.exp)
  where
    a : ℕ
    a = nat_abs (worth x)

    m : ℕ
    m = nat_abs x.sig

    high : 400 ≤ x.exp → encode binary32 a ≡ fields_of m x.exp
    high h = ap (encode binary32) (over a m x.exp (worth_abs x n) h) ∙ encode_of (x.exp - 400) m n.few (inr (n.full some)) ∙ fields_high m x.exp h
      where
        some : 0 < m
        some = ⊎_elim (λ e. absurd (no (n.low e))) (λ l. l) (eq-zero-or-pos m)
          where
            no : x.exp ≡ 64 → ⊥
            no e = omega arith

    low : x.exp < 400 → encode binary32 a ≡ fields_of m x.exp
    low h = ap (encode binary32) (sym (mul-one a)) ∙ encode_of 0 a few (inl refl) ∙ sym quotient ∙ fields_low m x.exp h
      where
        whole : m ≡ a * 2 ^ (400 - x.exp)
        whole = under a m x.exp (worth_abs x n) (omega arith)

        few : a ≤ 2 ^ 24
        few = omega (arith, at_most a (2 ^ (400 - x.exp)) (pow_pos (400 - x.exp)), whole, n.few)

        quotient : m / 2 ^ (400 - x.exp) ≡ 0 * 2 ^ 23 + a
        quotient = ap (λ t. t / 2 ^ (400 - x.exp)) whole ∙ mul-div_cancel a (pow_pos (400 - x.exp)) ∙ none_more
          where
            none_more : a ≡ 0 * 2 ^ 23 + a
            none_more = omega arith

pub exp_high : (x : Number) → IsNumber x → x.exp ≤ 653
exp_high x p = by_contra x.exp 653 (λ (g : 653 < x.exp). no (fits_beyond x p.normal g ∙ le-leb (nat_abs (worth x)) (MAX binary32) p.within))
  where
    no : false ≡ true → ⊥
    no e = subst (λ t. cond t ⊥ (Unit {0})) e tt

-- ---- a number taken apart is a number of binary32
pub worth_form : (x : Number) → Normal x → Form binary32 (nat_abs (worth x))
worth_form x n = ⊎_elim high low (le_or_lt 400 x.exp)
  where
    high : 400 ≤ x.exp → Form binary32 (nat_abs (worth x))
    high h =
        subst (Form binary32) (mul_comm (2 ^ (x.exp - 400)) (nat_abs x.sig) ∙ sym (over (nat_abs (worth x)) (nat_abs x.sig) x.exp (worth_abs x n) h))
        (form_of binary32 (x.exp - 400) (nat_abs x.sig) n.few)

    low : x.exp < 400 → Form binary32 (nat_abs (worth x))
    low h = subst (Form binary32) (one-mul (nat_abs (worth x))) (form_of binary32 0 (nat_abs (worth x)) few)
      where
        few : nat_abs (worth x) ≤ 2 ^ 24
        few =
            omega (
              arith,
              at_most (nat_abs (worth x)) (2 ^ (400 - x.exp)) (pow_pos (400 - x.exp)),
              under (nat_abs (worth x)) (nat_abs x.sig) x.exp (worth_abs x n) (omega arith),
              n.few,
            )

pub num_of : (x : Number) → IsNumber x → Num binary32 (worth x)
num_of x p = record { form = worth_form x p.normal; within = p.within }

-- ---- the sign
sign_same : (s v : ℤ) (m K : ℕ) → 0 < m → 0 < K → s *ℤ pos m ≡ v *ℤ pos K → lt_z s (pos 0) ≡ lt_z v (pos 0)
sign_same (pos s) (pos v) m K p q e = le-ltb s 0 (omega arith) ∙ sym (le-ltb v 0 (omega arith))
sign_same (negsuc s) (negsuc v) m K p q e = refl
sign_same (pos s) (negsuc v) m K p q e = absurd (no (mul-pos {m = suc v} {n = K} (omega arith) q))
  where
    no : 0 < suc v * K → ⊥
    no l = lin_absurd (pos s ∷ pos v ∷ pos m ∷ pos K ∷ []) (eq e ∷ []) (search reading depth 20) (omega arith)
sign_same (negsuc s) (pos v) m K p q e = absurd (no (mul-pos {m = suc s} {n = m} (omega arith) p))
  where
    no : 0 < suc s * m → ⊥
    no l = lin_absurd (pos s ∷ pos v ∷ pos m ∷ pos K ∷ []) (eq e ∷ []) (search reading depth 20) (omega arith)

pattern_neg : (v : ℤ) → lt_z v (pos 0) ≡ true → 2 ^ 31 + encode binary32 (nat_abs v) ≡ pattern_of v
pattern_neg (pos n) t = absurd (not-suc-le-zero (ltb-true n 0 t))
pattern_neg (negsuc n) t = refl

pattern_pos : (v : ℤ) → lt_z v (pos 0) ≡ false → encode binary32 (nat_abs v) ≡ pattern_of v
pattern_pos (pos n) t = refl
pattern_pos (negsuc n) t = absurd (subst T t tt)

pub same_sign : (x : Number) → Normal x → lt_z x.sig (pos 0) ≡ lt_z (worth x) (pos 0)
same_sign x n = sign_same x.sig (worth x) (2 ^ x.exp) (2 ^ 400) (pow_pos x.exp) (pow_pos 400) n.whole

module _ (x : Number) (n : Normal x) (t : ℕ) (e : t ≡ fields_of (nat_abs x.sig) x.exp) where
  pub pack_below : lt_z x.sig (pos 0) ≡ true → 2 ^ 31 + t ≡ pattern_of (worth x)
  pack_below b = ap (λ y. 2 ^ 31 + y) (e ∙ sym (encode_is x n)) ∙ pattern_neg (worth x) (sym (same_sign x n) ∙ b)

  pub pack_above : lt_z x.sig (pos 0) ≡ false → t ≡ pattern_of (worth x)
  pack_above b = e ∙ sym (encode_is x n) ∙ pattern_pos (worth x) (sym (same_sign x n) ∙ b)

pub fields_less : (m e : ℕ) → m ≤ 2 ^ 24 → e ≤ 653 → fields_of m e ≤ 255 * 2 ^ 23
unfolding fields_of
fields_less m e h l = go (leb 400 e)
  where
    go : (t : Bool) → cond t ((e - 400) * 2 ^ 23 + m) (m / 2 ^ (400 - e)) ≤ 255 * 2 ^ 23
    go true = omega arith
    go false = omega (arith, div-le_self m (2 ^ (400 - e)))
