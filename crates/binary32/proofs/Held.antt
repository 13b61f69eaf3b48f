-- Laws of what a pattern holds: an operation on patterns is the operation on the numbers that they hold, and a number's pattern holds it.
use mathlib.Core.Path.{◌≡◌, refl, sym, ap, ap₂, ◌∙◌}
use mathlib.Core.Bool.{Bool, true, false, cond}
use mathlib.Core.Option.{Option, none, some, bind}
use Prim.Native.Nat.{ℕ, suc, ◌+◌, ◌*◌, ◌%◌, ◌^◌, ◌≤◌, ◌<◌}
use native.Mathlib.Omega.{arith}
use native.Mathlib.Nat.{mod-eq_of_lt, le_trans, le_of_eq}
use lib.Dec.{leb}
use lib.IntN.{ℤ, pos, negsuc, neg_ℤ}
use borrow.Author.Tests.{lt-ltb, ltb-true, lt-leb, le-leb}
use Rattle.rounding.specs.Format.{binary32, MAX, Form, Num}
use Rattle.rounding.specs.Pattern.{val, encode}
use Rattle.rounding.proofs.Pattern.{val_max, val_form}
use Rattle.rounding.proofs.Encoding.{val_encode}
use Rattle.rounding.proofs.Sign.{num_neg}
use Rattle.binary32.specs.Number.{signed_by, value_of, finite, Finite, finites, held, pattern_of, hold}
use Rattle.binary32.specs.Operations.{with₂}

-- ---- finite patterns

pub finite_is : (p : ℕ) → finite p ≡ true → Finite p
finite_is p t = ltb-true (p % 2 ^ 31) (255 * 2 ^ 23) t

pub is_finite : (p : ℕ) → Finite p → finite p ≡ true
is_finite p h = lt-ltb (p % 2 ^ 31) (255 * 2 ^ 23) h

-- two tests, both passed
pub and_first : (s t : Bool) → cond s t false ≡ true → s ≡ true
and_first true t e = refl
and_first false t e = e

pub and_second : (s t : Bool) → cond s t false ≡ true → t ≡ true
and_second s t e = sym (ap (λ x. cond x t false) (and_first s t e)) ∙ e

pub and_both : (s t : Bool) → s ≡ true → t ≡ true → cond s t false ≡ true
and_both s t e f = ap (λ (x : Bool). cond x t false) e ∙ f

pub finites_first : (a b : ℕ) → finites a b ≡ true → finite a ≡ true
finites_first a b e = and_first (finite a) (finite b) e

pub finites_second : (a b : ℕ) → finites a b ≡ true → finite b ≡ true
finites_second a b e = and_second (finite a) (finite b) e

-- ---- what two patterns hold

pub held_finite : (p : ℕ) → finite p ≡ true → held p ≡ some (value_of p)
unfolding held
held_finite p t = ap (λ x. cond x (some (value_of p)) none) t

pub held_none : (p : ℕ) → finite p ≡ false → held p ≡ none
unfolding held
held_none p t = ap (λ x. cond x (some (value_of p)) none) t

module _ (op : ℤ → ℤ → Option ℤ) (a b : ℕ) where
  pub with_some : finites a b ≡ true → with₂ op a b ≡ op (value_of a) (value_of b)
  unfolding with₂ bind
  with_some t =
      ap₂ (λ u v. bind u λ x. bind v λ y. op x y) (held_finite a (finites_first a b t)) (held_finite b (finites_second a b t))

-- ---- a number's pattern is finite and has its value; a finite pattern's value is a number

encode_low : {n : ℕ} → Form binary32 n → n ≤ MAX binary32 → encode binary32 n < 255 * 2 ^ 23
encode_low {n} F h = (val_max binary32 (encode binary32 n)).0 (le_trans (le_of_eq (val_encode binary32 F)) h)

pub value_low : (q : ℕ) → q < 2 ^ 31 → value_of q ≡ pos (val binary32 q)
unfolding value_of
value_low q h = ap₂ (λ t n. signed_by t (val binary32 n)) (lt-leb (2 ^ 31) q h) (mod-eq_of_lt h)

pub value_high : (q : ℕ) → q < 2 ^ 31 → value_of (2 ^ 31 + q) ≡ neg_ℤ (pos (val binary32 q))
unfolding value_of
value_high q h = ap₂ (λ t n. signed_by t (val binary32 n)) (le-leb (2 ^ 31) (2 ^ 31 + q) (omega arith)) (rest q h)
  where
    rest : (q : ℕ) → q < 2 ^ 31 → (2 ^ 31 + q) % 2 ^ 31 ≡ q
    rest q h = omega arith

pub pattern_value : {v : ℤ} → Num binary32 v → value_of (pattern_of v) ≡ v
pattern_value {v = pos n} N =
    let l : encode binary32 n < 255 * 2 ^ 23 = encode_low N.form N.within in
    value_low (encode binary32 n) (omega arith) ∙ ap pos (val_encode binary32 N.form)
pattern_value {v = negsuc k} N =
    let l : encode binary32 (suc k) < 255 * 2 ^ 23 = encode_low N.form N.within in
    value_high (encode binary32 (suc k)) (omega arith) ∙ ap (λ x. neg_ℤ (pos x)) (val_encode binary32 N.form)

pub pattern_finite : {v : ℤ} → Num binary32 v → Finite (pattern_of v)
pattern_finite {v = pos n} N = let l : encode binary32 n < 255 * 2 ^ 23 = encode_low N.form N.within in omega arith
pattern_finite {v = negsuc k} N = let l : encode binary32 (suc k) < 255 * 2 ^ 23 = encode_low N.form N.within in omega arith

pub value_num : (p : ℕ) → Finite p → Num binary32 (value_of p)
unfolding value_of
value_num p h = go (leb (2 ^ 31) p)
  where
    positive : Num binary32 (pos (val binary32 (p % 2 ^ 31)))
    positive = record { form = val_form binary32 (p % 2 ^ 31); within = (val_max binary32 (p % 2 ^ 31)).1 h }

    go : (t : Bool) → Num binary32 (signed_by t (val binary32 (p % 2 ^ 31)))
    go true = num_neg positive
    go false = positive

-- ---- what is held comes back

-- a partial result that is a number of the format, or none
unfoldable pub Fits : Option ℤ → Type 0
Fits m = (v : ℤ) → m ≡ some v → Num binary32 v

pub held_hold : (z : ℕ) → finite z ≡ false → (m : Option ℤ) → Fits m → held (hold z m) ≡ m
unfolding Fits
held_hold z t none h = held_none z t
held_hold z t (some v) h = held_finite (pattern_of v) (is_finite (pattern_of v) (pattern_finite (h v refl))) ∙ ap some (pattern_value (h v refl))
