-- Small multiples of the spacing of a number are numbers; one of them plus the least normal number, rounded up, may be doubled. Assumes nothing.
use mathlib.Core.Path.{◌≡◌, sym, ap, ◌∙◌, subst}
use mathlib.Core.Logic.{⊎_elim}
use mathlib.Core.Option.{some}
use Prim.Native.Nat.{ℕ, suc, ◌+◌, ◌-◌, ◌*◌, ◌^◌, ◌≤◌, ◌<◌}
use native.Mathlib.Omega.{arith}
use native.Mathlib.Nat.{mul_comm, mul-one, mul-le-mul_left, mul-le-mul_right, lt_of_mul-lt-mul_left, pow-succ'}
use lib.Pow.{pow_pos, pow_mono}
use lib.IntN.{ℤ, pos, nat_abs}
use Rattle.rounding.specs.Format.{Format, half, MAX, Form, Num, expo, spacing}
use Rattle.rounding.specs.Rounding.{hi, up}
use Rattle.rounding.proofs.Grid.{prec_half, half_even, pow_back, expo_lo, form_of}
use Rattle.rounding.proofs.Bracket.{hi_form, hi_least}
use Rattle.rounding.proofs.Refusal.{max_is}
use Rattle.rounding.proofs.Directed.{up_pos, up_only}
use Rattle.rounding.proofs.DirectedLaws.{up_exact}

-- up of n units is e; 2 × e is a number, and so kept
pub record UpDoubles (f : Format) (n : ℕ) : Type 0 where
  pub e : ℕ
  pub is : up f 1 (pos n) ≡ some (pos e)
  pub doubled : up f 1 (pos (2 * e)) ≡ some (pos (2 * e))
  pub within : 2 * e ≤ MAX f

-- ---- over naturals: P is 2 ^ (prec - 1) and twice H, T the spacing of the largest number M, E a smaller spacing
module _ (P H T E M c : ℕ) (m : M + T ≡ 2 * P * T) (h : P ≡ 2 * H) (few : 2 * c < P) (s : E ≤ T) where
  multiple_fits : c * E ≤ M
  multiple_fits = omega (arith, mul-le-mul_left c s, mul-le-mul_right T few)

  sum_fits : 2 ≤ T → c * E + P ≤ T * (c + H) * 1
  sum_fits t = omega (arith, mul-le-mul_left c s, mul-le-mul_right H t)

  double_fits : 2 * (T * (c + H)) ≤ M
  double_fits = omega (arith, ap (λ x. x * T) h, mul-le-mul_right T few)

module _ (f : Format) where
  one : 0 < 1
  one = omega arith

  kept : {n : ℕ} → Form f n → n ≤ MAX f → up f 1 (pos n) ≡ some (pos n)
  kept {n} F h = ap (λ x. up f 1 (pos x)) (sym (mul-one n)) ∙ up_exact f 1 one {v = pos n} (record { form = F; within = h })

  double_form : {n : ℕ} → Form f n → Form f (2 * n)
  double_form {n} F =
      record { significand = F.significand; shift = suc F.shift; few = F.few; is = ap (λ x. 2 * x) F.is ∙ twice F.significand F.shift }
    where
      twice : (m i : ℕ) → 2 * (m * 2 ^ i) ≡ m * 2 ^ suc i
      twice m i = omega (arith, ap (λ x. m * x) (pow-succ' 2 i))

  -- no number has a larger spacing than the largest one
  pub spacing_top : (v : ℤ) → Num f v → spacing f v ≤ 2 ^ f.top
  spacing_top v n = pow_mono (⊎_elim (λ (z : expo f (nat_abs v) ≡ 0). omega arith) (λ l. pow_back (lt_of_mul-lt-mul_left (half f) (less l))) (expo_lo f (nat_abs v)))
    where
      less : half f * spacing f v ≤ nat_abs v → half f * spacing f v < half f * (2 * 2 ^ f.top)
      less l = omega (arith, n.within, max_is f, pow_pos f.top)

  module _ (c : ℕ) (few : 2 * c < half f) (v : ℤ) (n : Num f v) where
    pub times_exact : up f 1 (pos (c * spacing f v)) ≡ some (pos (c * spacing f v))
    times_exact =
        kept (subst (Form f) (mul_comm (spacing f v) c) (form_of f (expo f (nat_abs v)) c (omega (arith, few, prec_half f))))
        (multiple_fits (half f) (2 ^ (f.prec - 2)) (2 ^ f.top) (spacing f v) (MAX f) c (max_is f) (half_even f) few (spacing_top v n))

    pub bound_number : 1 ≤ f.top → UpDoubles f (c * spacing f v + half f)
    bound_number t =
        record {
          e = hi f 1 N;
          is = up_only f 1 one (up_pos f 1 one N (omega (arith, low, high)));
          doubled = kept (double_form (hi_form f 1 N one)) (omega (arith, low, high));
          within = omega (arith, low, high);
        }
      where
        N : ℕ
        N = c * spacing f v + half f

        T : ℕ
        T = 2 ^ f.top

        H : ℕ
        H = 2 ^ (f.prec - 2)

        low : hi f 1 N ≤ T * (c + H)
        low =
            hi_least f 1 N one (form_of f f.top (c + H) (omega (arith, few, half_even f, prec_half f)))
            (sum_fits (half f) H T (spacing f v) (MAX f) c (max_is f) (half_even f) few (spacing_top v n) (pow_mono t))

        high : 2 * (T * (c + H)) ≤ MAX f
        high = double_fits (half f) H T (spacing f v) (MAX f) c (max_is f) (half_even f) few (spacing_top v n)
