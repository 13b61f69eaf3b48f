-- An amount of zero widens by nothing: a number less 0, down, and plus 0, up, is itself, as the pattern of its value. Assumes nothing.
use mathlib.Core.Path.{◌≡◌, refl, sym, ap, ap₂, ◌∙◌}
use mathlib.Core.Bool.{true, false, cond}
use mathlib.Core.List.{[], ◌∷◌}
use Prim.Native.Nat.{ℕ, ◌<◌}
use native.Mathlib.Omega.{arith}
use lib.Dec.{lit<}
use lib.IntN.{ℤ, pos, negsuc, ◌+ℤ◌, ◌-ℤ◌, ◌*ℤ◌}
use lib.Signed.{le_z}
use Rattle.algebra.proofs.Linear.{reading}
use Rattle.algebra.proofs.Reading.{by_ring}
use Rattle.rounding.specs.Format.{binary32, Num}
use Rattle.rounding.specs.Pattern.{val}
use Rattle.rounding.specs.Rounding.{up, down}
use Rattle.rounding.proofs.DirectedLaws.{up_exact, down_exact}
use Rattle.rounding.proofs.Encoding.{encode_limit}
use Rattle.refusals.specs.declared.reason.Reason.TheVariants.{NotFinite, Crossed}
use Rattle.refusals.specs.Answer.{gives, refuses, done, both}
use Rattle.refusals.proofs.Answers.{then_gives}
use Rattle.binary32.specs.Number.{finite, finites, value_of, pattern_of}
use Rattle.binary32.specs.Operations.{add, sub, answer_of, sub_down, add_up}
use Rattle.binary32.proofs.Held.{finite_is, is_finite, pattern_value, pattern_finite, value_num}
use Rattle.intervals.specs.Conversion.{fault_of, outward_of}
use Rattle.sheets.specs.Cell.{canonical_of, widened_of}
use Rattle.sheets.proofs.Bounding.{fine_finite, answer_is, worn_by}

-- w is zero, of either sign
abbrev pub Zero : ℕ → Type 0
Zero w = (finite w ≡ true) × (value_of w ≡ pos 0)

pub zero_is : Zero 0
unfolding value_of val
zero_is = (refl, refl)

-- ---- the pattern of a number's value

pub pattern_fits : {v : ℤ} → Num binary32 v → pattern_of v < 4294967296
pattern_fits {v = pos n} N = omega (arith, (encode_limit binary32 N.form).1 N.within)
pattern_fits {v = negsuc k} N = omega (arith, (encode_limit binary32 N.form).1 N.within)

module _ (p : ℕ) (h : finite p ≡ true) where
  number : Num binary32 (value_of p)
  number = value_num p (finite_is p h)

  pub canonical_value : value_of (canonical_of p) ≡ value_of p
  unfolding canonical_of
  canonical_value = pattern_value number

  pub canonical_finite : finite (canonical_of p) ≡ true
  unfolding canonical_of
  canonical_finite = is_finite (canonical_of p) (pattern_finite number)

  pub canonical_fits : canonical_of p < 4294967296
  unfolding canonical_of
  canonical_fits = pattern_fits number

  pub canonical_twice : canonical_of (canonical_of p) ≡ canonical_of p
  unfolding canonical_of
  canonical_twice = ap pattern_of canonical_value

  module _ (w : ℕ) (z : Zero w) where
    less_none : value_of p -ℤ value_of w ≡ value_of p *ℤ pos 1
    less_none = ap (λ x. value_of p -ℤ x) z.1 ∙ by_ring (value_of p ∷ []) (search reading depth 20) tt

    plus_none : value_of p +ℤ value_of w ≡ value_of p *ℤ pos 1
    plus_none = ap (λ x. value_of p +ℤ x) z.1 ∙ by_ring (value_of p ∷ []) (search reading depth 20) tt

    sub_none : sub_down p w ≡ gives (canonical_of p)
    unfolding canonical_of
    sub_none = answer_is (sub down) p w h z.0 ∙ ap answer_of (ap (down binary32 1) less_none ∙ down_exact binary32 1 (lit< tt) number)

    add_none : add_up p w ≡ gives (canonical_of p)
    unfolding canonical_of
    add_none = answer_is (add up) p w h z.0 ∙ ap answer_of (ap (up binary32 1) plus_none ∙ up_exact binary32 1 (lit< tt) number)

-- ---- a cell read with an amount of zero

module _ (a b : ℕ) (e : fault_of a b ≡ done) where
  pub outward_none : (w : ℕ) → Zero w → outward_of a b w ≡ gives (canonical_of a, canonical_of b)
  outward_none w z = ap₂ both (sub_none a (fine_finite a b e).0 w z) (add_none b (fine_finite a b e).1 w z)

  canonical_fine : fault_of (canonical_of a) (canonical_of b) ≡ done
  unfolding fault_of
  canonical_fine =
      let f = fine_finite a b e in
      let g : finites (canonical_of a) (canonical_of b) ≡ finites a b = ap₂ (λ s t. cond s t false) (canonical_finite a f.0 ∙ sym f.0) (canonical_finite b f.1 ∙ sym f.1) in
      ap₂ (λ s t. cond s (cond t done (refuses Crossed)) (refuses NotFinite)) g (ap₂ le_z (canonical_value a f.0) (canonical_value b f.1)) ∙ e

pub widened_none : (a b w : ℕ) → fault_of a b ≡ done → Zero w → widened_of (canonical_of a) (canonical_of b) w ≡ gives (canonical_of a, canonical_of b)
unfolding widened_of
widened_none a b w e z =
    let f = fine_finite a b e in
    let g = canonical_fine a b e in
    sym (then_gives _ tt _ _ (sym (worn_by (canonical_of a) (canonical_of b) w true z.0) ∙ g) refl) ∙ outward_none (canonical_of a) (canonical_of b) g w z
    ∙ ap₂ (λ x y. gives (x, y)) (canonical_twice a f.0) (canonical_twice b f.1)
