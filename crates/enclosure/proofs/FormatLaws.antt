-- The arithmetic of every format whose unit is at most 2 ^ -prec obeys the laws. Assumes nothing.
use mathlib.Core.Path.{◌≡◌, refl, sym, ap, ◌∙◌}
use mathlib.Core.Logic.{⊎_elim}
use mathlib.Core.Option.{some, none-ne-some}
use Prim.Native.Nat.{ℕ, suc, ◌+◌, ◌-◌, ◌*◌, ◌^◌, ◌≤◌, ◌<◌}
use native.Mathlib.Omega.{arith}
use native.Mathlib.Nat.{pow-succ'}
use lib.Pow.{pow_pos, pow-add}
use lib.IntN.{ℤ, pos, neg_ℤ}
use Rattle.algebra.specs.Order.{◌≼◌}
use Rattle.algebra.proofs.Order.{≼_or_≺}
use Rattle.rounding.specs.Format.{Format, half, MAX}
use Rattle.rounding.specs.Rounding.{up, down}
use Rattle.rounding.proofs.Directed.{up_is, up_above, down_is, down_below}
use Rattle.rounding.proofs.Nearest.{near_is}
use Rattle.rounding.proofs.NearestLaws.{near_kept, near_mono_abs}
use Rattle.rounding.proofs.Spacing.{spacing_mono, spacing_high, spacing_low}
use Rattle.rounding.proofs.Error.{up_err, down_err, near_err, near_spacing}
use Rattle.enclosure.specs.Arithmetic.{of}
use Rattle.enclosure.proofs.Laws.{Laws}

module _ (f : Format) where
  pub double_half : 2 * half f ≡ 2 ^ f.prec
  double_half =
      let e : suc (f.prec - 1) ≡ f.prec = omega (arith, f.enough) in
      sym (pow-succ' 2 (f.prec - 1)) ∙ ap (λ n. 2 ^ n) e

  -- what is given a number is not above the largest, or below the most negative one
  pub room_above : {D : ℕ} {X v : ℤ} → 0 < D → up f D X ≡ some v → X ≼ pos (MAX f * D)
  room_above {D} {X} {v} d h = ⊎_elim (λ k. k) (λ k. absurd (none-ne-some v (sym (up_above f D d k) ∙ h))) (≼_or_≺ X (pos (MAX f * D)))

  pub room_below : {D : ℕ} {X v : ℤ} → 0 < D → down f D X ≡ some v → neg_ℤ (pos (MAX f * D)) ≼ X
  room_below {D} {X} {v} d h = ⊎_elim (λ k. k) (λ k. absurd (none-ne-some v (sym (down_below f D d k) ∙ h))) (≼_or_≺ (neg_ℤ (pos (MAX f * D))) X)

  unfoldable pub format_laws : f.prec ≤ f.unit → Laws (of f)
  format_laws fine =
      record {
        P = half f;
        MAX = MAX f;
        units_above = pow_pos f.unit;
        eps_is = ap (λ n. n * 2 ^ (f.unit - f.prec)) double_half ∙ sym (pow-add 2 f.prec (f.unit - f.prec)) ∙ ap (λ n. 2 ^ n) together;
        tiny_is = sym double_half;
        normal_is = refl;
        up_above = λ d h. (up_is f _ d h).above;
        up_room = room_above;
        up_err = λ d h. up_err f _ d (up_is f _ d h);
        down_below = λ d h. (down_is f _ d h).below;
        down_room = room_below;
        down_err = λ d h. down_err f _ d (down_is f _ d h);
        near_err = λ d h. near_err f _ d (near_is f _ d h);
        near_spacing = λ X d h. near_spacing f _ d (near_is f _ d h);
        near_again = λ X d h. near_kept (near_is f _ d h).num;
        near_mono = λ X d h. near_mono_abs f _ d X h;
        spacing_mono = spacing_mono f;
        spacing_high = spacing_high f;
        spacing_low = spacing_low f;
      }
    where
      together : f.prec + (f.unit - f.prec) ≡ f.unit
      together = omega (arith, fine)
