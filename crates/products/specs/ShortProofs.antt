-- Down and to nearest keep the laws of `ShortLaws`.
use Rattle.std.proofs.Common.{refl, sym, subst}
use mathlib.Core.Logic.{⊎_elim}
use Prim.Native.Nat.{ℕ, ◌^◌, ◌≤◌}
use native.Mathlib.Omega.{arith}
use lib.IntN.{ℤ, pos, nat_abs, ◌*ℤ◌}
use lib.Signed.{shr_z}
use Rattle.rounding.specs.Rounding.{down, near}
use Rattle.unpacked.specs.declared.Number.{Number}
use Rattle.unpacked.specs.Cuts.{DownOf, NearOf, limited, limited_near, nearest_of, room, Cut, CutFilled, CutNear, Filled}
use Rattle.unpacked.proofs.Leading.{lead_of}
use Rattle.unpacked.proofs.FarShifts.{le_or_lt}
use Rattle.unpacked.proofs.Cutting.{near_cut_found, near_carry_found, near_plain_found}
use Rattle.unpacked.proofs.Found.{aligned_form, sum_found, near_sum_found, negative_form, negative_found}
use Rattle.unpacked.proofs.Partials.{down_plus_holds, near_plus_holds}
use Rattle.unpacked.proofs.SmallProducts.{small_few, small_holds}
use Rattle.unpacked.proofs.SmallNear.{small_near_few, small_near_holds}
use Rattle.unpacked.proofs.Multiplying.{shortened_normal, shortened_holds, limit_holds, shortened_near_normal, shortened_near_holds, limit_near_holds}
use Rattle.products.specs.Short.{ShortLaws}

pub down_laws : ShortLaws down shr_z limited DownOf
down_laws = record {
  cuts = λ s a h r c. sum_found s a h r c;
  fills = λ s a h x y r c. negative_found s a h x y r c;
  normal = λ X r d. (d.normal, d.high);
  sums = down_plus_holds;
  few = small_few;
  units = small_holds;
  whole = shortened_normal;
  usual = shortened_holds;
  large = limit_holds;
}

-- what is cut to nearest, by the places that w is shifted up
near_cut : (w : ℤ) (exp : ℕ) (r : Number) → nat_abs w ≤ 2 ^ 61 → 64 ≤ exp → Cut nearest_of w exp r → CutNear w exp r
near_cut w exp r few low c =
    near_cut_found w exp (room w) (w *ℤ pos (2 ^ room w)) r.sig r.exp (lead_of w (omega (arith, few))) low refl c.sigs
    (record { none = c.none; some = λ p. omega (arith, c.some p) })

near_fill : (w : ℤ) (exp : ℕ) (r : Number) → Filled w exp → CutFilled nearest_of w exp r → CutNear w exp r
near_fill w exp r f c = ⊎_elim
    (λ h. subst (λ e. CutNear w exp (record { sig = r.sig; exp = e })) (sym (c.plain h).1) (near_plain_found w exp f r.sig h (c.plain h).0))
    (λ h. subst (λ e. CutNear w exp (record { sig = r.sig; exp = e })) (sym (c.carry h).1) (near_carry_found w exp f r.sig h (c.carry h).0))
    (le_or_lt (nat_abs w) (2 ^ 60))

pub near_laws : ShortLaws near nearest_of limited_near NearOf
near_laws = record {
  cuts = λ s a h r c. near_sum_found s a h r (near_cut a.w a.exp r (aligned_form s a h).0 (aligned_form s a h).1 c);
  fills = λ s a h x y r c. near_sum_found s a h r (near_fill a.w a.exp r (negative_form s a h x y) c);
  normal = λ X r d. (d.normal, d.high);
  sums = near_plus_holds;
  few = small_near_few;
  units = small_near_holds;
  whole = shortened_near_normal;
  usual = shortened_near_holds;
  large = limit_near_holds;
}
