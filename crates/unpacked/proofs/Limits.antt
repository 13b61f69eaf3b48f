-- The largest number as the upper limit of a value of 24 digits, rounded down or to nearest.
use mathlib.Core.Path.{◌≡◌, refl, sym, ap, subst, ◌∙◌}
use mathlib.Core.Bool.{Bool, true, false, cond}
use mathlib.Core.Option.{some, none}
use Prim.Native.Nat.{ℕ, ◌^◌, ◌≤◌}
use native.Mathlib.Omega.{arith}
use native.Mathlib.Nat.{le_refl}
use lib.Dec.{T, leb, leb→le}
use lib.IntN.{ℤ, pos, negsuc, nat_abs, ◌*ℤ◌}
use lib.Signed.{lt_z}
use borrow.Author.Tests.{ltb-true}
use native.Mathlib.Nat.{not-suc-le-zero}
use Rattle.rounding.specs.Format.{binary32, MAX}
use Rattle.unpacked.specs.declared.Number.{Number}
use Rattle.unpacked.specs.Number.{worth, Normal, IsNumber, Part, Holds, no_number}
use Rattle.unpacked.specs.Cuts.{beyond, limit_by, limited, limited_near}
use Rattle.unpacked.proofs.Packing.{exp_high, same_sign}
use Rattle.unpacked.proofs.Unpacking.{none_holds}

-- the largest number
abbrev pub largest : Number
largest = record { sig = pos 16777215; exp = 653 }

worth_largest : worth largest ≡ pos (MAX binary32)
unfolding worth MAX
worth_largest = refl

whole_largest : largest.sig *ℤ pos (2 ^ largest.exp) ≡ pos (MAX binary32) *ℤ pos (2 ^ 400)
unfolding MAX
whole_largest = refl

largest_holds : Holds (some (pos (MAX binary32))) largest
largest_holds = record {
  part = record {
    normal = record { whole = whole_largest ∙ ap (λ t. t *ℤ pos (2 ^ 400)) (sym worth_largest); few = omega arith; full = λ l. omega arith; low = λ n. absurd (no n) };
    high = omega arith;
  };
  is = (worth_largest, le_refl (MAX binary32));
}
  where
    no : ◌≡◌ {A = ℕ} 16777215 0 → ⊥
    no n = omega arith

small : (e : ℕ) → e ≤ 653 → e ≤ 2000
small e h = omega arith

pub number_part : {x : Number} → IsNumber x → Part x
number_part {x} p = record { normal = p.normal; high = small x.exp (exp_high x p) }

pub number_holds : {x : Number} → IsNumber x → Holds (some (worth x)) x
number_holds p = record { part = number_part p; is = (refl, p.within) }

module _ (x : Number) (n : Normal x) where
  abbrev fit : Bool
  fit = leb (nat_abs (worth x)) (MAX binary32)

  is_number : fit ≡ true → IsNumber x
  is_number e = record { normal = n; within = leb→le (nat_abs (worth x)) (MAX binary32) (subst T (sym e) tt) }

  pub limit_fits : fit ≡ true → Holds (limited (worth x)) x
  limit_fits e = subst (λ t. Holds (limit_by t (worth x)) x) (sym e) (number_holds (is_number e))

  pub limit_near_fits : fit ≡ true → Holds (limited_near (worth x)) x
  limit_near_fits e = subst (λ t. Holds (cond t (some (worth x)) none) x) (sym e) (number_holds (is_number e))

  pub limit_near_over : fit ≡ false → Holds (limited_near (worth x)) no_number
  limit_near_over e = subst (λ t. Holds (cond t (some (worth x)) none) no_number) (sym e) none_holds

  pub limit_below : fit ≡ false → lt_z x.sig (pos 0) ≡ true → Holds (limited (worth x)) no_number
  limit_below e b = subst (λ t. Holds (limit_by t (worth x)) no_number) (sym e) (go (worth x) (sym (same_sign x n) ∙ b))
    where
      go : (v : ℤ) → lt_z v (pos 0) ≡ true → Holds (beyond v) no_number
      go (pos a) t = absurd (not-suc-le-zero (ltb-true a 0 t))
      go (negsuc a) t = none_holds

  pub limit_above : fit ≡ false → lt_z x.sig (pos 0) ≡ false → Holds (limited (worth x)) largest
  limit_above e b = subst (λ t. Holds (limit_by t (worth x)) largest) (sym e) (go (worth x) (sym (same_sign x n) ∙ b))
    where
      go : (v : ℤ) → lt_z v (pos 0) ≡ false → Holds (beyond v) largest
      go (pos a) t = largest_holds
      go (negsuc a) t = absurd (subst T t tt)
