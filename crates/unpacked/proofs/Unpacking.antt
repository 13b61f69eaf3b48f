-- Patterns taken apart: what `unpack` finds is worth what the pattern holds.
use mathlib.Core.Path.{◌≡◌, refl, sym, ap, ◌∙◌, subst}
use mathlib.Core.List.{[], ◌∷◌}
use mathlib.Core.Option.{none, some}
use Prim.Native.Nat.{ℕ, ◌+◌, ◌-◌, ◌*◌, ◌/◌, ◌%◌, ◌^◌, ◌≤◌, ◌<◌}
use native.Mathlib.Omega.{arith}
use native.Mathlib.Nat.{mod-eq_of_lt}
use lib.Pow.{pow-add}
use lib.Dec.{leb}
use lib.IntN.{ℤ, pos, negsuc, neg_ℤ, nat_abs, ◌*ℤ◌}
use lib.Signed.{lt_z_yes}
use borrow.Author.Tests.{le-ltb}
use Rattle.algebra.specs.Order.{◌≺◌}
use Rattle.algebra.proofs.Linear.{reading, lin_eq}
use Rattle.rounding.specs.Format.{binary32, MAX}
use Rattle.binary32.specs.Number.{signed_by, value_of, Finite}
use Rattle.binary32.specs.Steps.{of, Decoded}
use Rattle.binary32.proofs.Values.{decoded_low, decoded_high, signed_abs}
use Rattle.binary32.proofs.Held.{held_finite, held_none, is_finite, value_num}
use Rattle.unpacked.specs.declared.Number.{Number}
use Rattle.unpacked.specs.Number.{worth, Normal, Part, Holds, Unpacked, no_number}
use Rattle.unpacked.proofs.Worths.{worth_is}

unpacked_of : (p : ℕ) (r : Number) → Finite p → Part r → worth r ≡ value_of p → Unpacked p r
unpacked_of p r f q w = subst (λ m. Holds m r) (sym (held_finite p (is_finite p f))) (record { part = q; is = (w, (value_num p f).within) })

-- ---- a normal number: exponent field 1 to 254
module _ (p : ℕ) (z : ℤ) where
  abbrev field : ℕ
  field = p % 2 ^ 31 / 2 ^ 23

  abbrev fraction : ℕ
  fraction = p % 2 ^ 31 % 2 ^ 23

  pub unpacked_normal : 1 ≤ field → field < 255 → z ≡ signed_by (leb (2 ^ 31) p) (fraction + 2 ^ 23) → Unpacked p (record { sig = z; exp = field + 399 })
  unfolding of
  unpacked_normal low top e = unpacked_of p (record { sig = z; exp = field + 399 }) fin (record {
    normal = record {
      whole = value ∙ ap (λ t. t *ℤ pos (2 ^ 400)) (sym w);
      few = omega (arith, size);
      full = λ l. omega (arith, size);
      low = λ n. absurd (no n size);
    };
    high = omega arith;
  }) w
    where
      fin : Finite p
      fin = omega arith

      some : field ≡ 0 → ⊥
      some h = omega arith

      size : nat_abs z ≡ fraction + 2 ^ 23
      size = ap nat_abs e ∙ signed_abs (leb (2 ^ 31) p) (fraction + 2 ^ 23)

      no : nat_abs z ≡ 0 → nat_abs z ≡ fraction + 2 ^ 23 → ⊥
      no n s = omega arith

      d : Decoded p (record { sig = z; exp = field - 1 })
      d = decoded_high p z fin some e

      places : field + 399 ≡ field - 1 + 400
      places = omega arith

      turn : (a b : ℕ) → z *ℤ pos (a * b) ≡ z *ℤ pos a *ℤ pos b
      turn a b = lin_eq (z ∷ pos a ∷ pos b ∷ []) [] (search reading depth 20) (omega arith)

      value : z *ℤ pos (2 ^ (field + 399)) ≡ value_of p *ℤ pos (2 ^ 400)
      value =
          ap (λ n. z *ℤ pos (2 ^ n)) places ∙ ap (λ n. z *ℤ pos n) (pow-add 2 (field - 1) 400) ∙ turn (2 ^ (field - 1)) (2 ^ 400)
          ∙ ap (λ t. t *ℤ pos (2 ^ 400)) d.value

      w : worth (record { sig = z; exp = field + 399 }) ≡ value_of p
      w = worth_is (record { sig = z; exp = field + 399 }) (value_of p) value

  -- ---- zero or a subnormal number: whole units
  pub unpacked_low : (r : Number) → p % 2 ^ 31 < 2 ^ 23 → z ≡ signed_by (leb (2 ^ 31) p) (p % 2 ^ 31) → Holds (some z) r → Unpacked p r
  unfolding of
  unpacked_low r low e = subst (λ m. Holds m r) (ap some value ∙ sym (held_finite p (is_finite p (omega arith))))
    where
      none_field : field ≡ 0
      none_field = omega arith

      one : (z : ℤ) → z *ℤ pos 1 ≡ z
      one z = lin_eq (z ∷ []) [] (search reading depth 20) (omega arith)

      value : z ≡ value_of p
      value = sym (one z) ∙ (decoded_low p z none_field (e ∙ ap (signed_by (leb (2 ^ 31) p)) (sym (mod-eq_of_lt low)))).value

-- ---- none: far below all numbers
worth_none : worth no_number ≡ negsuc (2 ^ 1623 - 1)
unfolding worth
worth_none = refl

far_below : worth no_number ≺ neg_ℤ (pos (3 * MAX binary32))
unfolding worth MAX
far_below = lt_z_yes tt

none_normal : Normal no_number
none_normal = record { whole = sym (ap (λ t. t *ℤ pos (2 ^ 400)) worth_none); few = omega arith; full = λ l. omega arith; low = λ n. absurd (no n) }
  where
    no : ◌≡◌ {A = ℕ} 8388608 0 → ⊥
    no n = omega arith

pub none_holds : Holds none no_number
none_holds = record { part = record { normal = none_normal; high = omega arith }; is = (far_below, omega arith) }

pub unpacked_none : (p : ℕ) → 255 * 2 ^ 23 ≤ p % 2 ^ 31 → Unpacked p no_number
unpacked_none p h = subst (λ m. Holds m no_number) (sym (held_none p (le-ltb (p % 2 ^ 31) (255 * 2 ^ 23) h))) none_holds
