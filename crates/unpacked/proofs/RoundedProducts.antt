-- Exact products rounded down, up and to nearest: what they are like, with the other sign, and of what two patterns hold.
use mathlib.Core.Path.{◌≡◌, refl, sym, ap, ◌∙◌, subst}
use mathlib.Core.Bool.{Bool, true, false, cond}
use mathlib.Core.Logic.{⊎_elim}
use mathlib.Core.Option.{Option, none, some, bind}
use Prim.Native.Nat.{ℕ, ◌^◌, ◌≤◌, ◌<◌}
use native.Mathlib.Omega.{arith}
use native.Mathlib.Nat.{eq-zero-or-pos, not-le_of_lt}
use lib.IntN.{ℤ, neg_ℤ, nat_abs, ◌*ℤ◌}
use Rattle.rounding.specs.Format.{binary32}
use Rattle.rounding.specs.Rounding.{up, down, near, negate}
use Rattle.rounding.proofs.Sign.{nat_abs_neg}
use Rattle.binary32.specs.Number.{value_of, finite, finites, held}
use Rattle.binary32.specs.Operations.{mul, with₂}
use Rattle.binary32.proofs.Held.{with_some}
use Rattle.unpacked.specs.declared.Number.{Number}
use Rattle.unpacked.specs.declared.Product.{Product}
use Rattle.unpacked.specs.Number.{Holds}
use Rattle.unpacked.specs.Exact.{Exact, Exactly, Formed, RoundedDown, RoundedUp, RoundedNear, Turned}
use Rattle.unpacked.proofs.Multiplying.{turned_exact}
use Rattle.unpacked.proofs.CornerRounding.{mirror}

pub exact_formed : {X : ℤ} {p : Product} → Exact X p → Formed p
exact_formed {X} {p} i = record { few = i.few; full = λ l h. i.full (⊎_elim (λ e. absurd (no (i.none e) l)) (λ k. k) (eq-zero-or-pos (nat_abs p.sig))) }
  where
    no : p.exp < 752 → 926 ≤ p.exp → ⊥
    no l k = omega arith

-- ---- the other sign
pub turned_formed : {p q : Product} → Formed p → Turned p q → Formed q
turned_formed {p} {q} f t = record {
  few = subst (λ n. n ≤ 2 ^ 48) (sym size) f.few;
  full = λ l h. subst (λ n. 2 ^ 47 ≤ n) (sym size) (f.full (subst (λ n. 926 ≤ n) t.exps l) (subst (λ n. n ≤ 1307) t.exps h));
}
  where
    size : nat_abs q.sig ≡ nat_abs p.sig
    size = ap nat_abs t.sigs ∙ nat_abs_neg p.sig

pub rounded_turned : {p q : Product} {r : Number} → Turned p q → RoundedDown q r → RoundedUp p r
rounded_turned {p} {q} {r} t d = record {
  number = λ X i. subst (λ m. Holds m r) (sym (mirror binary32 (2 ^ 149) X)) (d.number (neg_ℤ X) (turned_exact i t));
  none = λ l. d.none (subst (λ n. 1307 < n) (sym t.exps) l);
}

-- ---- of what two patterns hold
with_none : (op : ℤ → ℤ → Option ℤ) (a b : ℕ) → finites a b ≡ false → with₂ op a b ≡ none
unfolding with₂ held bind
with_none op a b h = go (finite a) (finite b) h
  where
    go : (s t : Bool) → cond s t false ≡ false → bind (cond s (some (value_of a)) none) (λ x. bind (cond t (some (value_of b)) none) λ y. op x y) ≡ none
    go true true e = absurd (subst (λ u. cond u (Unit {0}) ⊥) e tt)
    go true false e = refl
    go false t e = refl

module _ {a b : ℕ} {p : Product} (i : Exactly a b p) where
  pub exactly_formed : Formed p
  exactly_formed = go (finites a b) refl
    where
      go : (t : Bool) → finites a b ≡ t → Formed p
      go true e = exact_formed (i.numbers e)
      go false e = record { few = i.few; full = λ l h. absurd (not-le_of_lt (i.none e) h) }

  -- any result that is right for numbers and for none
  either : (op : ℤ → ℤ → Option ℤ) (way : Option ℤ → Option ℤ) {r : Number} → way none ≡ none
      → (Exact (value_of a *ℤ value_of b) p → Holds (way (op (value_of a) (value_of b))) r) → (1307 < p.exp → Holds none r)
      → Holds (way (with₂ op a b)) r
  either op way {r} w number none' = go (finites a b) refl
    where
      go : (t : Bool) → finites a b ≡ t → Holds (way (with₂ op a b)) r
      go true e = subst (λ m. Holds (way m) r) (sym (with_some op a b e)) (number (i.numbers e))
      go false e = subst (λ m. Holds m r) (sym (ap way (with_none op a b e) ∙ w)) (none' (i.none e))

  pub down_exactly : {r : Number} → RoundedDown p r → Holds (with₂ (mul down) a b) r
  down_exactly {r} d = either (mul down) (λ m. m) refl (d.number (value_of a *ℤ value_of b)) d.none

  pub up_exactly : {r : Number} → RoundedUp p r → Holds (negate (with₂ (mul up) a b)) r
  up_exactly {r} d = either (mul up) negate refl (d.number (value_of a *ℤ value_of b)) d.none

  pub near_exactly : {r : Number} → RoundedNear p r → Holds (with₂ (mul near) a b) r
  near_exactly {r} d = either (mul near) (λ m. m) refl (d.number (value_of a *ℤ value_of b)) d.none
