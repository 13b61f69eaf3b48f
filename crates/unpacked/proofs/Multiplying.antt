-- Products of what patterns hold: the product of two numbers taken apart is exact, 24 of its 48 digits are its rounding, and it turns its sign with its significand.
use mathlib.Core.Path.{◌≡◌, refl, sym, ap, ap₂, ◌∙◌, subst}
use mathlib.Core.Bool.{Bool, true, false, cond}
use mathlib.Core.List.{[], ◌∷◌}
use mathlib.Core.Logic.{◌⊎◌, inl, inr, ⊎_elim}
use mathlib.Core.Option.{some}
use Prim.Native.Nat.{ℕ, ◌+◌, ◌-◌, ◌*◌, ◌^◌, ◌≤◌, ◌<◌}
use native.Mathlib.Omega.{arith}
use lib.Pow.{pow_pos, pow-add}
use lib.IntN.{ℤ, pos, neg_ℤ, nat_abs, ◌*ℤ◌}
use lib.Ieee.Nearest.{closest}
use lib.Signed.{shr_z}
use Rattle.algebra.proofs.Floor.{floor_low, floor_high}
use Rattle.algebra.proofs.Linear.{reading, eq, lin_eq}
use Rattle.rounding.specs.Format.{binary32, MAX}
use Rattle.rounding.specs.Rounding.{down, near, signed}
use Rattle.rounding.proofs.NearestLaws.{near_scale}
use Rattle.rounding.proofs.Sign.{nat_abs_neg}
use Rattle.binary32.specs.Number.{value_of, finite, finites}
use Rattle.binary32.proofs.Held.{held_finite, held_none, finites_first, finites_second}
use Rattle.unpacked.specs.declared.Number.{Number}
use Rattle.unpacked.specs.declared.Product.{Product}
use Rattle.unpacked.specs.Number.{worth, Normal, IsNumber, Holds, Unpacked}
use Rattle.unpacked.specs.Cuts.{limited, limited_near}
use Rattle.unpacked.specs.Exact.{Exact, ProductIs, Exactly, Formed, Shortened, ShortenedNear, Turned}
use Rattle.unpacked.proofs.Floors.{Full}
use Rattle.unpacked.proofs.Worths.{exp_low, fits_below}
use Rattle.unpacked.proofs.ExactProducts.{exact_worths}
use Rattle.unpacked.proofs.Shortening.{cut_few, cut_long, cut_kind, over_low, over_high, over_exact, down_limited, kept_worth, kept_normal}
use Rattle.unpacked.proofs.Limits.{limit_fits, limit_near_fits}
use Rattle.unpacked.proofs.Quotients.{nearest_few, nearest_long, signed_times, signed_abs}
use Rattle.unpacked.proofs.Nearing.{near_wide}

-- ---- of what two patterns hold
pub held_number : (v : ℤ) (x : Number) → Holds (some v) x → IsNumber x × (worth x ≡ v)
held_number v x h = (record { normal = h.part.normal; within = subst (λ t. nat_abs t ≤ MAX binary32) (sym h.is.0) h.is.1 }, h.is.0)

pub unpacked_number : (p : ℕ) (x : Number) → finite p ≡ true → Unpacked p x → IsNumber x × (worth x ≡ value_of p)
unpacked_number p x t u = held_number (value_of p) x (subst (λ m. Holds m x) (held_finite p t) u)

unpacked_high : (p : ℕ) (x : Number) → finite p ≡ false → Unpacked p x → 1500 ≤ x.exp
unpacked_high p x t u = (subst (λ m. Holds m x) (held_none p t) u).is.1

high_sum : (a b p : ℕ) → 1500 ≤ a → 64 ≤ b → a + b ≤ p → 1307 < p
high_sum a b p h k l = omega arith

high_sum_2 : (a b p : ℕ) → 64 ≤ a → 1500 ≤ b → a + b ≤ p → 1307 < p
high_sum_2 a b p h k l = omega arith

pub exactly_of : (a b : ℕ) (x y : Number) (p : Product) → Unpacked a x → Unpacked b y → ProductIs x y p → Exactly a b p
exactly_of a b x y p ux uy i = record { few = i.few; numbers = numbers; none = λ h. high (finite a) (finite b) refl refl h }
  where
    numbers : finites a b ≡ true → Exact (value_of a *ℤ value_of b) p
    numbers h =
        let nx = unpacked_number a x (finites_first a b h) ux in
        let ny = unpacked_number b y (finites_second a b h) uy in
        subst (λ v. Exact v p) (ap₂ ◌*ℤ◌ nx.1 ny.1) (exact_worths x y p nx.0 ny.0 i)

    high : (s t : Bool) → finite a ≡ s → finite b ≡ t → cond s t false ≡ false → 1307 < p.exp
    high true true e f h = absurd (subst (λ u. cond u (Unit {0}) ⊥) h tt)
    high true false e f h = high_sum_2 x.exp y.exp p.exp (exp_low x ux.part.normal) (unpacked_high b y f uy) i.low
    high false t e f h = high_sum x.exp y.exp p.exp (unpacked_high a x e ux) (exp_low y uy.part.normal) i.low

places_24 : (e : ℕ) → 926 ≤ e → 24 + e ≡ e - 926 + 950
places_24 e h = omega arith

-- ---- the first 24 digits, rounded down, of a product that is not small
module _ {p : Product} {r : Number} (f : Formed p) (l : 926 ≤ p.exp) (h : p.exp ≤ 1307) (s : Shortened p r) where
  abbrev c : ℤ
  c = shr_z p.sig (2 ^ 24)

  abbrev j : ℕ
  j = p.exp - 926

  full : 2 ^ 47 ≤ nat_abs p.sig
  full = f.full l h

  few : nat_abs c ≤ 2 ^ 24
  few = cut_few p.sig f.few full

  r_few : nat_abs r.sig ≤ 2 ^ 24
  r_few = subst (λ t. nat_abs t ≤ 2 ^ 24) (sym s.sigs) few

  r_long : 2 ^ 23 ≤ nat_abs r.sig
  r_long = subst (λ t. 2 ^ 23 ≤ nat_abs t) (sym s.sigs) (cut_long p.sig f.few full)

  r_is : r.sig *ℤ pos (2 ^ j) ≡ c *ℤ pos (2 ^ j)
  r_is = ap (λ t. t *ℤ pos (2 ^ j)) s.sigs

  pub shortened_normal : Normal r
  shortened_normal = kept_normal r p.exp (c *ℤ pos (2 ^ j)) s.exps l r_few r_long r_is

  places : 2 ^ p.exp * 2 ^ 24 ≡ 2 ^ j * 2 ^ 149 * 2 ^ 801
  places = sym (pow-add 2 p.exp 24) ∙ ap (λ n. 2 ^ n) (sum p.exp l) ∙ pow-add 2 (j + 149) 801 ∙ ap (λ n. n * 2 ^ 801) (pow-add 2 j 149)
    where
      sum : (e : ℕ) → 926 ≤ e → e + 24 ≡ e - 926 + 149 + 801
      sum e h = omega arith

  module _ {X : ℤ} (i : Exact X p) where
    kind : Full c ⊎ (c *ℤ pos (2 ^ j) *ℤ pos (2 ^ 149) ≡ X)
    kind = ⊎_elim inl (λ e. inr (over_exact X p.sig c (2 ^ p.exp) (2 ^ 801) (2 ^ j) (2 ^ 149) (pow_pos 801) (pow_pos p.exp) i.value places e)) (cut_kind p.sig f.few full)

    found : down binary32 (2 ^ 149) X ≡ limited (worth r)
    found =
        down_limited X c (2 ^ 149) j (pow_pos 149)
        (over_low X p.sig c (2 ^ p.exp) (2 ^ 801) (2 ^ j) (2 ^ 149) (pow_pos 801) (pow_pos p.exp) i.value places (floor_low p.sig (2 ^ 24) (pow_pos 24)))
        (over_high X p.sig c (2 ^ p.exp) (2 ^ 801) (2 ^ j) (2 ^ 149) (pow_pos 801) (pow_pos p.exp) i.value places (floor_high p.sig (2 ^ 24) (pow_pos 24)))
        kind few
        ∙ ap limited (sym (kept_worth r p.exp (c *ℤ pos (2 ^ j)) s.exps l r_few r_long r_is))

    pub limit_holds : {q : Number} → Holds (limited (worth r)) q → Holds (down binary32 (2 ^ 149) X) q
    limit_holds {q} = subst (λ m. Holds m q) (sym found)

    -- a usual one is a number
    pub shortened_holds : p.exp < 1179 → Holds (down binary32 (2 ^ 149) X) r
    shortened_holds u = limit_holds (limit_fits r shortened_normal (sym (fits_below r shortened_normal (omega (arith, s.exps)))))

-- ---- and to nearest
near_product : (X : ℤ) → near binary32 (2 ^ 950) (X *ℤ pos (2 ^ 801)) ≡ near binary32 (2 ^ 149) X
near_product X = ap (near binary32 (2 ^ 950)) (turn (2 ^ 801)) ∙ near_scale binary32 (2 ^ 801) (2 ^ 149) (pow_pos 801) (pow_pos 149) X
  where
    turn : (a : ℕ) → X *ℤ pos a ≡ pos a *ℤ X
    turn a = lin_eq (X ∷ pos a ∷ []) [] (search reading depth 20) (omega arith)

pub near_exact_product : {X : ℤ} {p : Product} → Exact X p → near binary32 (2 ^ 149) X ≡ near binary32 (2 ^ 950) (p.sig *ℤ pos (2 ^ p.exp))
near_exact_product {X} i = sym (near_product X) ∙ ap (near binary32 (2 ^ 950)) (sym i.value)

module _ {p : Product} {r : Number} (f : Formed p) (l : 926 ≤ p.exp) (h : p.exp ≤ 1307) (s : ShortenedNear p r) where
  abbrev near_c : ℕ
  near_c = closest (nat_abs p.sig) (2 ^ 24)

  abbrev near_j : ℕ
  near_j = p.exp - 926

  abbrev near_v : ℤ
  near_v = signed p.sig (near_c * 2 ^ near_j)

  sig_abs : nat_abs r.sig ≡ near_c
  sig_abs = ap nat_abs s.sigs ∙ signed_abs p.sig near_c

  near_few : nat_abs r.sig ≤ 2 ^ 24
  near_few = subst (λ t. t ≤ 2 ^ 24) (sym sig_abs) (nearest_few (nat_abs p.sig) (2 ^ 24) (pow_pos 24) f.few)

  near_long : 2 ^ 23 ≤ nat_abs r.sig
  near_long = subst (λ t. 2 ^ 23 ≤ t) (sym sig_abs) (nearest_long (nat_abs p.sig) (2 ^ 24) (pow_pos 24) (f.full l h))

  near_is : r.sig *ℤ pos (2 ^ near_j) ≡ near_v
  near_is = ap (λ t. t *ℤ pos (2 ^ near_j)) s.sigs ∙ signed_times p.sig near_c (2 ^ near_j)

  pub shortened_near_normal : Normal r
  shortened_near_normal = kept_normal r p.exp near_v s.exps l near_few near_long near_is

  module _ {X : ℤ} (i : Exact X p) where
    near_found : near binary32 (2 ^ 149) X ≡ limited_near (worth r)
    near_found =
        near_exact_product i ∙ near_wide 24 950 p.sig p.exp near_j (f.full l h) f.few (places_24 p.exp l)
        ∙ ap limited_near (sym (kept_worth r p.exp near_v s.exps l near_few near_long near_is))

    pub limit_near_holds : {q : Number} → Holds (limited_near (worth r)) q → Holds (near binary32 (2 ^ 149) X) q
    limit_near_holds {q} = subst (λ m. Holds m q) (sym near_found)

    -- a usual one is a number
    pub shortened_near_holds : p.exp < 1179 → Holds (near binary32 (2 ^ 149) X) r
    shortened_near_holds u = limit_near_holds (limit_near_fits r shortened_near_normal (sym (fits_below r shortened_near_normal (omega (arith, s.exps)))))

-- ---- the other sign
pub turned_exact : {X : ℤ} {p r : Product} → Exact X p → Turned p r → Exact (neg_ℤ X) r
turned_exact {X} {p} {r} i t = record {
  value = ap₂ (λ s n. s *ℤ pos (2 ^ n)) t.sigs t.exps ∙ turn p.sig X (2 ^ p.exp) (2 ^ 801) i.value;
  few = subst (λ n. n ≤ 2 ^ 48) (sym size) i.few;
  full = λ l. subst (λ n. 2 ^ 47 ≤ n) (sym size) (i.full (subst (λ n. 0 < n) size l));
  some = λ l. subst (λ n. 752 ≤ n) (sym t.exps) (i.some (subst (λ n. 0 < n) size l));
  none = λ e. subst (λ n. n < 752) (sym t.exps) (i.none (sym size ∙ e));
  high = subst (λ n. n ≤ 1307) (sym t.exps) i.high;
}
  where
    size : nat_abs r.sig ≡ nat_abs p.sig
    size = ap nat_abs t.sigs ∙ nat_abs_neg p.sig

    turn : (s v : ℤ) (m K : ℕ) → s *ℤ pos m ≡ v *ℤ pos K → neg_ℤ s *ℤ pos m ≡ neg_ℤ v *ℤ pos K
    turn s v m K h = lin_eq (s ∷ v ∷ pos m ∷ pos K ∷ []) (eq h ∷ []) (search reading depth 20) (omega arith)
