-- An order or an equation of integers, brought to the naturals for `omega`.
-- With x and y read as expressions over a list of atoms, y - x is a polynomial: its terms with a positive coefficient come to `Up`,
-- those with a negative one to `Dn`, each monomial v being pp v - nn v. So x ≼ y is `Dn ≤ Up`, linear in the monomials' parts.
use mathlib.Core.Path.{◌≡◌, refl, sym, ◌∙◌, ap, ap₂}
use mathlib.Core.List.{List, [], ◌∷◌}
use Prim.Native.Nat.{ℕ, zero, suc, ◌+◌, ◌*◌, ◌≤◌, ◌<◌}
use native.Mathlib.Omega.{arith}
use lib.IntN.{ℤ, pos, negsuc, neg_ℤ, nat_abs, ◌+ℤ◌, ◌*ℤ◌, ◌-ℤ◌, +ℤ_idl, +ℤ_idr, +ℤ_invr, zero-*ℤ}
use Rattle.algebra.specs.Order.{◌≼◌, ◌≺◌}
use Rattle.algebra.proofs.RingLaws.{mul_one}
use Rattle.algebra.proofs.Polynomial.{Poly, con, ◌▹◌, ev}
use Rattle.algebra.proofs.Reading.{Read₂, reading-terms, gap, gap_is, by_ring, sub_zero}
use Rattle.algebra.proofs.SignParts.{pp, nn, parts, le_parts, parts_le, lt_parts, parts_lt}

-- ---- monomials: 1, or an integer
pub data Mono : Type 0 where
  unit : Mono
  by : ℤ → Mono

abbrev pub times : Mono → ℤ → Mono
times unit x = by x
times (by v) x = by (v *ℤ x)

abbrev mval : Mono → ℤ
mval unit = pos 1
mval (by v) = v

times_is : (m : Mono) (x : ℤ) → mval (times m x) ≡ mval m *ℤ x
times_is unit x = by_ring (x ∷ []) (search reading-terms depth 9) tt
times_is (by v) x = refl

-- ---- what the coefficient k at the monomial m adds to each side
abbrev pub up_t : ℤ → Mono → ℕ → ℕ
up_t (pos zero) m u = u
up_t (pos (suc n)) unit u = suc n + u
up_t (pos (suc n)) (by v) u = suc n * pp v + u
up_t (negsuc n) unit u = u
up_t (negsuc n) (by v) u = suc n * nn v + u

abbrev pub dn_t : ℤ → Mono → ℕ → ℕ
dn_t (pos zero) m d = d
dn_t (pos (suc n)) unit d = d
dn_t (pos (suc n)) (by v) d = suc n * nn v + d
dn_t (negsuc n) unit d = suc n + d
dn_t (negsuc n) (by v) d = suc n * pp v + d

term_one : (c u d : ℕ) → pos (c + u) -ℤ pos d ≡ pos c *ℤ pos 1 +ℤ (pos u -ℤ pos d)
term_one c u d = by_ring (pos c ∷ pos u ∷ pos d ∷ []) (search reading-terms depth 20) tt

term_neg_one : (c u d : ℕ) → pos u -ℤ pos (c + d) ≡ neg_ℤ (pos c) *ℤ pos 1 +ℤ (pos u -ℤ pos d)
term_neg_one c u d = by_ring (pos c ∷ pos u ∷ pos d ∷ []) (search reading-terms depth 20) tt

term : (c p n u d : ℕ) → pos (c * p + u) -ℤ pos (c * n + d) ≡ pos c *ℤ (pos p -ℤ pos n) +ℤ (pos u -ℤ pos d)
term c p n u d = by_ring (pos c ∷ pos p ∷ pos n ∷ pos u ∷ pos d ∷ []) (search reading-terms depth 20) tt

term_neg : (c p n u d : ℕ) → pos (c * n + u) -ℤ pos (c * p + d) ≡ neg_ℤ (pos c) *ℤ (pos p -ℤ pos n) +ℤ (pos u -ℤ pos d)
term_neg c p n u d = by_ring (pos c ∷ pos p ∷ pos n ∷ pos u ∷ pos d ∷ []) (search reading-terms depth 20) tt

term_is : (k : ℤ) (m : Mono) (u d : ℕ) → pos (up_t k m u) -ℤ pos (dn_t k m d) ≡ k *ℤ mval m +ℤ (pos u -ℤ pos d)
term_is (pos zero) m u d = sym (ap (λ x. x +ℤ (pos u -ℤ pos d)) (zero-*ℤ (mval m)) ∙ +ℤ_idl (pos u -ℤ pos d))
term_is (pos (suc n)) unit u d = term_one (suc n) u d
term_is (pos (suc n)) (by v) u d = term (suc n) (pp v) (nn v) u d ∙ ap (λ x. pos (suc n) *ℤ x +ℤ (pos u -ℤ pos d)) (parts v)
term_is (negsuc n) unit u d = term_neg_one (suc n) u d
term_is (negsuc n) (by v) u d = term_neg (suc n) (pp v) (nn v) u d ∙ ap (λ x. negsuc n *ℤ x +ℤ (pos u -ℤ pos d)) (parts v)

abbrev pub up_p : Poly → List ℤ → Mono → ℕ → ℕ
up_p (con k) ρ m u = up_t k m u
up_p (p ▹ q) [] m u = up_p p [] m u
up_p (p ▹ q) (x ∷ ρ) m u = up_p p ρ m (up_p q (x ∷ ρ) (times m x) u)

abbrev pub dn_p : Poly → List ℤ → Mono → ℕ → ℕ
dn_p (con k) ρ m d = dn_t k m d
dn_p (p ▹ q) [] m d = dn_p p [] m d
dn_p (p ▹ q) (x ∷ ρ) m d = dn_p p ρ m (dn_p q (x ∷ ρ) (times m x) d)

regroup : (a b x m r : ℤ) → a *ℤ m +ℤ (b *ℤ (m *ℤ x) +ℤ r) ≡ (a +ℤ x *ℤ b) *ℤ m +ℤ r
regroup a b x m r = by_ring (a ∷ b ∷ x ∷ m ∷ r ∷ []) (search reading-terms depth 20) tt

no_atom : (a b m r : ℤ) → a *ℤ m +ℤ r ≡ (a +ℤ pos 0 *ℤ b) *ℤ m +ℤ r
no_atom a b m r = by_ring (a ∷ b ∷ m ∷ r ∷ []) (search reading-terms depth 20) tt

poly_is : (p : Poly) (ρ : List ℤ) (m : Mono) (u d : ℕ) → pos (up_p p ρ m u) -ℤ pos (dn_p p ρ m d) ≡ ev p ρ *ℤ mval m +ℤ (pos u -ℤ pos d)
poly_is (con k) ρ m u d = term_is k m u d
poly_is (p ▹ q) [] m u d = poly_is p [] m u d ∙ no_atom (ev p []) (ev q []) (mval m) (pos u -ℤ pos d)
poly_is (p ▹ q) (x ∷ ρ) m u d =
    poly_is p ρ m (up_p q (x ∷ ρ) (times m x) u) (dn_p q (x ∷ ρ) (times m x) d) ∙ ap (λ z. ev p ρ *ℤ mval m +ℤ z) (poly_is q (x ∷ ρ) (times m x) u d ∙ ap (λ z. ev q (x ∷ ρ) *ℤ z +ℤ (pos u -ℤ pos d)) (times_is m x)) ∙ regroup (ev p ρ) (ev q (x ∷ ρ)) x (mval m) (pos u -ℤ pos d)

-- ---- the two sides of x and y
abbrev pub Up : {ρ : List ℤ} {x y : ℤ} → Read₂ ρ x y → ℕ
Up {ρ} r = up_p (gap r) ρ unit 0

abbrev pub Dn : {ρ : List ℤ} {x y : ℤ} → Read₂ ρ x y → ℕ
Dn {ρ} r = dn_p (gap r) ρ unit 0

sides : {ρ : List ℤ} {x y : ℤ} (r : Read₂ ρ x y) → pos (Up r) -ℤ pos (Dn r) ≡ y -ℤ x
sides {ρ} {x} {y} r = poly_is (gap r) ρ unit 0 0 ∙ +ℤ_idr (ev (gap r) ρ *ℤ pos 1) ∙ mul_one (ev (gap r) ρ) ∙ gap_is r

cross : (a b c d e f : ℕ) → pos a -ℤ pos b ≡ (pos c -ℤ pos d) -ℤ (pos e -ℤ pos f) → c + f + b ≡ a + d + e
cross a b c d e f h = ap nat_abs (sub_zero (pos (c + f + b)) (pos (a + d + e)) (first ∙ ap (λ x. x -ℤ ((pos c -ℤ pos d) -ℤ (pos e -ℤ pos f))) h ∙ second))
  where
    first : pos (a + d + e) -ℤ pos (c + f + b) ≡ (pos a -ℤ pos b) -ℤ ((pos c -ℤ pos d) -ℤ (pos e -ℤ pos f))
    first = by_ring (pos a ∷ pos b ∷ pos c ∷ pos d ∷ pos e ∷ pos f ∷ []) (search reading-terms depth 20) tt

    second : ((pos c -ℤ pos d) -ℤ (pos e -ℤ pos f)) -ℤ ((pos c -ℤ pos d) -ℤ (pos e -ℤ pos f)) ≡ pos 0
    second = by_ring (pos a ∷ pos b ∷ pos c ∷ pos d ∷ pos e ∷ pos f ∷ []) (search reading-terms depth 20) tt

pub balance : {ρ : List ℤ} {x y : ℤ} (r : Read₂ ρ x y) → pp y + nn x + Dn r ≡ Up r + nn y + pp x
balance {ρ} {x} {y} r = cross (Up r) (Dn r) (pp y) (nn y) (pp x) (nn x) (sides r ∙ sym (ap₂ (λ a b. a -ℤ b) (parts y) (parts x)))

-- ---- the theorems: `nat_..` takes a fact of integers to the naturals, and `int_..` brings one back
step : (a b c d u v : ℕ) → a + b + v ≡ u + c + d → v ≤ u → d + c ≤ a + b
step a b c d u v e h = omega arith

back : (a b c d u v : ℕ) → a + b + v ≡ u + c + d → d + c ≤ a + b → v ≤ u
back a b c d u v e h = omega arith

step_lt : (a b c d u v : ℕ) → a + b + v ≡ u + c + d → v < u → d + c < a + b
step_lt a b c d u v e h = omega arith

back_lt : (a b c d u v : ℕ) → a + b + v ≡ u + c + d → d + c < a + b → v < u
back_lt a b c d u v e h = omega arith

pub nat_le : (ρ : List ℤ) {x y : ℤ} (r : Read₂ ρ x y) → x ≼ y → Dn r ≤ Up r
nat_le ρ {x} {y} r h = back (pp y) (nn x) (nn y) (pp x) (Up r) (Dn r) (balance r) (le_parts x y h)

pub int_le : (ρ : List ℤ) {x y : ℤ} (r : Read₂ ρ x y) → Dn r ≤ Up r → x ≼ y
int_le ρ {x} {y} r h = parts_le x y (step (pp y) (nn x) (nn y) (pp x) (Up r) (Dn r) (balance r) h)

pub nat_lt : (ρ : List ℤ) {x y : ℤ} (r : Read₂ ρ x y) → x ≺ y → Dn r < Up r
nat_lt ρ {x} {y} r h = back_lt (pp y) (nn x) (nn y) (pp x) (Up r) (Dn r) (balance r) (lt_parts x y h)

pub int_lt : (ρ : List ℤ) {x y : ℤ} (r : Read₂ ρ x y) → Dn r < Up r → x ≺ y
int_lt ρ {x} {y} r h = parts_lt x y (step_lt (pp y) (nn x) (nn y) (pp x) (Up r) (Dn r) (balance r) h)

same : (u v : ℕ) → u ≡ v → pos u -ℤ pos v ≡ pos 0
same u v e = ap (λ (w : ℕ). pos w -ℤ pos v) e ∙ +ℤ_invr (pos v)

pub int_eq : (ρ : List ℤ) {x y : ℤ} (r : Read₂ ρ x y) → Dn r ≡ Up r → x ≡ y
int_eq ρ {x} {y} r h = sub_zero x y (sym (sides r) ∙ same (Up r) (Dn r) (sym h))

pub nat_eq : (ρ : List ℤ) {x y : ℤ} (r : Read₂ ρ x y) → x ≡ y → Dn r ≡ Up r
nat_eq ρ {x} {y} r h = even (pp y) (nn y) (pp x) (nn x) (Up r) (Dn r) (balance r) (ap pp h) (ap nn h)
  where
    even : (a b c d u v : ℕ) → a + d + v ≡ u + b + c → c ≡ a → d ≡ b → v ≡ u
    even a b c d u v e f g = omega arith
