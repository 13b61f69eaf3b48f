-- Reading an integer term back into an expression, for `search reading-terms depth n`, and `by_ring`, which proves an identity of two terms so read.
use mathlib.Core.Path.{◌≡◌, refl, sym, ◌∙◌, ap, ap₂}
use mathlib.Core.List.{List, ◌∷◌}
use Prim.Native.Nat.{ℕ, suc, ◌+◌, ◌*◌}
use lib.Dec.{T, leb}
use lib.IntN.{ℤ, pos, negsuc, neg_ℤ, ◌+ℤ◌, ◌*ℤ◌, ◌-ℤ◌, +ℤ_one, neg_ℤ-neg_ℤ}
use Rattle.algebra.proofs.RingLaws.{neg_unique}
use Rattle.algebra.proofs.Polynomial.{Expr, var, lit, ◌⊕◌, ◌⊗◌, ⊝◌, den, Poly, ev, norm, norm_sound, nil?, nil_is}

-- ρ lists the atoms. Each node of the term is one lemma of the set; an atom is found by its place in ρ.
pub record Read (ρ : List ℤ) (x : ℤ) : Type 0 where
  pub expr : Expr
  pub is : den expr ρ ≡ x

abbrev pub read_add : {ρ : List ℤ} (x y : ℤ) → Read ρ x → Read ρ y → Read ρ (x +ℤ y)
read_add x y p q = record { expr = p.expr ⊕ q.expr; is = ap₂ ◌+ℤ◌ p.is q.is }

abbrev pub read_mul : {ρ : List ℤ} (x y : ℤ) → Read ρ x → Read ρ y → Read ρ (x *ℤ y)
read_mul x y p q = record { expr = p.expr ⊗ q.expr; is = ap₂ ◌*ℤ◌ p.is q.is }

abbrev pub read_neg : {ρ : List ℤ} (x : ℤ) → Read ρ x → Read ρ (neg_ℤ x)
read_neg x p = record { expr = ⊝ p.expr; is = ap neg_ℤ p.is }

-- a sum and a product of naturals under `pos`, which is what `pos m +ℤ pos n` and `pos m *ℤ pos n` compute to
abbrev pub read_pos_add : {ρ : List ℤ} (m n : ℕ) → Read ρ (pos m) → Read ρ (pos n) → Read ρ (pos (m + n))
read_pos_add m n p q = record { expr = p.expr ⊕ q.expr; is = ap₂ ◌+ℤ◌ p.is q.is }

abbrev pub read_pos_mul : {ρ : List ℤ} (m n : ℕ) → Read ρ (pos m) → Read ρ (pos n) → Read ρ (pos (m * n))
read_pos_mul m n p q = record { expr = p.expr ⊗ q.expr; is = ap₂ ◌*ℤ◌ p.is q.is }

-- a literal: the test computes at a numeral alone, and `passed` is then its proof
abbrev pub read_pos : {ρ : List ℤ} (n : ℕ) → T (leb 0 n) → Read ρ (pos n)
read_pos n t = record { expr = lit (pos n); is = refl }

abbrev pub passed : Unit {0}
passed = tt

abbrev pub read_pos_suc : {ρ : List ℤ} (n : ℕ) → Read ρ (pos n) → Read ρ (pos (suc n))
read_pos_suc n p = record { expr = p.expr ⊕ lit (pos 1); is = ap (λ x. x +ℤ pos 1) p.is ∙ +ℤ_one (pos n) }

abbrev pub read_negsuc : {ρ : List ℤ} (n : ℕ) → Read ρ (pos (suc n)) → Read ρ (negsuc n)
read_negsuc n p = record { expr = ⊝ p.expr; is = ap neg_ℤ p.is }

abbrev pub at0 : {x : ℤ} {ρ : List ℤ} → Read (x ∷ ρ) x
at0 = record { expr = var 0; is = refl }

abbrev pub at1 : {y0 : ℤ} {x : ℤ} {ρ : List ℤ} → Read (y0 ∷ x ∷ ρ) x
at1 = record { expr = var 1; is = refl }

abbrev pub at2 : {y0 y1 : ℤ} {x : ℤ} {ρ : List ℤ} → Read (y0 ∷ y1 ∷ x ∷ ρ) x
at2 = record { expr = var 2; is = refl }

abbrev pub at3 : {y0 y1 y2 : ℤ} {x : ℤ} {ρ : List ℤ} → Read (y0 ∷ y1 ∷ y2 ∷ x ∷ ρ) x
at3 = record { expr = var 3; is = refl }

abbrev pub at4 : {y0 y1 y2 y3 : ℤ} {x : ℤ} {ρ : List ℤ} → Read (y0 ∷ y1 ∷ y2 ∷ y3 ∷ x ∷ ρ) x
at4 = record { expr = var 4; is = refl }

abbrev pub at5 : {y0 y1 y2 y3 y4 : ℤ} {x : ℤ} {ρ : List ℤ} → Read (y0 ∷ y1 ∷ y2 ∷ y3 ∷ y4 ∷ x ∷ ρ) x
at5 = record { expr = var 5; is = refl }

abbrev pub at6 : {y0 y1 y2 y3 y4 y5 : ℤ} {x : ℤ} {ρ : List ℤ} → Read (y0 ∷ y1 ∷ y2 ∷ y3 ∷ y4 ∷ y5 ∷ x ∷ ρ) x
at6 = record { expr = var 6; is = refl }

abbrev pub at7 : {y0 y1 y2 y3 y4 y5 y6 : ℤ} {x : ℤ} {ρ : List ℤ} → Read (y0 ∷ y1 ∷ y2 ∷ y3 ∷ y4 ∷ y5 ∷ y6 ∷ x ∷ ρ) x
at7 = record { expr = var 7; is = refl }

abbrev pub at8 : {y0 y1 y2 y3 y4 y5 y6 y7 : ℤ} {x : ℤ} {ρ : List ℤ} → Read (y0 ∷ y1 ∷ y2 ∷ y3 ∷ y4 ∷ y5 ∷ y6 ∷ y7 ∷ x ∷ ρ) x
at8 = record { expr = var 8; is = refl }

abbrev pub at9 : {y0 y1 y2 y3 y4 y5 y6 y7 y8 : ℤ} {x : ℤ} {ρ : List ℤ} → Read (y0 ∷ y1 ∷ y2 ∷ y3 ∷ y4 ∷ y5 ∷ y6 ∷ y7 ∷ y8 ∷ x ∷ ρ) x
at9 = record { expr = var 9; is = refl }

abbrev pub at10 : {y0 y1 y2 y3 y4 y5 y6 y7 y8 y9 : ℤ} {x : ℤ} {ρ : List ℤ} → Read (y0 ∷ y1 ∷ y2 ∷ y3 ∷ y4 ∷ y5 ∷ y6 ∷ y7 ∷ y8 ∷ y9 ∷ x ∷ ρ) x
at10 = record { expr = var 10; is = refl }

abbrev pub at11 : {y0 y1 y2 y3 y4 y5 y6 y7 y8 y9 y10 : ℤ} {x : ℤ} {ρ : List ℤ} → Read (y0 ∷ y1 ∷ y2 ∷ y3 ∷ y4 ∷ y5 ∷ y6 ∷ y7 ∷ y8 ∷ y9 ∷ y10 ∷ x ∷ ρ) x
at11 = record { expr = var 11; is = refl }

abbrev pub at12 : {y0 y1 y2 y3 y4 y5 y6 y7 y8 y9 y10 y11 : ℤ} {x : ℤ} {ρ : List ℤ} → Read (y0 ∷ y1 ∷ y2 ∷ y3 ∷ y4 ∷ y5 ∷ y6 ∷ y7 ∷ y8 ∷ y9 ∷ y10 ∷ y11 ∷ x ∷ ρ) x
at12 = record { expr = var 12; is = refl }

abbrev pub at13 : {y0 y1 y2 y3 y4 y5 y6 y7 y8 y9 y10 y11 y12 : ℤ} {x : ℤ} {ρ : List ℤ} → Read (y0 ∷ y1 ∷ y2 ∷ y3 ∷ y4 ∷ y5 ∷ y6 ∷ y7 ∷ y8 ∷ y9 ∷ y10 ∷ y11 ∷ y12 ∷ x ∷ ρ) x
at13 = record { expr = var 13; is = refl }

abbrev pub at14 : {y0 y1 y2 y3 y4 y5 y6 y7 y8 y9 y10 y11 y12 y13 : ℤ} {x : ℤ} {ρ : List ℤ} → Read (y0 ∷ y1 ∷ y2 ∷ y3 ∷ y4 ∷ y5 ∷ y6 ∷ y7 ∷ y8 ∷ y9 ∷ y10 ∷ y11 ∷ y12 ∷ y13 ∷ x ∷ ρ) x
at14 = record { expr = var 14; is = refl }

abbrev pub at15 : {y0 y1 y2 y3 y4 y5 y6 y7 y8 y9 y10 y11 y12 y13 y14 : ℤ} {x : ℤ} {ρ : List ℤ} → Read (y0 ∷ y1 ∷ y2 ∷ y3 ∷ y4 ∷ y5 ∷ y6 ∷ y7 ∷ y8 ∷ y9 ∷ y10 ∷ y11 ∷ y12 ∷ y13 ∷ y14 ∷ x ∷ ρ) x
at15 = record { expr = var 15; is = refl }

-- two terms at once
pub record Read₂ (ρ : List ℤ) (x y : ℤ) : Type 0 where
  pub lhs : Read ρ x
  pub rhs : Read ρ y

abbrev pub read_both : {ρ : List ℤ} {x y : ℤ} → Read ρ x → Read ρ y → Read₂ ρ x y
read_both p q = record { lhs = p; rhs = q }

-- one lemma for each node of a term, and for each of the first sixteen atoms
pub ruleset reading-terms = (read_both, read_add, read_mul, read_neg, read_pos, passed, at0, at1, at2, at3, at4, at5, at6, at7, at8, at9, at10, at11, at12, at13, at14, at15, read_negsuc, read_pos_add, read_pos_mul, read_pos_suc)

-- y - x as a polynomial
abbrev pub gap : {ρ : List ℤ} {x y : ℤ} → Read₂ ρ x y → Poly
gap r = norm (r.rhs.expr ⊕ ⊝ r.lhs.expr)

pub gap_is : {ρ : List ℤ} {x y : ℤ} (r : Read₂ ρ x y) → ev (gap r) ρ ≡ y -ℤ x
gap_is {ρ} r = sym (norm_sound (r.rhs.expr ⊕ ⊝ r.lhs.expr) ρ) ∙ ap₂ (λ a b. a -ℤ b) r.rhs.is r.lhs.is

pub sub_zero : (x y : ℤ) → y -ℤ x ≡ pos 0 → x ≡ y
sub_zero x y h = sym (neg_unique y (neg_ℤ x) h ∙ neg_ℤ-neg_ℤ x)

-- x = y, for two terms that `search reading-terms` reads, where y - x has no coefficient but zero
pub by_ring : (ρ : List ℤ) {x y : ℤ} (r : Read₂ ρ x y) → T (nil? (gap r)) → x ≡ y
by_ring ρ {x} {y} r t = sub_zero x y (sym (gap_is r) ∙ nil_is (gap r) ρ t)
