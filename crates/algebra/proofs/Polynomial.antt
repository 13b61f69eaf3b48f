-- A decision procedure for identities of ℤ's ring. An expression over a list of integers is brought to a polynomial, a tree of coefficients;
-- two expressions whose difference has only zero coefficients are equal at every list.
-- In the tree no monomial is compared with another: a sum is taken coefficient by coefficient, and no canonical form is needed.
use mathlib.Core.Path.{◌≡◌, refl, sym, ◌∙◌, ap, ap₂}
use mathlib.Core.List.{List, [], ◌∷◌}
use mathlib.Core.Bool.{Bool, true, false, ◌&&◌}
use Prim.Native.Nat.{ℕ, zero, suc}
use lib.Dec.{T}
use lib.IntN.{ℤ, pos, negsuc, neg_ℤ, ◌+ℤ◌, ◌*ℤ◌, +ℤ_assoc, +ℤ_comm, +ℤ_idl, +ℤ_idr, neg_ℤ-+ℤ, zero-*ℤ, *ℤ-zero}
use Rattle.algebra.proofs.RingLaws.{swap4, add_mul, mul_add, mul_assoc, mul_left_comm, mul_neg, mul_one}

-- ---- expressions
pub data Expr : Type 0 where
  var : ℕ → Expr
  lit : ℤ → Expr
  ◌⊕◌ : Expr → Expr → Expr
  ◌⊗◌ : Expr → Expr → Expr
  ⊝◌ : Expr → Expr

infixl 6 ◌⊕◌
infixl 7 ◌⊗◌
infixl 8 ⊝◌
abbrev pub hd : List ℤ → ℤ
hd [] = pos 0
hd (x ∷ ρ) = x

abbrev pub tl : List ℤ → List ℤ
tl [] = []
tl (x ∷ ρ) = ρ

abbrev pub nth : List ℤ → ℕ → ℤ
nth ρ zero = hd ρ
nth ρ (suc i) = nth (tl ρ) i

abbrev pub den : Expr → List ℤ → ℤ
den (var i) ρ = nth ρ i
den (lit k) ρ = k
den (a ⊕ b) ρ = den a ρ +ℤ den b ρ
den (a ⊗ b) ρ = den a ρ *ℤ den b ρ
den (⊝ a) ρ = neg_ℤ (den a ρ)

-- ---- polynomials: `con k` is k, and `p ▹ q` is p + x * q, where x is the list's head and p is over its tail
pub data Poly : Type 0 where
  con : ℤ → Poly
  ◌▹◌ : Poly → Poly → Poly

infixr 5 ◌▹◌
abbrev pub ev : Poly → List ℤ → ℤ
ev (con k) ρ = k
ev (p ▹ q) ρ = ev p (tl ρ) +ℤ hd ρ *ℤ ev q ρ

abbrev pub addc : ℤ → Poly → Poly
addc a (con b) = con (a +ℤ b)
addc a (p ▹ q) = addc a p ▹ q

abbrev pub padd : Poly → Poly → Poly
padd (con a) r = addc a r
padd (p ▹ q) (con b) = addc b p ▹ q
padd (p ▹ q) (r ▹ s) = padd p r ▹ padd q s

abbrev pub pneg : Poly → Poly
pneg (con a) = con (neg_ℤ a)
pneg (p ▹ q) = pneg p ▹ pneg q

abbrev pub pmap : ℤ → Poly → Poly
pmap a (con b) = con (a *ℤ b)
pmap a (p ▹ q) = pmap a p ▹ pmap a q

abbrev pub scale : ℤ → Poly → Poly
scale (pos zero) r = con (pos zero)
scale (pos (suc n)) r = pmap (pos (suc n)) r
scale (negsuc n) r = pmap (negsuc n) r

abbrev pub shift : Poly → Poly
shift (con (pos zero)) = con (pos zero)
shift (con (pos (suc n))) = con (pos zero) ▹ con (pos (suc n))
shift (con (negsuc n)) = con (pos zero) ▹ con (negsuc n)
shift (p ▹ q) = con (pos zero) ▹ (p ▹ q)

abbrev pub inj : Poly → Poly
inj (con a) = con a
inj (p ▹ q) = (p ▹ q) ▹ con (pos zero)

abbrev pub under : (Poly → Poly) → Poly → Poly
under f (con a) = inj (f (con a))
under f (r ▹ s) = f r ▹ under f s

abbrev pub pmul : Poly → Poly → Poly
pmul (con a) r = scale a r
pmul (p ▹ q) r = padd (under (pmul p) r) (shift (pmul q r))

abbrev pub pvar : ℕ → Poly
pvar zero = con (pos zero) ▹ con (pos 1)
pvar (suc i) = pvar i ▹ con (pos zero)

abbrev pub norm : Expr → Poly
norm (var i) = pvar i
norm (lit k) = con k
norm (a ⊕ b) = padd (norm a) (norm b)
norm (a ⊗ b) = pmul (norm a) (norm b)
norm (⊝ a) = pneg (norm a)

-- ---- soundness
ev_addc : (a : ℤ) (p : Poly) (ρ : List ℤ) → ev (addc a p) ρ ≡ a +ℤ ev p ρ
ev_addc a (con b) ρ = refl
ev_addc a (p ▹ q) ρ = ap (λ x. x +ℤ hd ρ *ℤ ev q ρ) (ev_addc a p (tl ρ)) ∙ +ℤ_assoc a (ev p (tl ρ)) (hd ρ *ℤ ev q ρ)

pub ev_add : (p q : Poly) (ρ : List ℤ) → ev (padd p q) ρ ≡ ev p ρ +ℤ ev q ρ
ev_add (con a) r ρ = ev_addc a r ρ
ev_add (p ▹ q) (con b) ρ = ev_addc b (p ▹ q) ρ ∙ +ℤ_comm b (ev (p ▹ q) ρ)
ev_add (p ▹ q) (r ▹ s) ρ =
    ap₂ ◌+ℤ◌ (ev_add p r (tl ρ)) (ap (λ x. hd ρ *ℤ x) (ev_add q s ρ) ∙ mul_add (hd ρ) (ev q ρ) (ev s ρ)) ∙ swap4 (ev p (tl ρ)) (ev r (tl ρ)) (hd ρ *ℤ ev q ρ) (hd ρ *ℤ ev s ρ)

pub ev_neg : (p : Poly) (ρ : List ℤ) → ev (pneg p) ρ ≡ neg_ℤ (ev p ρ)
ev_neg (con a) ρ = refl
ev_neg (p ▹ q) ρ =
    ap₂ ◌+ℤ◌ (ev_neg p (tl ρ)) (ap (λ x. hd ρ *ℤ x) (ev_neg q ρ) ∙ mul_neg (hd ρ) (ev q ρ)) ∙ sym (neg_ℤ-+ℤ (ev p (tl ρ)) (hd ρ *ℤ ev q ρ))

pub ev_map : (a : ℤ) (p : Poly) (ρ : List ℤ) → ev (pmap a p) ρ ≡ a *ℤ ev p ρ
ev_map a (con b) ρ = refl
ev_map a (p ▹ q) ρ =
    ap₂ ◌+ℤ◌ (ev_map a p (tl ρ)) (ap (λ x. hd ρ *ℤ x) (ev_map a q ρ) ∙ mul_left_comm (hd ρ) a (ev q ρ)) ∙ sym (mul_add a (ev p (tl ρ)) (hd ρ *ℤ ev q ρ))

ev_scale : (a : ℤ) (p : Poly) (ρ : List ℤ) → ev (scale a p) ρ ≡ a *ℤ ev p ρ
ev_scale (pos zero) p ρ = sym (zero-*ℤ (ev p ρ))
ev_scale (pos (suc n)) p ρ = ev_map (pos (suc n)) p ρ
ev_scale (negsuc n) p ρ = ev_map (negsuc n) p ρ

ev_shift : (p : Poly) (ρ : List ℤ) → ev (shift p) ρ ≡ hd ρ *ℤ ev p ρ
ev_shift (con (pos zero)) ρ = sym (*ℤ-zero (hd ρ))
ev_shift (con (pos (suc n))) ρ = +ℤ_idl (hd ρ *ℤ pos (suc n))
ev_shift (con (negsuc n)) ρ = +ℤ_idl (hd ρ *ℤ negsuc n)
ev_shift (p ▹ q) ρ = +ℤ_idl (hd ρ *ℤ ev (p ▹ q) ρ)

ev_inj : (p : Poly) (ρ : List ℤ) → ev (inj p) ρ ≡ ev p (tl ρ)
ev_inj (con a) ρ = refl
ev_inj (p ▹ q) ρ = ap (λ x. ev (p ▹ q) (tl ρ) +ℤ x) (*ℤ-zero (hd ρ)) ∙ +ℤ_idr (ev (p ▹ q) (tl ρ))

ev_under : (f : Poly → Poly) (a : List ℤ → ℤ) → ((r : Poly) (σ : List ℤ) → ev (f r) σ ≡ a σ *ℤ ev r σ) → (r : Poly) (ρ : List ℤ) → ev (under f r) ρ ≡ a (tl ρ) *ℤ ev r ρ
ev_under f a h (con b) ρ = ev_inj (f (con b)) ρ ∙ h (con b) (tl ρ)
ev_under f a h (r ▹ s) ρ =
    ap₂ ◌+ℤ◌ (h r (tl ρ)) (ap (λ x. hd ρ *ℤ x) (ev_under f a h s ρ) ∙ mul_left_comm (hd ρ) (a (tl ρ)) (ev s ρ)) ∙ sym (mul_add (a (tl ρ)) (ev r (tl ρ)) (hd ρ *ℤ ev s ρ))

ev_mul : (p r : Poly) (ρ : List ℤ) → ev (pmul p r) ρ ≡ ev p ρ *ℤ ev r ρ
ev_mul (con a) r ρ = ev_scale a r ρ
ev_mul (p ▹ q) r ρ =
    ev_add (under (pmul p) r) (shift (pmul q r)) ρ ∙ ap₂ ◌+ℤ◌ (ev_under (pmul p) (ev p) (ev_mul p) r ρ) (ev_shift (pmul q r) ρ ∙ ap (λ x. hd ρ *ℤ x) (ev_mul q r ρ) ∙ sym (mul_assoc (hd ρ) (ev q ρ) (ev r ρ))) ∙ sym (add_mul (ev p (tl ρ)) (hd ρ *ℤ ev q ρ) (ev r ρ))

ev_var : (i : ℕ) (ρ : List ℤ) → ev (pvar i) ρ ≡ nth ρ i
ev_var zero ρ = +ℤ_idl (hd ρ *ℤ pos 1) ∙ mul_one (hd ρ)
ev_var (suc i) ρ = ap₂ ◌+ℤ◌ (ev_var i (tl ρ)) (*ℤ-zero (hd ρ)) ∙ +ℤ_idr (nth (tl ρ) i)

pub norm_sound : (e : Expr) (ρ : List ℤ) → den e ρ ≡ ev (norm e) ρ
norm_sound (var i) ρ = sym (ev_var i ρ)
norm_sound (lit k) ρ = refl
norm_sound (a ⊕ b) ρ = ap₂ ◌+ℤ◌ (norm_sound a ρ) (norm_sound b ρ) ∙ sym (ev_add (norm a) (norm b) ρ)
norm_sound (a ⊗ b) ρ = ap₂ ◌*ℤ◌ (norm_sound a ρ) (norm_sound b ρ) ∙ sym (ev_mul (norm a) (norm b) ρ)
norm_sound (⊝ a) ρ = ap neg_ℤ (norm_sound a ρ) ∙ sym (ev_neg (norm a) ρ)

-- ---- the test: every coefficient is zero
abbrev pub zero? : ℤ → Bool
zero? (pos zero) = true
zero? (pos (suc n)) = false
zero? (negsuc n) = false

abbrev pub nil? : Poly → Bool
nil? (con k) = zero? k
nil? (p ▹ q) = nil? p && nil? q

zero_is : (k : ℤ) → T (zero? k) → k ≡ pos 0
zero_is (pos zero) t = refl
zero_is (pos (suc n)) t = absurd t
zero_is (negsuc n) t = absurd t

pub and_l : (a b : Bool) → T (a && b) → T a
and_l true b t = tt
and_l false b t = t

pub and_r : (a b : Bool) → T (a && b) → T b
and_r true b t = t
and_r false b t = absurd t

pub nil_is : (p : Poly) (ρ : List ℤ) → T (nil? p) → ev p ρ ≡ pos 0
nil_is (con k) ρ t = zero_is k t
nil_is (p ▹ q) ρ t =
    ap₂ ◌+ℤ◌ (nil_is p (tl ρ) (and_l (nil? p) (nil? q) t)) (ap (λ x. hd ρ *ℤ x) (nil_is q ρ (and_r (nil? p) (nil? q) t)) ∙ *ℤ-zero (hd ρ))
