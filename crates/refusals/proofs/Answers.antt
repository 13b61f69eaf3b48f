-- Laws of answers: what the first refusal of several is, and what an answer without one tells. Assumes nothing.
use mathlib.Core.Path.{◌≡◌, refl, sym, ap, ◌∙◌}
use mathlib.Core.Bool.{Bool, true, false, cond}
use Prim.Native.Nat.{ℕ}
use native.Mathlib.Omega.{arith}
use Rattle.std.specs.Prelude.{Result}
use Rattle.refusals.specs.Answer.{Answer, Judged, gives, refuses, done, at_cell, unless, and_then, then, both, naming}

-- ---- f says a of a value z of the code, and z is v
pub said : {A B : Type 0} (f : A → B) {z v : A} {a : B} → f z ≡ a → z ≡ v → f v ≡ a
said f e g = sym (ap f g) ∙ e

-- ---- an answer is not both
pub not_both : {A E : Type 0} {v : A} {r : E} → ◌≡◌ {A = Result A E} (refuses r) (gives v) → ⊥
not_both e = let z : ◌≡◌ {A = ℕ} 0 1 = cc in omega arith

pub gives_injective : {A E : Type 0} {v w : A} → ◌≡◌ {A = Result A E} (gives v) (gives w) → v ≡ w
gives_injective {A} {E} {v} e = ap value e
  where
    value : Result A E → A
    value (gives u) = u
    value (refuses r) = v

-- ---- the first refusal of two
pub then_gives : {A B E : Type 0} (a : Result A E) (v : A) (n r : Result B E) → a ≡ gives v → r ≡ n → r ≡ then a n
then_gives a v n r e f = f ∙ ap (λ x. then x n) (sym e)

pub then_refuses : {A B E : Type 0} (a : Result A E) (n : Result B E) (x : E) → a ≡ refuses x → refuses x ≡ then a n
then_refuses a n x e = ap (λ y. then y n) (sym e)

pub then_then : {A B C E : Type 0} (a : Result A E) (b : Result B E) (n : Result C E) → then a (then b n) ≡ then (then a b) n
then_then (gives u) b n = refl
then_then (refuses r) b n = refl

pub then_tells : {A B E : Type 0} (a : Result A E) (n : Result B E) (v : B) → then a n ≡ gives v → ((u : A) × (a ≡ gives u)) × (n ≡ gives v)
then_tells (gives u) n v e = ((u, refl), e)
then_tells (refuses r) n v e = absurd (not_both e)

-- ---- a check by its test
pub unless_tells : {E : Type 0} (b : Bool) (r : E) → unless b r ≡ done → b ≡ true
unless_tells true r e = refl
unless_tells false r e = absurd (not_both e)

pub and_tells : (a b : Bool) → cond a b false ≡ true → (a ≡ true) × (b ≡ true)
and_tells true b e = (refl, e)
and_tells false b e = let z : ◌≡◌ {A = ℕ} 0 1 = cc in absurd (omega arith)

-- ---- what an answer without a refusal tells of those that it is made of
pub next_tells : {A B E : Type 0} (a : Result A E) (next : A → Result B E) (v : B) → and_then a next ≡ gives v → (u : A) × (a ≡ gives u) × (next u ≡ gives v)
next_tells (gives u) next v e = (u, refl, e)
next_tells (refuses r) next v e = absurd (not_both e)

pub both_tell : {A B E : Type 0} (a : Result A E) (b : Result B E) (v : A × B) → both a b ≡ gives v → (a ≡ gives v.0) × (b ≡ gives v.1)
both_tell {A} {B} {E} (gives x) (gives y) v e = let p : ◌≡◌ {A = A × B} (x, y) v = cc in (ap (λ (z : A × B). gives z.0) p, ap (λ (z : A × B). gives z.1) p)
both_tell (gives x) (refuses r) v e = absurd (not_both e)
both_tell (refuses r) b v e = absurd (not_both e)

pub naming_tells : {A : Type 0} (m : ℕ) (a : Answer A) (v : A) → naming m a ≡ gives v → a ≡ gives v
naming_tells m (gives u) v e = e
naming_tells m (refuses r) v e = absurd (not_both e)

pub placed_tells : {A : Type 0} (m i j : ℕ) (a : Judged A) (v : A) → at_cell m i j a ≡ gives v → a ≡ gives v
placed_tells m i j (gives u) v e = ap gives (gives_injective e)
placed_tells m i j (refuses r) v e = absurd (not_both e)
