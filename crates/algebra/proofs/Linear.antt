-- Linear facts of integers by `omega`: `lin_le ρ facts (search reading depth 30) (omega arith)` proves x ≼ y from the facts listed, over the atoms ρ.
-- A product of two facts, `h ⊠ k`, is a fact too, so a goal that is not linear is proved by naming the products that it needs.
use mathlib.Core.Path.{◌≡◌}
use mathlib.Core.List.{List, [], ◌∷◌}
use Prim.Native.Nat.{◌≤◌, ◌<◌}
use lib.IntN.{ℤ}
use Rattle.algebra.specs.Order.{◌≼◌, ◌≺◌}
use Rattle.algebra.proofs.Reading.{Read₂, reading-terms}
use Rattle.algebra.proofs.Sides.{Dn, Up, nat_le, nat_lt, nat_eq, int_le, int_lt, int_eq}

pub data Fact : Type 0 where
  le : {x y : ℤ} → x ≼ y → Fact
  lt : {x y : ℤ} → x ≺ y → Fact
  eq : {x y : ℤ} → x ≡ y → Fact

pub data Facts (ρ : List ℤ) : List Fact → Type 0 where
  read_none : Facts ρ []
  read_le : {x y : ℤ} {h : x ≼ y} {fs : List Fact} → Read₂ ρ x y → Facts ρ fs → Facts ρ (le h ∷ fs)
  read_lt : {x y : ℤ} {h : x ≺ y} {fs : List Fact} → Read₂ ρ x y → Facts ρ fs → Facts ρ (lt h ∷ fs)
  read_eq : {x y : ℤ} {h : x ≡ y} {fs : List Fact} → Read₂ ρ x y → Facts ρ fs → Facts ρ (eq h ∷ fs)

pub record Task (ρ : List ℤ) (fs : List Fact) (x y : ℤ) : Type 0 where
  pub goal : Read₂ ρ x y
  pub facts : Facts ρ fs

abbrev pub read_task : {ρ : List ℤ} {fs : List Fact} {x y : ℤ} → Read₂ ρ x y → Facts ρ fs → Task ρ fs x y
read_task r s = record { goal = r; facts = s }

pub ruleset reading = (read_task, Facts.read_none, Facts.read_le, Facts.read_lt, Facts.read_eq, reading-terms)

-- the facts in the naturals, as hypotheses of G
abbrev pub Given : {ρ : List ℤ} {fs : List Fact} → Facts ρ fs → Type 0 → Type 0
Given read_none G = G
Given (read_le r s) G = Dn r ≤ Up r → Given s G
Given (read_lt r s) G = Dn r < Up r → Given s G
Given (read_eq r s) G = Dn r ≡ Up r → Given s G

use_all : {ρ : List ℤ} {fs : List Fact} (s : Facts ρ fs) (G : Type 0) → Given s G → G
use_all read_none G f = f
use_all {ρ} (read_le {h = h} r s) G f = use_all s G (f (nat_le ρ r h))
use_all {ρ} (read_lt {h = h} r s) G f = use_all s G (f (nat_lt ρ r h))
use_all {ρ} (read_eq {h = h} r s) G f = use_all s G (f (nat_eq ρ r h))

pub lin_le : (ρ : List ℤ) (fs : List Fact) {x y : ℤ} (t : Task ρ fs x y) → Given t.facts (Dn t.goal ≤ Up t.goal) → x ≼ y
lin_le ρ fs t f = int_le ρ t.goal (use_all t.facts (Dn t.goal ≤ Up t.goal) f)

pub lin_lt : (ρ : List ℤ) (fs : List Fact) {x y : ℤ} (t : Task ρ fs x y) → Given t.facts (Dn t.goal < Up t.goal) → x ≺ y
lin_lt ρ fs t f = int_lt ρ t.goal (use_all t.facts (Dn t.goal < Up t.goal) f)

pub lin_eq : (ρ : List ℤ) (fs : List Fact) {x y : ℤ} (t : Task ρ fs x y) → Given t.facts (Dn t.goal ≡ Up t.goal) → x ≡ y
lin_eq ρ fs t f = int_eq ρ t.goal (use_all t.facts (Dn t.goal ≡ Up t.goal) f)

-- from facts that cannot all hold
pub lin_absurd : (ρ : List ℤ) (fs : List Fact) (t : Facts ρ fs) → Given t ⊥ → ⊥
lin_absurd ρ fs t f = use_all t ⊥ f
