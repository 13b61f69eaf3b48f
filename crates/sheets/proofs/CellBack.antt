-- What a written cell tells: its patterns are those of its numbers, and it is read back as it is. Assumes nothing.
use mathlib.Core.Path.{◌≡◌, refl, sym, subst, ◌∙◌}
use mathlib.Core.Bool.{Bool, true, false, cond}
use Prim.Native.Nat.{ℕ, ◌<◌}
use lib.Dec.{eqb}
use borrow.Author.Tests.{eqb-true}
use Rattle.std.specs.Prelude.{Some, None}
use Rattle.refusals.specs.Answer.{Judged, gives, refuses, done, then}
use Rattle.refusals.proofs.Answers.{not_both}
use Rattle.intervals.specs.Conversion.{fault_of}
use Rattle.sheets.specs.Cell.{HandedIn, canonical_of, both_zero, handed_of, widened_of}
use Rattle.sheets.proofs.Bounding.{fine_finite}
use Rattle.sheets.proofs.Exact.{zero_is, canonical_fits, widened_none}

pub record Back (a b x y : ℕ) : Type 0 where
  pub lower : x ≡ canonical_of a
  pub upper : y ≡ canonical_of b
  pub lower_fits : x < 4294967296
  pub upper_fits : y < 4294967296
  pub read : widened_of x y 0 ≡ gives (x, y)

-- what it tells that a and b are handed in as h
abbrev pub Tells : ℕ → ℕ → HandedIn → Type 0
Tells a b (gives None) = (canonical_of a ≡ 0) × (canonical_of b ≡ 0)
Tells a b (gives (Some (x, y))) = Back a b x y
Tells a b (refuses n) = fault_of a b ≡ done → ⊥

module _ (a b : ℕ) where
  back : fault_of a b ≡ done → Back a b (canonical_of a) (canonical_of b)
  back e =
      let f = fine_finite a b e in
      record {
        lower = refl;
        upper = refl;
        lower_fits = canonical_fits a f.0;
        upper_fits = canonical_fits b f.1;
        read = widened_none a b 0 e zero_is;
      }

  pub handed_tells : Tells a b (handed_of a b)
  unfolding handed_of both_zero
  handed_tells = go (fault_of a b) (eqb (canonical_of a) 0) (eqb (canonical_of b) 0) refl refl refl
    where
      go : (s : Judged (Unit {0})) (t u : Bool) → fault_of a b ≡ s → eqb (canonical_of a) 0 ≡ t → eqb (canonical_of b) 0 ≡ u
          → Tells a b (then s (cond (cond t u false) (gives None) (gives (Some (canonical_of a, canonical_of b)))))
      go (gives v) true true p q r = (eqb-true _ _ q, eqb-true _ _ r)
      go (gives v) true false p q r = back p
      go (gives v) false u p q r = back p
      go (refuses n) t u p q r = λ e. not_both (sym p ∙ e)

  pub cell_back : (x y : ℕ) → handed_of a b ≡ gives (Some (x, y)) → Back a b x y
  cell_back x y e = subst (Tells a b) e handed_tells
