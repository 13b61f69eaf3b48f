-- Laws of the writing of a product: one for each way out of the code. Assumes nothing.
use mathlib.Core.Path.{◌≡◌, refl, ap}
use mathlib.Core.List.{List}
use Prim.Native.Nat.{ℕ}
use Rattle.refusals.specs.declared.Refusal.{Refusal}
use Rattle.refusals.specs.Answer.{Answer, gives, refuses, naming}
use Rattle.sheets.specs.declared.Sizes.{Sizes}
use Rattle.sheets.specs.Writing.{write_of, out_after}
use Rattle.sheets.specs.Trip.{TripOf}
use Rattle.job.specs.Factor.{Factor, in_arrays}
use Rattle.job.specs.Delivery.{written_of, out_of, BackOf}

-- what `deliver` ensures of its answer w
abbrev pub Delivers : (n : ℕ) (A : Answer Factor) (room : ℕ) (w : Answer ℕ) (d d' : List ℕ) → Type 0
Delivers n A room w d d' = (w ≡ written_of n A room) × ((d' ≡ out_of A w d) × BackOf A w d')

pub deliver_refused : (n : ℕ) (p : Answer Sizes) (lo up d : List ℕ) (room : ℕ) (x : Refusal) → p ≡ refuses x → Delivers n (in_arrays p lo up) room (refuses x) d d
unfolding written_of out_of BackOf
deliver_refused n p lo up d room x e = rw e (refl, (refl, tt))

-- by the writer's answer w of the product F, and v, the same with its refusal named
pub deliver_put : (n : ℕ) (A : Answer Factor) (d d' : List ℕ) (room : ℕ) {F : Factor} → A ≡ gives F → (w v : Answer ℕ)
    → w ≡ write_of F.rows F.columns F.lowers F.uppers room → d' ≡ out_after F.rows F.columns F.lowers F.uppers w d → TripOf F.rows F.columns F.lowers F.uppers w d'
    → v ≡ naming n w → Delivers n A room v d d'
unfolding written_of out_of BackOf out_after
deliver_put n A d d' room e (gives k) v a l t f = rw (e, f) (ap (naming n) a, (l, t))
deliver_put n A d d' room e (refuses x) v a l t f = rw (e, f) (ap (naming n) a, (l, t))
