-- A turn of the loops of methods 3, 4, 5 and 7: what a pair of an entry reads, and what was worked out for its cells.
use mathlib.Core.Path.{◌≡◌}
use mathlib.Core.Bool.{true, false}
use mathlib.Core.List.{List}
use mathlib.Core.Option.{none}
use Prim.Native.Nat.{ℕ, ◌+◌, ◌*◌, ◌<◌}
use lib.Dec.{ltb}
use lib.IntN.{neg_ℤ}
use lib.ListN.{get_or}
use Rattle.rounding.specs.Rounding.{negate}
use Rattle.binary32.specs.Number.{value_of, held}
use Rattle.unpacked.specs.declared.Number.{Number}
use Rattle.unpacked.specs.Number.{worth, Runs}
use Rattle.products.specs.Continued.{Continued}
use Rattle.products.specs.Derived.{Derived, outer_of, raised_of, factor_of, part_of}
use Rattle.products.specs.MidRad.{Sized}
use Rattle.products.specs.Spot.{Spot, b_mid, b_rad}
use Rattle.products.proofs.Ending.{places}
use Rattle.products.proofs.FourEntry.{Read, line, outers, outer_runs, outer_none}
use Rattle.products.proofs.SevenEntry.{Made}

module _ (m : ℕ) (p : Spot) {lo up : ℕ} (z : Sized m p.k p.n p.ma p.ra p.mb p.rb lo up) (h : p.i < m) (e : p.j < p.n) where
  -- what pair l of it reads
  pub pair : (l : ℕ) → l < p.k → Read p l (m * p.k)
  pair l g = places m p.k p.n p.i p.j l _ _ _ _ _ _ z h e g

  -- the radius is continued over what is read of wb
  module _ (wb : List ℕ) (D : Derived outer_of (p.k * p.n) p.mb p.rb wb) where
    wide : (l : ℕ) → l < p.k → held (get_or wb (l * p.n + p.j) 0) ≡ outer_of (value_of (b_mid p l)) (value_of (b_rad p l))
    wide l g = D.each _ (pair l g).second

    pub radius_runs : (x r : Number) → Continued (line p p.ra wb) x r → ltb 653 r.exp ≡ false → Runs (negate (outers p (neg_ℤ (worth x)) p.k)) r
    radius_runs x r = outer_runs p wb (m * p.k) pair wide x r

    pub radius_none : (x r : Number) → Continued (line p p.ra wb) x r → ltb 653 r.exp ≡ true → outers p (neg_ℤ (worth x)) p.k ≡ none
    radius_none x r = outer_none p wb (m * p.k) pair wide x r

  -- what is read of vb holds rB'
  module _ (vb : List ℕ) (D : Derived (raised_of (factor_of p.k)) (p.k * p.n) p.mb p.rb vb) where
    pub scaled : (l : ℕ) → l < p.k → held (get_or vb (l * p.n + p.j) 0) ≡ raised_of (factor_of p.k) (value_of (b_mid p l)) (value_of (b_rad p l))
    scaled l g = D.each _ (pair l g).second

  -- the parts of the cells
  module _ (pa pb : List ℕ) (F : Derived part_of (m * p.k) p.ma p.ra pa) (G : Derived part_of (p.k * p.n) p.mb p.rb pb) where
    pub made : (l : ℕ) → l < p.k → Made p l (get_or pa (p.i * p.k + l) 0) (get_or pb (l * p.n + p.j) 0)
    made l g = record { first = F.each _ (pair l g).first; second = G.each _ (pair l g).second }
