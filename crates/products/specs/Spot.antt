-- One entry by methods 3, 4, 5 and 7 on its way: what is read for a pair, and the sums over midpoints after l pairs. Definitions only, for the contracts of
-- private functions.
use Rattle.std.specs.Prelude.{List, ℕ, ◌+◌, ◌*◌, ℤ, pos, get_or, Option as Maybe, Some, None}
use Rattle.std.proofs.Math.Option.{Option}
use Rattle.rounding.specs.Format.{binary32}
use Rattle.rounding.specs.Rounding.{up, down, near}
use Rattle.enclosure.specs.Arithmetic.{of}
use Rattle.enclosure.specs.Cell.{Cell}
use Rattle.enclosure.specs.Sums.{sum}
use Rattle.enclosure.specs.Methods.{mid_term, inner_term, raised_term}
use Rattle.binary32.specs.Operations.{Way}
use Rattle.unpacked.specs.Number.{Below}
use Rattle.products.specs.declared.centred.Centred.{Centred}
use Rattle.products.specs.declared.nearest.Nearest.{Nearest}
use Rattle.products.specs.declared.operands.Operands.{Operands}
use Rattle.products.specs.Centred.{CentredSum, NearestSum, OneNone}
use Rattle.products.specs.MidRad.{mid_rad_at}

-- an entry's row i and column j, and the midpoints and radii of A (k columns) and of B (n columns)
pub record Spot : Type 0 where
  pub k : ℕ
  pub n : ℕ
  pub ma : List ℕ
  pub ra : List ℕ
  pub mb : List ℕ
  pub rb : List ℕ
  pub i : ℕ
  pub j : ℕ

-- the entry in row i and column j
abbrev pub spot : Operands → ℕ → ℕ → Spot
spot o i j = record { k = o.shape.k; n = o.shape.n; ma = o.ma.now; ra = o.ra.now; mb = o.mb.now; rb = o.rb.now; i = i; j = j }

module _ (p : Spot) where
  -- ---- the patterns and the cells of pair l
  abbrev pub a_mid : ℕ → ℕ
  a_mid l = get_or p.ma (p.i * p.k + l) 0

  abbrev pub a_rad : ℕ → ℕ
  a_rad l = get_or p.ra (p.i * p.k + l) 0

  abbrev pub b_mid : ℕ → ℕ
  b_mid l = get_or p.mb (l * p.n + p.j) 0

  abbrev pub b_rad : ℕ → ℕ
  b_rad l = get_or p.rb (l * p.n + p.j) 0

  abbrev pub left : ℕ → Cell
  left l = mid_rad_at p.ma p.ra (p.i * p.k + l)

  abbrev pub right : ℕ → Cell
  right l = mid_rad_at p.mb p.rb (l * p.n + p.j)

  -- ---- the sums over midpoints after l pairs
  unfoldable pub middles : Way → ℕ → Option ℤ
  middles way l = sum (way binary32 1) (λ l. mid_term (of binary32) (way binary32) (left l) (right l)) (pos 0) l

  unfoldable pub inners : ℕ → Option ℤ
  inners l = sum (up binary32 1) (λ l. inner_term (of binary32) (left l) (right l)) (pos 0) l

  unfoldable pub MiddleSum : ℕ → Centred → Type 0
  MiddleSum l s = CentredSum (middles down l) (middles up l) (inners l) s × Below s.radius

  -- one of them is none in the end
  unfoldable pub MiddleNone : Type 0
  MiddleNone = OneNone (middles down p.k) (middles up p.k) (inners p.k)

  -- the sums after pair l too, or none, where one of them is none
  abbrev pub MiddleAfter : ℕ → Maybe Centred → Type 0
  MiddleAfter l None = MiddleNone
  MiddleAfter l (Some t) = MiddleSum (l + 1) t

  -- ---- the first sums of method 3 after l pairs
  unfoldable pub raiseds : ℕ → Option ℤ
  raiseds l = sum (up binary32 1) (λ l. raised_term (of binary32) p.k (left l) (right l)) (pos 0) l

  unfoldable pub FirstSum : ℕ → Nearest → Type 0
  FirstSum l s = NearestSum (middles near l) (raiseds l) s
