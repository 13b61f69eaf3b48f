-- Sums continued over the pairs of a row and a column. Definitions only, for the contracts of inner functions.
use Rattle.std.specs.Prelude.{List, ℕ, ◌+◌, ◌*◌, ◌<◌, ℤ, neg_ℤ, length, get_or}
use Rattle.std.proofs.Math.Option.{Option}
use Rattle.std.specs.Prelude.{Option as Maybe, Some, None}
use Rattle.rounding.specs.Format.{binary32}
use Rattle.rounding.specs.Rounding.{up, down, negate}
use Rattle.enclosure.specs.Sums.{sum}
use Rattle.binary32.specs.Number.{Finite}
use Rattle.binary32.specs.Operations.{Way, mul, with₂}
use Rattle.binary32.specs.Order.{magnitude_of}
use Rattle.unpacked.specs.declared.Number.{Number}
use Rattle.unpacked.specs.Number.{worth, Holds}
use Rattle.products.specs.declared.centred.Centred.{Centred}
use Rattle.products.specs.Centred.{shrinkage, CentredSum, OneNone}

-- row i of patterns with k columns, and column j of patterns with n columns
pub record Line : Type 0 where
  pub k : ℕ
  pub n : ℕ
  pub i : ℕ
  pub j : ℕ
  pub row : List ℕ
  pub column : List ℕ

module _ (p : Line) where
  -- the patterns of pair l
  abbrev pub first : ℕ → ℕ
  first l = get_or p.row (p.i * p.k + l) 0

  abbrev pub second : ℕ → ℕ
  second l = get_or p.column (l * p.n + p.j) 0

  -- the k pairs are within the lists
  pub record Reaches : Type 0 where
    pub left : (l : ℕ) → l < p.k → (p.i * p.k + l < 1024) × (p.i * p.k + l < length p.row)
    pub right : (l : ℕ) → l < p.k → (l * p.n + p.j < 1024) × (l * p.n + p.j < length p.column)

  -- the column's patterns are numbers
  abbrev pub Numbers : Type 0
  Numbers = (l : ℕ) → l < p.k → Finite (second l)

  -- ---- a radius: v plus |u| × |w| for each of the first l pairs, all up
  unfoldable pub grown_by : ℤ → ℕ → Option ℤ
  grown_by v l = sum (up binary32 1) (λ l. with₂ (mul up) (magnitude_of (first l)) (magnitude_of (second l))) v l

  -- r is the radius x after all k pairs; both are kept negated
  abbrev pub Continued : Number → Number → Type 0
  Continued x r = Holds (negate (grown_by (neg_ℤ (worth x)) p.k)) r

  -- ---- method 7's parts: a centre, v plus x × y for each of the first l pairs, and a radius, v less |x| × |y| for each
  unfoldable pub centre_by : Way → ℤ → ℕ → Option ℤ
  centre_by way v l = sum (way binary32 1) (λ l. with₂ (mul way) (first l) (second l)) v l

  unfoldable pub shrunk_by : ℤ → ℕ → Option ℤ
  shrunk_by v l = sum (up binary32 1) (λ l. negate (shrinkage (first l) (second l))) v l

  -- r is s after the first l pairs, and all three sums are numbers
  abbrev pub PartsSum : Centred → ℕ → Centred → Type 0
  PartsSum s l r = CentredSum (centre_by down (worth s.lower) l) (centre_by up (neg_ℤ (worth s.opposed)) l) (shrunk_by (neg_ℤ (worth s.radius)) l) r

  -- after the first l pairs one of the three sums is none
  abbrev pub PartsNone : Centred → ℕ → Type 0
  PartsNone s l = OneNone (centre_by down (worth s.lower) l) (centre_by up (neg_ℤ (worth s.opposed)) l) (shrunk_by (neg_ℤ (worth s.radius)) l)

  -- r is s after all k pairs, or none, where one of the sums is none
  abbrev pub PartsAdded : Centred → Maybe Centred → Type 0
  PartsAdded s None = PartsNone s p.k
  PartsAdded s (Some r) = PartsSum s p.k r
