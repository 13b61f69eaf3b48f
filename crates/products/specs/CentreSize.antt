-- The running sums of method 5's centre: C and G. Definitions only, for the contracts of private functions.
use Rattle.std.specs.Prelude.{◌≡◌, ◌⊎◌, Option as Maybe, Some, None, List, ℕ, ◌+◌, ◌*◌, ◌≤◌, ◌<◌, length, get_or, ℤ, pos, neg_ℤ, ◌+ℤ◌, ◌*ℤ◌, ◌-ℤ◌}
use Rattle.std.proofs.Math.Option.{Option, none, bind}
use Rattle.algebra.specs.Absolute.{abs}
use Rattle.rounding.specs.Format.{binary32}
use Rattle.rounding.specs.Rounding.{up, near, negate}
use Rattle.enclosure.specs.Arithmetic.{of}
use Rattle.enclosure.specs.Methods.{Range, ends, error_bound}
use Rattle.enclosure.specs.Sums.{sum}
use Rattle.binary32.specs.Number.{value_of, Finite}
use Rattle.binary32.specs.Operations.{mul}
use Rattle.unpacked.specs.declared.Number.{Number}
use Rattle.unpacked.specs.Number.{worth, IsNumber, Below, Holds, Runs, zero_number}
use Rattle.products.specs.declared.centre_size.CentreSize.{CentreSize}
use Rattle.products.specs.Continued.{Line, grown_by}

-- v + t, to nearest; none where t is none
abbrev pub plus_near : ℤ → Option ℤ → Option ℤ
plus_near v t = bind t λ u. near binary32 1 (v +ℤ u)

-- -|x| × |y|, to nearest
abbrev pub minus_size : ℤ → ℤ → Option ℤ
minus_size x y = negate (mul near (abs x) (abs y))

-- r has these two as its sums as they are kept, G negated; it is none where one of them is
abbrev pub SizedKept : (c g : Option ℤ) → Maybe CentreSize → Type 0
SizedKept c g None = (c ≡ none) ⊎ (g ≡ none)
SizedKept c g (Some r) = Runs c r.centre × Runs g r.size

-- r is s with x × y added to C and |x| × |y| to G
abbrev pub SizedStep : (s : CentreSize) (x y : ℤ) → Maybe CentreSize → Type 0
SizedStep s x y = SizedKept (plus_near (worth s.centre) (mul near x y)) (plus_near (worth s.size) (minus_size x y))

-- ---- sums over the pairs of an unpacked row, and of column j of patterns with n columns
pub record Pairs : Type 0 where
  pub k : ℕ
  pub n : ℕ
  pub j : ℕ
  pub row : List Number
  pub column : List ℕ

module _ (p : Pairs) where
  -- the factors of pair l
  abbrev pub number : ℕ → Number
  number l = get_or p.row l zero_number

  abbrev pub pattern : ℕ → ℕ
  pattern l = get_or p.column (l * p.n + p.j) 0

  -- the k pairs are within the lists, and all are numbers
  pub record Paired : Type 0 where
    pub few : p.k ≤ 32
    pub left : (l : ℕ) → l < p.k → (l < length p.row) × IsNumber (number l)
    pub right : (l : ℕ) → l < p.k → (l * p.n + p.j < 1024) × (l * p.n + p.j < length p.column) × Finite (pattern l)

  -- v plus x × y for each of the first l pairs, and v plus |x| × |y|, to nearest
  unfoldable pub centre_from : ℤ → ℕ → Option ℤ
  centre_from v l = sum (near binary32 1) (λ l. mul near (worth (number l)) (value_of (pattern l))) v l

  unfoldable pub size_from : ℤ → ℕ → Option ℤ
  size_from v l = sum (near binary32 1) (λ l. mul near (abs (worth (number l))) (abs (value_of (pattern l)))) v l

  -- r is s after the first l pairs, and both sums are numbers
  pub record SizedSum (s : CentreSize) (l : ℕ) (r : CentreSize) : Type 0 where
    pub centre : Runs (centre_from (worth s.centre) l) r.centre
    pub size : Runs (negate (size_from (neg_ℤ (worth s.size)) l)) r.size
    pub below : Below r.size

  -- after the first l pairs one of them is none
  abbrev pub SizedNone : CentreSize → ℕ → Type 0
  SizedNone s l = (centre_from (worth s.centre) l ≡ none) ⊎ (size_from (neg_ℤ (worth s.size)) l ≡ none)

  -- r is s after all k pairs, or none, where one of the sums is none
  abbrev pub SizedAll : CentreSize → Maybe CentreSize → Type 0
  SizedAll s None = SizedNone s p.k
  SizedAll s (Some r) = SizedSum s p.k r

-- ---- the entry

-- r is -2 × E for G = g
abbrev pub TwiceError : ℕ → ℤ → Number → Type 0
TwiceError k g r = Holds (negate (bind (error_bound (of binary32) k g) λ e. up binary32 1 (pos 2 *ℤ e))) r

-- R for G = g: the sum of (|mA| + rA) × (|mB| + rB), then - g, then + 2 × E
unfoldable pub radius_for : Line → ℤ → Option ℤ
radius_for w g =
    bind (grown_by w (pos 0) w.k) λ s. bind (up binary32 1 (s -ℤ g)) λ t. bind (error_bound (of binary32) w.k g) λ e.
    bind (up binary32 1 (pos 2 *ℤ e)) λ d. up binary32 1 (t +ℤ d)

-- C and G: over the pairs p of midpoints, then over the pairs q of parts
abbrev pub centre_over : Pairs → Pairs → Option ℤ
centre_over p q = bind (centre_from p (pos 0) p.k) λ v. centre_from q v q.k

abbrev pub size_over : Pairs → Pairs → Option ℤ
size_over p q = bind (size_from p (pos 0) p.k) λ v. size_from q v q.k

-- the bounds
unfoldable pub range_of : Pairs → Pairs → Line → Option Range
range_of p q w = ends (of binary32) (bind (size_over p q) λ g. radius_for w g) (centre_over p q) (centre_over p q)
